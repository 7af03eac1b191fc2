use Rattle.std.proofs.Common.{◌≡◌, drop, map, take}
use Rattle.std.specs.String.{string_bytes}
use Rattle.fd_words.specs.Texts.{texts}
use Rattle.fd_program.proofs.words_of.Given as goal

abbrev pub invariant-loop-text : goal.invariant-loop-text
invariant-loop-text l = texts l.words.items ≡ map string_bytes (take l.text-index (drop 1 l.fn.arguments))
