use Rattle.std.proofs.Common.{◌≡◌, drop, map}
use Rattle.clap.specs.Words.{app_of}
use Rattle.fd_words.specs.Grammar.{plain, with_leaves}
use Rattle.fd_words.proofs.app.with_plain.Given as goal

abbrev pub invariant-loop-name : goal.invariant-loop-name
invariant-loop-name l = with_leaves (app_of l.grown) (map plain (drop l.name-index l.names)) ≡ with_leaves (app_of l.fn.command) (map plain l.names)
