use Rattle.std.proofs.Common.{◌≡◌, drop}
use Rattle.fd_request.specs.Grammar.{behind_words}
use Rattle.fd_request.specs.Seen.{seen_words}
use Rattle.fd_request.proofs.word.behind_words.Given as goal

abbrev pub invariant-loop-word : goal.invariant-loop-word
invariant-loop-word l = behind_words (seen_words l.words) ≡ behind_words (seen_words (drop l.word-index l.words))
