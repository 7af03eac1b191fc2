use Rattle.std.proofs.Common.{◌≡◌, drop}
use Rattle.std.specs.List.{list_any}
use Rattle.fd_request.specs.Grammar.{is_range_word}
use Rattle.fd_request.specs.Seen.{seen_words}
use Rattle.fd_request.proofs.word.has_range_word.Given as goal

abbrev pub invariant-loop-word : goal.invariant-loop-word
invariant-loop-word l = list_any (λ w. is_range_word w.text) (seen_words l.words) ≡ list_any (λ w. is_range_word w.text) (seen_words (drop l.word-index l.words))
