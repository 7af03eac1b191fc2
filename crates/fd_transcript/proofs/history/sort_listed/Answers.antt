use Rattle.std.proofs.Common.{rules}
use Rattle.std.proofs.lemmas.List.Sorted.{IsNonDecreasingBy-from_sort_by_key, answers_always}
use Rattle.fd_transcript.specs.Seen.{entry_number}
use Rattle.fd_transcript.proofs.Entries.{same_at}
use Rattle.fd_transcript.proofs.history.sort_listed.Goals as goal

pub returns-clause-sorted : goal.returns-clause-sorted
returns-clause-sorted c = IsNonDecreasingBy-from_sort_by_key entry_number _ c.in_ok-sort_by_key.ensures.sorted (λ a r q k. search rules)

pub returns-clause-same : goal.returns-clause-same
returns-clause-same c = same_at c.args.listed.now c.sort_by_key.new.self (c.sort_by_key.ensures.stable entry_number (answers_always _ _ _ (λ f a r g h. search rules)))
