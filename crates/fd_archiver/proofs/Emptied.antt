-- What is pending after a listing.
use Rattle.std.proofs.Common.{◌≡◌, [], subst, Option, None}
use Rattle.fd_segment.specs.Held.{Standing}
use Rattle.fd_segment.specs.Filling.{Puts}
use Rattle.fd_archiver.specs.Writing.{IsPending, IsPendingIn, Writing}

-- nothing was put behind a batch that was listed
pub listed_end : {H : Type 0} (w : Writing H) → w.unlisted ≡ None → IsPending w [] → w.draft.end ≡ 0
listed_end w none pending = let puts : Puts w.draft [] = subst (λ (u : Option Standing). IsPendingIn w.told u w.draft []) none pending in puts.end
