-- The look-up of a key in a segment.
use Rattle.std.specs.Prelude.{◌≤◌, ◌+◌, ℕ, List, Option, IfErr, IfOk, IfSome, Result}
use Rattle.fd_pages.specs.Parts.{IsSeen}
use Rattle.fd_segment.specs.declared.fault.LensFault.{LensFault}
use Rattle.fd_segment.specs.Causes.{IsFindDamage, IsPlace, OnDamaged, StandsForNone}
use Rattle.fd_segment.specs.Copying.{IsOfBatch}
use Rattle.fd_segment.specs.Held.{Files, behind}

-- What these files say of the key was answered: where its bytes stand, within the fields, or that they aren't there; or what damage was met,
-- as it is only where the files stand for no batch.
pub record IsLookUp {F : Type 0} (f : Files) (key : List ℕ) (result : Result (Option (ℕ × ℕ)) (LensFault F)) : Type 0 where
  pub place : IfOk result (IsPlace f.entry f.index key)
  pub seen : IfOk result (IsSeen f.index f.entry.index_len key)
  pub batch : IfOk result (IsOfBatch f key)
  pub inside : IfOk result (λ o. IfSome o (λ p. p.0 + p.1 + behind f.entry ≤ f.entry.fields_len))
  pub damaged : IfErr result (λ e. OnDamaged e (IsFindDamage f.entry f.index key))
  pub sound : IfErr result (λ e. OnDamaged e (λ _. StandsForNone f))
