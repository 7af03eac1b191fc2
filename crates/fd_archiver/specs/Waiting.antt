-- The segment that waits to be listed.
use Rattle.std.specs.Prelude.{Bool, true, false, Option, None, Some}
use Rattle.std.specs.Arc.{arc_value}
use Rattle.fd_segment.specs.Held.{Standing}
use Rattle.fd_archiver.specs.declared.archiver.Unlisted.{Unlisted}
use Rattle.fd_archiver.specs.declared.archiver.Unlisted.TheVariants.{No, Sealed, Kept}

module _ {F Z A : Type 0} where
  abbrev pub waiting : Unlisted F Z A → Option Standing
  waiting No = None
  waiting (Sealed s) = Some s
  waiting (Kept a) = Some (arc_value a)

  abbrev pub is_kept : Unlisted F Z A → Bool
  is_kept No = false
  is_kept (Sealed s) = false
  is_kept (Kept a) = true
