-- Nothing of the input is read where the schema doesn't let the session begin.
use Rattle.std.proofs.Common.{◌≡◌, List, Option, Some, None, Result, Ok, subst}
use Rattle.std.specs.Prelude.{IfSome}
use Rattle.std.specs.Result.{IsErr}
use Rattle.fd_disk.specs.Folders.{Holdings}
use Rattle.fd_schema.specs.Rules.{Rule}
use Rattle.fd_outcome.specs.Asking.{rules_of}
use Rattle.fd_stored.specs.Causes.{Cause}

-- the store has rules
pub reads_ruled : (P : Type 0) (rules : List Rule) (before : Option Holdings) → IfSome before (λ h. rules_of h.schema ≡ Ok rules) → IfSome before (λ h. IsErr (rules_of h.schema) → P)
reads_ruled P rules None are = tt
reads_ruled P rules (Some h) are = λ unfit. absurd (let none : IsErr {T = List Rule} {E = Cause} (Ok rules) = subst (λ (r : Result (List Rule) Cause). IsErr r) are unfit in cc none)

-- nothing was read
pub reads_none : (P : Type 0) (before : Option Holdings) → P → IfSome before (λ h. IsErr (rules_of h.schema) → P)
reads_none P None unread = tt
reads_none P (Some h) unread = λ unfit. unread
