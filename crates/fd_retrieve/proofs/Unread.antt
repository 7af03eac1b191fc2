-- An input of which nothing is read where the stored schema is none.
use Rattle.std.proofs.Common.{◌≡◌, ◌∙◌, ℕ, true≢false, List, Option, Some, None, IfSome, Ok, refl, sym, ap}
use Rattle.std.specs.Result.{IsErr, is_err}
use Rattle.fd_disk.specs.Folders.{Holdings}
use Rattle.fd_schema.specs.Rules.{Rule}
use Rattle.fd_outcome.specs.Asking.{rules_of}
use Rattle.fd_outcome.specs.Noticing.{IsUnread}
use Rattle.fd_outcome.specs.Objects.{Object, object}

-- the input is as it was
pub unread_same : (has : Option Holdings) (left : Option (List ℕ)) (n : ℕ) → IfSome has (λ h. IsErr (rules_of h.schema) → IsUnread (object left left n n))
unread_same None left n = tt
unread_same (Some h) left n = λ bad. record { same = refl; calm = refl }

-- the schema has rules
pub unread_ruled : (has : Option Holdings) (rules : List Rule) (input : Object (List ℕ)) → IfSome has (λ h. rules_of h.schema ≡ Ok rules) → IfSome has (λ h. IsErr (rules_of h.schema) → IsUnread input)
unread_ruled None rules input is = tt
unread_ruled (Some h) rules input is = λ bad. absurd (true≢false (sym bad ∙ ap is_err is))

pub ruleset unread = (unread_same, unread_ruled)
