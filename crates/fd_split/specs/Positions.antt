-- How far a stream was split into its fields.
use Rattle.std.specs.Prelude.{◌≡◌, ◌≤◌, ◌+◌, ◌*◌, ℕ, Bool, List, [], ◌∷◌, ◌++◌, length, Option, Some}
use Rattle.fd_sections.specs.Message.{Sections}
use Rattle.fd_sections.specs.Frames.{frames}
use Rattle.fd_sections.specs.Joining.{IsWaiting}
use Rattle.fd_sections.specs.Progress.{Progress}
use Rattle.fd_sections.specs.Splitting.{fed}
use Rattle.fd_split.specs.declared.refusal.Refusal.{Refusal}
use Rattle.fd_split.specs.Fields.{FieldList, Numbered, all_numbered, behind_fields, fields_after}

-- How far a stream was split into messages, which fields of the last of them are still to come, and how many fields came.
pub record Position : Type 0 where
  pub split : Progress
  pub rest : List Sections
  pub count : ℕ

-- so many fields came, and none is to come before the next message
abbrev pub at_message : Progress → ℕ → Position
at_message p n = record { split = p; rest = []; count = n }

-- after a piece came
abbrev pub fed_at : Position → List ℕ → Position
fed_at a piece = record { split = fed a.split piece; rest = a.rest; count = a.count }

-- The fields from here on, where this more comes.
abbrev pub fields_from : Position → Bool → List ℕ → FieldList
fields_from a past more = behind_fields (all_numbered a.split.given a.rest) (fields_after past a.split.given (frames (a.split.rest ++ more)))

-- how many octets are skipped in all then
abbrev pub skipped_from : Position → List ℕ → ℕ
skipped_from a more = a.split.skipped + (frames (a.split.rest ++ more)).skipped

-- From one position to another these fields come. Whatever more comes, the fields from the one are these and then those from the other.
pub record FieldsOn (a b : Position) (given : List Numbered) : Type 0 where
  pub is_fed : b.split.fed ≡ a.split.fed
  pub counts : b.count ≡ a.count + length given
  pub joins : (past : Bool) (more : List ℕ) → fields_from a past more ≡ behind_fields given (fields_from b past more)
  pub skips : (more : List ℕ) → skipped_from a more ≡ skipped_from b more

-- The next message is refused so, whatever more comes.
pub record RefusesNext (a : Position) (refusal : Refusal) (number : ℕ) : Type 0 where
  pub from_one : 1 ≤ number
  pub joins : (past : Bool) (more : List ℕ) → fields_from a past more ≡ record { fields = []; refusal = Some refusal; next = number }

-- no field is to come, and no message is whole
pub record IsIdle (a : Position) : Type 0 where
  pub none : a.rest ≡ []
  pub waits : IsWaiting a.split

-- What is held has room for so many octets: each field that is to come takes 16 of them.
abbrev pub weight : Position → ℕ
weight a = length a.split.rest + 16 * length a.rest
