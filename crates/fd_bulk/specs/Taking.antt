-- How far a stream is stored.
use Rattle.std.specs.Prelude.{◌≡◌, ◌+◌, ℕ, Bool, List, [], ◌++◌, length}
use Rattle.fd_sections.specs.Frames.{frames}
use Rattle.fd_key.specs.Pairs.{Pair}
use Rattle.fd_schema.specs.Rules.{Rule}
use Rattle.fd_stored.specs.Archiving.{Stored, Taken, datasets_in, taken_after, taken_of_fields}
use Rattle.fd_split.specs.Positions.{Position, fields_from, skipped_from}

-- fields that are stored before others
abbrev pub behind : List Stored → Taken → Taken
behind ss t = record { stored = ss ++ t.stored; refusal = t.refusal; junk = t.junk; next = t.next }

-- what is stored from here on, after fields of these datasets, whatever more comes
abbrev pub taken_from : List Rule → List Pair → List (List ℕ) → Position → Bool → List ℕ → Taken
taken_from rules given datasets a past more = taken_of_fields rules given datasets (skipped_from a more) (fields_from a past more)

-- From one position to another fields were gone over, and these were stored: whatever more comes, what is stored from the one on is
-- these, and then what is stored from the other on.
pub record StoresOn (rules : List Rule) (given : List Pair) (datasets : List (List ℕ)) (a b : Position) (ss : List Stored) : Type 0 where
  pub is_fed : b.split.fed ≡ a.split.fed
  pub on : (past : Bool) (more : List ℕ) → taken_from rules given datasets a past more ≡ behind ss (taken_from rules given (datasets ++ datasets_in ss) b past more)

-- From one position to another these were stored, behind the fields x; all are y.
pub record StoredOn (rules : List Rule) (given : List Pair) (a b : Position) (x y : List Stored) : Type 0 where
  pub new : List Stored
  pub adds : y ≡ x ++ new
  pub on : StoresOn rules given (datasets_in x) a b new

-- The fields of the octets seen were gone over up to this position, and these were stored.
pub record Seen (rules : List Rule) (given : List Pair) (a : Position) (all : List Stored) (seen : List ℕ) : Type 0 where
  pub is_fed : a.split.fed ≡ length seen
  pub on : (past : Bool) (more : List ℕ) → taken_after rules given past [] 0 0 (frames (seen ++ more)) ≡ behind all (taken_from rules given (datasets_in all) a past more)
