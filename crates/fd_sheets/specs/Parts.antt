-- Parts of the fields that are whole: the places of one are looked for while the next is taken.
use Rattle.std.specs.Prelude.{◌≡◌, ◌<◌, ◌+◌, ℕ, Bool, List, [], length, slice_index_or, Result}
use Rattle.fd_sections.specs.Message.{Sections}
use Rattle.fd_sections.specs.Progress.{Progress}
use Rattle.fd_key.specs.Pairs.{Pair}
use Rattle.fd_schema.specs.Rules.{Rule}
use Rattle.fd_split.specs.Positions.{Position}
use Rattle.fd_sheets.specs.declared.sheets.Sheet.{Sheet}
use Rattle.fd_sheets.specs.declared.sheets.Unsplit.{Unsplit}
use Rattle.fd_sheets.specs.Sheets.{AreSome, IsLookedUp, IsOpen, Placed, Shrinks, Stays, Took, standing}

-- sheets before and after their places were looked for
pub record AreLookedUp (rules : List Rule) (given : List Pair) (before after : List Sheet) : Type 0 where
  pub long : length after ≡ length before
  pub each : (i : ℕ) (e : Sheet) → i < length before → IsLookedUp rules given (slice_index_or before i e) (slice_index_or after i e)

-- these fields were taken, however many came before, and why no more were
pub record TookPart (p : Progress) (fs : List Sections) (q : Progress) (left : List Sections) (sheets : List Sheet) (result : Result Bool Unsplit) : Type 0 where
  pub took : (n : ℕ) → Took (standing p fs n) q left sheets result
  pub room : Shrinks p fs [] q left sheets
  pub is_open : IsOpen q left
  pub is_fed : q.fed ≡ p.fed

-- from this position these fields were taken, with their places, and why no more were
pub record TookPlaced (rules : List Rule) (given : List Pair) (a : Position) (q : Progress) (left : List Sections) (sheets : List Sheet) (result : Result Bool Unsplit) : Type 0 where
  pub middle : Position
  pub placed : Placed rules given a sheets middle
  pub stays : Stays middle (standing q left (a.count + length sheets)) result
  pub some : AreSome sheets result
