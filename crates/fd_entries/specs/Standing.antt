-- In which ways a table of contents stands between two calls.
use Rattle.std.specs.Prelude.{◌≡◌, ◌≢◌, ◌+◌, ◌<◌, ◌≤◌, ℕ, List, [], ◌∷◌, ◌++◌, length}
use Rattle.fd_disk.specs.declared.file.File.{File}
use Rattle.fd_disk.specs.declared.file.Range.{Range}
use Rattle.fd_disk.specs.Images.{firm_file, AllFrom}
use Rattle.fd_entries.specs.declared.table.Entry.{Entry}
use Rattle.fd_entries.specs.Table.{table_of, body_of, gate_at, IsTable, Fits, AllFit}

-- nothing up to the closed gate is loose
pub record IsSettled (dataset : List ℕ) (es : List Entry) (f : File) : Type 0 where
  pub firm : IsTable dataset es f.firm
  pub reads : IsTable dataset es f.reads
  pub loose : AllFrom (gate_at (length es) + 1) f.loose

-- the entry's body stands firm behind the closed gate, and behind it a closed gate
pub record IsStaged (dataset : List ℕ) (es : List Entry) (f : File) (e : Entry) : Type 0 where
  pub gate : ℕ
  pub tail : List ℕ
  pub shut : gate ≢ 79
  pub firm : f ≡ firm_file (table_of dataset es gate (body_of e ++ 0 ∷ tail))
  pub short : length dataset ≤ 255
  pub fit : AllFit 0 es
  pub fits : Fits (length es) e
  pub few : length es < 65535

abbrev pub AllAt : ℕ → List Range → Type 0
AllAt p [] = Unit {0}
AllAt p (r ∷ rs) = (r.at ≡ p) × (r.len ≡ 1) × AllAt p rs

-- the entry's gate may have been opened: its byte alone is loose
pub record IsInDoubt (dataset : List ℕ) (es : List Entry) (f : File) (e : Entry) : Type 0 where
  pub gate : ℕ
  pub tail : List ℕ
  pub shut : gate ≢ 79
  pub firm : f.firm ≡ table_of dataset es gate (body_of e ++ 0 ∷ tail)
  pub short : length dataset ≤ 255
  pub fit : AllFit 0 es
  pub loose : AllAt (gate_at (length es)) f.loose
  pub fits : Fits (length es) e
  pub few : length es < 65535
