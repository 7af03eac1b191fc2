-- The lines of rows, and the causes of what ends them.
use Rattle.std.specs.Prelude.{◌≡◌, ℕ, List, [], ◌∷◌, ◌++◌, Result, Ok, Err}
use Rattle.std.specs.Fmt.{decimal}
use Rattle.fd_bytes.specs.Causes.{Rose}
use Rattle.fd_listing.specs.Lines.{blank, line}
use Rattle.fd_inventory.specs.declared.fault.LinesFault.{LinesFault}
use Rattle.fd_inventory.specs.declared.fault.LinesFault.TheVariants as lines
use Rattle.fd_inventory.specs.Shown.{Shown}

-- the line of a row: dataset, index, datum, length and number
abbrev pub shown_line : List ℕ → Shown → List ℕ
shown_line dataset x = line (dataset ++ blank (x.index ++ blank (x.datum ++ blank (decimal x.len ++ blank (decimal x.number)))))

unfoldable pub shown_lines : List ℕ → List Shown → List ℕ
shown_lines dataset [] = []
shown_lines dataset (x ∷ xs) = shown_line dataset x ++ shown_lines dataset xs

-- A write failed only where the sink's count of faults rose, and at every other answer the count is as before.
abbrev pub HasLinesCause : {A F X : Type 0} → Result A (LinesFault F X) → ℕ → ℕ → Type 0
HasLinesCause (Ok done) before now = now ≡ before
HasLinesCause (Err (lines.Disk f)) before now = now ≡ before
HasLinesCause (Err (lines.Write x)) before now = Rose before now
HasLinesCause (Err (lines.Damaged d)) before now = now ≡ before
HasLinesCause (Err lines.NoMemory) before now = now ≡ before

-- texts, each as a line
unfoldable pub text_lines : List (List ℕ) → List ℕ
text_lines [] = []
text_lines (t ∷ ts) = line t ++ text_lines ts
