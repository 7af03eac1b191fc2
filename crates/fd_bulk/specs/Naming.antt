-- The texts that were noted are those of open datasets.
use Rattle.std.specs.Prelude.{◌≡◌, ℕ, true, List, All}
use Rattle.fd_library.specs.Open.{among}
use Rattle.fd_sheets.specs.declared.sheets.Sheet.{Sheet}
use Rattle.fd_sheets.specs.Names.{IsKnown}

-- each of these texts is that of an open dataset
abbrev pub AreOpened : List (List ℕ) → List (List ℕ) → Type 0
AreOpened texts names = All (λ t. among t names ≡ true) texts

-- a dataset was opened, if it wasn't; those that were open are
pub record IsOpened (name : List ℕ) (old new : List (List ℕ)) : Type 0 where
  pub opened : among name new ≡ true
  pub stay : (n : List ℕ) → among n old ≡ true → among n new ≡ true

-- a message was dealt: what was known is, and each text that is noted is that of an open dataset, where it was so before
pub record Notes (before after : List (List ℕ)) (old new : List (List ℕ)) : Type 0 where
  pub known : (s : Sheet) → IsKnown before s → IsKnown after s
  pub opened : AreOpened before old → AreOpened after new
