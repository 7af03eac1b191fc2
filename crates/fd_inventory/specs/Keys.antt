-- What is seen of a stored key.
use Rattle.std.specs.Prelude.{◌≡◌, ◌+◌, ◌-◌, ◌^◌, ◌<◌, ◌≤◌, ◌&&◌, ℕ, List, [], length, string_bytes, nat_le, Option, Some, None, IfSome, if◌then◌else◌}
use Rattle.fd_inventory.specs.declared.stored_key.StoredKey.{StoredKey}
use Rattle.fd_inventory.specs.declared.stored_key.Lead.{Lead}
use Rattle.fd_inventory.specs.declared.stored_key.Reader.{Reader}
use Rattle.fd_spelling.specs.Numerals.{cut, ◌>>=◌}
use Rattle.fd_spelling.specs.Texts.{is_ascii}
use Rattle.fd_key.specs.Pairs as keys
use Rattle.fd_key.specs.Pairs.{key_text}
use Rattle.fd_inventory.specs.Found.{AreSpelled}
use Rattle.fd_outcome.specs.Rows.{Stored, if_short, with_text}

-- these are the texts of a stored key, and its pairs
pub record IsStored (s : Option Stored) (k : StoredKey) : Type 0 where
  pub key : Stored
  pub is : s ≡ Some key
  pub index : string_bytes k.index ≡ key.index
  pub datum : string_bytes k.datum ≡ key.datum
  pub pairs : k.key ≡ key.pairs

-- these are the texts of a stored key, and its pairs, as a reader has them
pub record IsKey (s : Option Stored) (index_text datum_text : List ℕ) (ps : List keys.Pair) : Type 0 where
  pub key : Stored
  pub is : s ≡ Some key
  pub index : index_text ≡ key.index
  pub datum : datum_text ≡ key.datum
  pub pairs : ps ≡ key.pairs

-- how many bytes a text has, and one, if there is a text
abbrev pub length_if : Option (List ℕ) → ℕ
length_if None = 0
length_if (Some text) = length text + 1

-- the index text and the datum text that a key in the files is
unfoldable pub texts : List ℕ → Option (List ℕ × List ℕ)
texts key = if nat_le (length key) 256 && is_ascii key then cut 124 key else None

-- the pairs of a dataset's text and of an index text
unfoldable pub leading : List ℕ → List ℕ → Option (List keys.Pair)
leading dataset index = with_text [] dataset >>= λ ds. with_text ds index

-- the stored key of such pairs and of a datum text
unfoldable pub ending : List keys.Pair → List ℕ → List ℕ → Option Stored
ending is index datum = with_text is datum >>= λ us. if_short index datum is us

-- the pairs, if their text is short
abbrev pub if_fits : List keys.Pair → Option (List keys.Pair)
if_fits us = if nat_le (length (key_text us)) 255 then Some us else None

-- such pairs and those of a datum text, if they are a stored key's
unfoldable pub whole : List keys.Pair → List ℕ → Option (List keys.Pair)
whole is datum = with_text is datum >>= if_fits

-- the same where there may be no such pairs
abbrev pub whole_behind : Option (List keys.Pair) → List ℕ → Option (List keys.Pair)
whole_behind pairs datum = pairs >>= λ is. whole is datum

-- the stored key of such pairs, if there are any, and of a datum text
abbrev pub behind : Option (List keys.Pair) → List ℕ → List ℕ → Option Stored
behind pairs index datum = pairs >>= λ is. ending is index datum

-- pairs that a text is, behind which those of the datum text have room
pub record IsFirstOf (datum : List ℕ) (ps : List keys.Pair) : Type 0 where
  pub spelled : AreSpelled ps
  pub room : length ps + length datum < 2 ^ 32 - 1

-- the pairs are those that stand before the ones of the index's datum texts
pub record IsLead (dataset : List ℕ) (l : Lead) : Type 0 where
  pub is : l.pairs ≡ leading dataset (string_bytes l.index)
  pub few : IfSome l.pairs (λ k. length k ≤ length dataset + length (string_bytes l.index) + 2)

-- the lead that a reader has, if it has one, is of this dataset
abbrev pub HasLead : List ℕ → Reader → Type 0
HasLead dataset r = IfSome r.lead (IsLead dataset)
