-- Rows as they are kept, in the order of their texts.
use Rattle.std.specs.Prelude.{◌≡◌, ◌&&◌, ℕ, Bool, false, List, length, map, string_bytes, Some, unwrap_or}
use Rattle.std.specs.List.{AllZip, list_any}
use Rattle.std.specs.Str.{bytes_eq}
use Rattle.std.specs.Prelude.{String}
use Rattle.std.specs.declared.alloc.Global.{Global}
use Rattle.std.specs.declared.cmp.Ordering.{Ordering}
use Rattle.std.specs.Ordering.{nat_cmp, ordering_then}
use Rattle.std.specs.Cmp.Lexicographic.{slice_cmp}
use Rattle.std.specs.List.Sorted.{IsStrictlySortedBy}
use Rattle.std.specs.BTreeMap.{insert_entry, is_at}
use Rattle.std.specs.Map.{keys_of, lookup}
use Rattle.fd_entries.specs.declared.batch.Pair.{Pair}
use Rattle.fd_entries.specs.Batches.{newest}
use Rattle.fd_index.specs.Records.{Record}
use Rattle.fd_inventory.specs.declared.rows.Newest.{Newest}
use Rattle.fd_outcome.specs.Rows.{Row, Stored, newest_number, order, put, row_order}

-- what a line of `list` has: two texts, a length and a number
pub record Shown : Type 0 where
  pub index : List ℕ
  pub datum : List ℕ
  pub len : ℕ
  pub number : ℕ

abbrev pub shown : Row → Shown
shown r = record { index = r.key.index; datum = r.key.datum; len = r.len; number = r.number }

abbrev pub Kept : Type 0
Kept = (String Global × String Global) × Newest

abbrev pub kept : Kept → Shown
kept e = record { index = string_bytes e.0.0; datum = string_bytes e.0.1; len = e.1.len; number = e.1.number }

abbrev pub Texts : Type 0
Texts = String Global × String Global

-- by index text, and then by datum text
abbrev pub texts_order : Texts → Texts → Ordering
texts_order x y = ordering_then (slice_cmp nat_cmp (string_bytes x.0) (string_bytes y.0)) (slice_cmp nat_cmp (string_bytes x.1) (string_bytes y.1))

abbrev pub shown_order : Shown → Shown → Ordering
shown_order a b = ordering_then (order a.index b.index) (order a.datum b.datum)

-- the entries of a map, in order, are these rows
pub record AreRows (es : List Kept) (rs : List Row) : Type 0 where
  pub same : map kept es ≡ map shown rs
  pub ordered : IsStrictlySortedBy texts_order (keys_of es)

-- one of the rows has the texts
abbrev pub has_row : List Row → List ℕ → List ℕ → Bool
has_row rs index datum = list_any (λ r. bytes_eq index r.key.index && bytes_eq datum r.key.datum) rs

-- where no row has the key's texts, its newest bytes have this length, in the entry with this number
abbrev pub IsNewestUnless : List (List Pair) → List Row → List ℕ → Stored → ℕ → ℕ → Type 0
IsNewestUnless t rs key s len number =
    has_row rs s.index s.datum ≡ false → ((bytes : List ℕ) × (newest t key ≡ Some bytes) × (length bytes ≡ len) × (newest_number 1 t key ≡ Some number))

-- each record has its pair's key, and the length of the pair's bytes
abbrev pub AreLengths : List Record → List Pair → Type 0
AreLengths rs b = AllZip (λ r p. (r.key ≡ p.key) × (r.len ≡ length p.bytes)) rs b

-- the entries with one more, unless there is one of its texts
abbrev pub with_entry : List Kept → Texts → Newest → List Kept
with_entry es k v = insert_entry texts_order es k (unwrap_or (lookup (is_at (texts_order k)) es) v)

-- A map after a row was added to it, unless there was one of its texts.
abbrev pub AddsRow : List Kept → List Kept → String Global → String Global → Newest → Type 0
AddsRow old new index datum newest = (rs : List Row) (r : Row) → r.key.index ≡ string_bytes index → r.key.datum ≡ string_bytes datum
    → (has_row rs r.key.index r.key.datum ≡ false → (r.len ≡ newest.len) × (r.number ≡ newest.number)) → AreRows old rs → AreRows new (put row_order r rs)
