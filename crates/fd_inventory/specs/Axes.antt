-- The values of names as they are kept, and the lines of `axes`.
use Rattle.std.specs.Prelude.{◌≡◌, ◌≤◌, ℕ, Bool, List, [], ◌∷◌, ◌++◌, length, map, string_bytes, Option, Some, None, String}
use Rattle.std.specs.BTreeMap.{BTreeMap, is_at}
use Rattle.std.specs.declared.alloc.Global.{Global}
use Rattle.std.specs.declared.cmp.Ordering.{Ordering}
use Rattle.std.specs.declared.cmp.Ordering.TheVariants.{Less, Equal, Greater}
use Rattle.fd_key.specs.Pairs as keys
use Rattle.fd_key.specs.Pairs.{text_of}
use Rattle.fd_listing.specs.Lines.{blank, line}
use Rattle.fd_inventory.specs.Shown.{Kept, kept, shown}
use Rattle.fd_outcome.specs.Rows.{Row, indexes, names_in, of_index, order, put, values_in, values_text, with_text}

-- ---- values of names of index texts, each list in byte order

-- what stands at a text
abbrev pub At : Type 0 → Type 0
At X = List ℕ × X

abbrev pub upsert_by : {X : Type 0} → Ordering → (X → X) → X → List ℕ → At X → List (At X) → List (At X) → List (At X)
upsert_by Less change first text e es others = (text, change first) ∷ (e ∷ es)
upsert_by Equal change first text e es others = (e.0, change e.1) ∷ es
upsert_by Greater change first text e es others = e ∷ others

-- what stands at the text is changed; where nothing stands there, this is put in its place first
abbrev pub upsert : {X : Type 0} → (X → X) → X → List ℕ → List (At X) → List (At X)
upsert change first text [] = (text, change first) ∷ []
upsert change first text (e ∷ es) = upsert_by (order text e.0) change first text e es (upsert change first text es)

abbrev pub Values : Type 0
Values = List (List ℕ)

-- a value of a name
abbrev pub put_pair : List ℕ → List ℕ → List (At Values) → List (At Values)
put_pair name value names = upsert (put order value) [] name names

-- the values of pairs, from the last one on
abbrev pub put_pairs : List keys.Pair → List (At Values) → List (At Values)
put_pairs [] names = names
put_pairs (p ∷ ps) names = put_pair p.0 p.1 (put_pairs ps names)

-- the values of pairs of an index text were added
abbrev pub AddsIndex : List ℕ → List keys.Pair → List (At (List (At Values))) → List (At (List (At Values))) → Type 0
AddsIndex index pairs old new = new ≡ upsert (put_pairs pairs) [] index old

-- ---- as they are kept

-- by bytes
abbrev pub text_order : String Global → String Global → Ordering
text_order x y = order (string_bytes x) (string_bytes y)

-- the key has this text
abbrev pub at_text : List ℕ → String Global → Bool
at_text text k = is_at (λ x. order text (string_bytes x)) k

-- the entries of a map, if there is one
abbrev pub entries_or_none : {X : Type 0} → Option (BTreeMap (String Global) X) → List (String Global × X)
entries_or_none None = []
entries_or_none (Some m) = m.entries

abbrev pub KeptValues : Type 0
KeptValues = BTreeMap (String Global) (Unit {0})

abbrev pub KeptNames : Type 0
KeptNames = BTreeMap (String Global) KeptValues

abbrev pub seen_values : List (String Global × Unit {0}) → Values
seen_values es = map (λ e. string_bytes e.0) es

abbrev pub seen_name : String Global × KeptValues → At Values
seen_name e = (string_bytes e.0, seen_values e.1.entries)

abbrev pub seen_names : List (String Global × KeptValues) → List (At Values)
seen_names es = map seen_name es

abbrev pub seen_index : String Global × KeptNames → At (List (At Values))
seen_index e = (string_bytes e.0, seen_names e.1.entries)

abbrev pub seen_axes : List (String Global × KeptNames) → List (At (List (At Values)))
seen_axes es = map seen_index es

-- ---- of rows

-- each name in the datum texts, with its values
abbrev pub names_of : List Row → List (At Values)
names_of rs = map (λ n. (n, values_in n rs)) (names_in rs)

-- each index text, with the names in its datum texts
abbrev pub axes_of : List Row → List (At (List (At Values)))
axes_of rs = map (λ i. (i, names_of (of_index i rs))) (indexes rs)

abbrev pub AreAxes : List (String Global × KeptNames) → List Row → Type 0
AreAxes es rs = seen_axes es ≡ axes_of rs

-- no name comes twice
abbrev pub AreApart : List keys.Pair → Type 0
AreApart [] = Unit {0}
AreApart (p ∷ ps) = (text_of ps p.0 ≡ None) × AreApart ps

-- the datum text is the pairs of the datum, and short
pub record HasDatum (r : Row) : Type 0 where
  pub pairs : with_text [] r.key.datum ≡ Some r.key.datum_pairs
  pub apart : AreApart r.key.datum_pairs
  pub short : length r.key.datum ≤ 256

abbrev pub HaveData : List Row → Type 0
HaveData [] = Unit {0}
HaveData (r ∷ rs) = HasDatum r × HaveData rs

-- of rows, the first are still kept, and the values of the others are known
pub record AreHalfway (es : List Kept) (axes : List (String Global × KeptNames)) (rs : List Row) : Type 0 where
  pub front : List Row
  pub back : List Row
  pub split : rs ≡ front ++ back
  pub texts : HaveData front
  pub rows : map kept es ≡ map shown front
  pub axes_are : AreAxes axes back

-- ---- lines

abbrev pub axis_line : List ℕ → List ℕ → At Values → List ℕ
axis_line dataset index n = line (dataset ++ blank (index ++ blank (n.0 ++ 61 ∷ values_text n.1)))

abbrev pub names_lines : List ℕ → List ℕ → List (At Values) → List ℕ
names_lines dataset index [] = []
names_lines dataset index (n ∷ ns) = axis_line dataset index n ++ names_lines dataset index ns

abbrev pub axes_lines : List ℕ → List (At (List (At Values))) → List ℕ
axes_lines dataset [] = []
axes_lines dataset (x ∷ xs) = names_lines dataset x.0 x.1 ++ axes_lines dataset xs
