-- A key of at most 255 bytes has a place whose texts are short: each pair of the key stands in one of them at most, once.
use Rattle.std.proofs.Common.{◌≡◌, ◌⊎◌, inl, inr, ℕ, ◌+◌, ◌≤◌, ◌||◌, Bool, true, false, if◌then◌else◌, List, [], ◌∷◌, ◌++◌, length, Some, refl, sym, ap, ap₂, subst, ◌∙◌, arith, append_assoc, append-nil, length-append, IfOk, Result, Ok, Err}
use Rattle.std.specs.List.{list_any}
use Rattle.std.specs.Str.{bytes_eq}
use Rattle.std.proofs.lemmas.List.Folds.{list_any-append}
use Rattle.std.proofs.lemmas.Slice.Eq.{bytes_eq-Decides}
use Rattle.fd_key.specs.Pairs.{Pair, key_text, pair_text, rest_text, text_of}
use Rattle.fd_schema.specs.declared.rule.Level.{Level}
use Rattle.fd_schema.specs.declared.rule.Level.TheVariants.{Dataset, Index, Datum}
use Rattle.fd_schema.specs.declared.rule.Version.{Version}
use Rattle.fd_schema.specs.Rules.{IsShort, Item, Rule, Texts, admits, has_name, level_pairs, level_text, pair_if, place_from, same_level, texts_of}
use Rattle.fd_schema.specs.Grammar.{IsSchema}
use Rattle.fd_schema.specs.declared.place.Place.{Place}
use Rattle.fd_schema.specs.declared.fault.PlaceFault.{PlaceFault}
use Rattle.fd_schema.specs.Reading.{GivesPlace, seen_place}
use Rattle.fd_schema.proofs.Facts.{Follow, IsItem, IsRule, are_rules}

true_or_false : (b : Bool) → (b ≡ true) ⊎ (b ≡ false)
true_or_false true = inl refl
true_or_false false = inr refl

-- ---- the length of pairs

-- the pairs' texts, each with a byte behind it
abbrev size : List Pair → ℕ
size [] = 0
size (p ∷ ps) = length (pair_text p) + 1 + size ps

size_rest : (ps : List Pair) → length (rest_text ps) ≡ size ps
size_rest [] = refl
size_rest (p ∷ ps) = omega (arith, length-append (pair_text p) (rest_text ps), size_rest ps)

size_text : (ps : List Pair) → (length (key_text ps) ≡ 0) × (size ps ≡ 0) ⊎ (length (key_text ps) + 1 ≡ size ps)
size_text [] = inl (refl, refl)
size_text (p ∷ ps) = inr (omega (arith, length-append (pair_text p) (rest_text ps), size_rest ps))

size_both : (ps qs : List Pair) → size (ps ++ qs) ≡ size ps + size qs
size_both [] qs = omega arith
size_both (p ∷ ps) qs = omega (arith, size_both ps qs)

-- ---- names that differ

-- no item has a name that another before it has
abbrev News : List Item → List Item → Type 0
News before [] = Unit {0}
News before (i ∷ is) = (has_name before i.name ≡ false) × News (before ++ i ∷ []) is

news_follow : (version : Version) (level : Level) (before is : List Item) → Follow (IsItem version level) before is → News before is
news_follow version level before [] f = tt
news_follow version level before (i ∷ is) f = (f.0.named.new, news_follow version level (before ++ i ∷ []) is f.1)

news_both : (before is js : List Item) → News before is → News (before ++ is) js → News before (is ++ js)
news_both before [] js n m = subst (λ (b : List Item). News b js) (append-nil before) m
news_both before (i ∷ is) js n m = (n.0, news_both (before ++ i ∷ []) is js n.1 (subst (λ (b : List Item). News b js) (sym (append_assoc before (i ∷ []) is)) m))

news_rule : (version : Version) (before : List Rule) (rule : Rule) → IsRule version before rule → News [] rule.items
news_rule version before rule r = subst (News []) (sym r.is)
    (news_both [] (r.dataset ++ r.index) r.datum
    (news_both [] r.dataset r.index (news_follow version Dataset [] r.dataset r.datasets) (news_follow version Index r.dataset r.index r.indexes))
    (news_follow version Datum (r.dataset ++ r.index) r.datum r.datums))

-- none of the items has the name
abbrev NoneIs : List ℕ → List Item → Type 0
NoneIs n [] = Unit {0}
NoneIs n (i ∷ is) = (bytes_eq i.name n ≡ false) × NoneIs n is

text_symmetric : (n m : List ℕ) → bytes_eq n m ≡ true → bytes_eq m n ≡ true
text_symmetric n m e = (bytes_eq-Decides m n).1 (sym ((bytes_eq-Decides n m).0 e))

has_more : (before : List Item) (i : Item) (n : List ℕ) → has_name before n ≡ true → has_name (before ++ i ∷ []) n ≡ true
has_more before i n e = list_any-append (λ (j : Item). bytes_eq j.name n) before (i ∷ []) ∙ ap (λ (b : Bool). b || list_any (λ (j : Item). bytes_eq j.name n) (i ∷ [])) e

none_later : (n : List ℕ) (before is : List Item) → has_name before n ≡ true → News before is → NoneIs n is
none_later n before [] has news = tt
none_later n before (i ∷ is) has news = (
  elim (true_or_false (bytes_eq i.name n)) as (λ _. bytes_eq i.name n ≡ false) [
    | inl same ↦ absurd (let e : i.name ≡ n = (bytes_eq-Decides i.name n).0 same in cc (ap (has_name before) e, news.0, has))
    | inr differs ↦ differs
  ],
  none_later n (before ++ i ∷ []) is (has_more before i n has) news.1,
)

has_last : (before : List Item) (i : Item) → has_name (before ++ i ∷ []) i.name ≡ true
has_last before i =
    list_any-append (λ (j : Item). bytes_eq j.name i.name) before (i ∷ [])
    ∙ or_true (list_any (λ (j : Item). bytes_eq j.name i.name) before) (list_any (λ (j : Item). bytes_eq j.name i.name) (i ∷ [])) (or_first (bytes_eq i.name i.name) ((bytes_eq-Decides i.name i.name).1 refl))
  where
    or_true : (a b : Bool) → b ≡ true → (a || b) ≡ true
    or_true true b e = refl
    or_true false b e = e

    or_first : (a : Bool) → a ≡ true → (a || false) ≡ true
    or_first a e = ap (λ (b : Bool). b || false) e

-- ---- the pairs of a rule's names

abbrev pairs_of : List Item → List Pair → List Pair
pairs_of [] key = []
pairs_of (i ∷ is) key = pair_if i.name (text_of key i.name) ++ pairs_of is key

same_without : (is : List Item) (p : Pair) (ps : List Pair) → NoneIs p.0 is → pairs_of is (p ∷ ps) ≡ pairs_of is ps
same_without [] p ps none = refl
same_without (i ∷ is) p ps none =
    ap₂ (λ (b : Bool) (qs : List Pair). pair_if i.name (if b then Some p.1 else text_of ps i.name) ++ qs) none.0 (same_without is p ps none.1)

more_at_most : (before is : List Item) (p : Pair) (ps : List Pair) → News before is → size (pairs_of is (p ∷ ps)) ≤ length (pair_text p) + 1 + size (pairs_of is ps)
more_at_most before [] p ps news = omega arith
more_at_most before (i ∷ is) p ps news = elim (true_or_false (bytes_eq i.name p.0)) as (λ _. size (pairs_of (i ∷ is) (p ∷ ps)) ≤ length (pair_text p) + 1 + size (pairs_of (i ∷ is) ps)) [
  | inl same ↦
      let e : i.name ≡ p.0 = (bytes_eq-Decides i.name p.0).0 same in
      let none : NoneIs p.0 is = subst (λ (n : List ℕ). NoneIs n is) e (none_later i.name (before ++ i ∷ []) is (has_last before i) news.1) in
      let a = ap (λ (b : Bool). size (pair_if i.name (if b then Some p.1 else text_of ps i.name) ++ pairs_of is (p ∷ ps))) same in
      let b = ap (λ (qs : List Pair). length (pair_text (i.name, p.1)) + 1 + size qs) (same_without is p ps none) in
      let c = ap (λ (n : List ℕ). length (pair_text (n, p.1))) e in
      let d = size_both (pair_if i.name (text_of ps i.name)) (pairs_of is ps) in
      omega (arith, a, b, c, d)
  | inr differs ↦
      let a = ap (λ (b : Bool). size (pair_if i.name (if b then Some p.1 else text_of ps i.name) ++ pairs_of is (p ∷ ps))) differs in
      let b = size_both (pair_if i.name (text_of ps i.name)) (pairs_of is (p ∷ ps)) in
      let c = size_both (pair_if i.name (text_of ps i.name)) (pairs_of is ps) in
      let d = more_at_most (before ++ i ∷ []) is p ps news.1 in
      omega (arith, a, b, c, d)
]

none_of : (is : List Item) → pairs_of is [] ≡ []
none_of [] = refl
none_of (i ∷ is) = none_of is

at_most_key : (is : List Item) (key : List Pair) → News [] is → size (pairs_of is key) ≤ size key
at_most_key is [] news = omega (arith, ap size (none_of is))
at_most_key is (p ∷ ps) news = let a = more_at_most [] is p ps news in let b = at_most_key is ps news in omega (arith, a, b)

-- ---- the levels of a rule

three_levels : (is : List Item) (key : List Pair) → size (level_pairs Dataset is key) + size (level_pairs Index is key) + size (level_pairs Datum is key) ≡ size (pairs_of is key)
unfolding level_pairs
three_levels [] key = refl
three_levels (i ∷ is) key =
    let rest = three_levels is key in
    let own = pair_if i.name (text_of key i.name) in
    let whole = size_both own (pairs_of is key) in
    let d = size_both (if same_level i.level Dataset then own else []) (level_pairs Dataset is key) in
    let n = size_both (if same_level i.level Index then own else []) (level_pairs Index is key) in
    let t = size_both (if same_level i.level Datum then own else []) (level_pairs Datum is key) in
    go i.level own rest whole d n t
  where
    go : (l : Level) (own : List Pair) → size (level_pairs Dataset is key) + size (level_pairs Index is key) + size (level_pairs Datum is key) ≡ size (pairs_of is key) → size (own ++ pairs_of is key) ≡ size own + size (pairs_of is key)
        → size ((if same_level l Dataset then own else []) ++ level_pairs Dataset is key) ≡ size (if same_level l Dataset then own else []) + size (level_pairs Dataset is key)
        → size ((if same_level l Index then own else []) ++ level_pairs Index is key) ≡ size (if same_level l Index then own else []) + size (level_pairs Index is key)
        → size ((if same_level l Datum then own else []) ++ level_pairs Datum is key) ≡ size (if same_level l Datum then own else []) + size (level_pairs Datum is key)
        → size ((if same_level l Dataset then own else []) ++ level_pairs Dataset is key) + size ((if same_level l Index then own else []) ++ level_pairs Index is key) + size ((if same_level l Datum then own else []) ++ level_pairs Datum is key) ≡ size (own ++ pairs_of is key)
    go Dataset own rest whole d n t = omega (arith, rest, whole, d, n, t)
    go Index own rest whole d n t = omega (arith, rest, whole, d, n, t)
    go Datum own rest whole d n t = omega (arith, rest, whole, d, n, t)

short_by : (number : ℕ) (rule : Rule) (key : List Pair) → News [] rule.items → length (key_text key) ≤ 255 → IsShort (texts_of number rule key)
short_by number rule key news short =
    let all = at_most_key rule.items key news in
    let three = three_levels rule.items key in
    let d = size_text (level_pairs Dataset rule.items key) in
    let n = size_text (level_pairs Index rule.items key) in
    let t = size_text (level_pairs Datum rule.items key) in
    let k = size_text key in
    let joined = length-append (level_text Index rule.items key) (124 ∷ level_text Datum rule.items key) in
    record { dataset = omega (arith, all, three, d, k, short); key = omega (arith, all, three, n, t, k, short, joined) }

short_from : (version : Version) (number : ℕ) (before rules : List Rule) (key : List Pair) (place : Texts) → Follow (IsRule version) before rules → place_from number rules key ≡ Some place → length (key_text key) ≤ 255 → IsShort place
unfolding place_from
short_from version number before [] key place all is short = absurd (cc is)
short_from version number before (r ∷ rs) key place all is short = elim (true_or_false (admits r key)) as (λ _. IsShort place) [
  | inl first ↦
      let one : Some (texts_of number r key) ≡ Some place = sym (ap (λ (b : Bool). if b then Some (texts_of number r key) else place_from (number + 1) rs key) first) ∙ is in
      let same : texts_of number r key ≡ place = cc one in
      subst IsShort same (short_by number r key (news_rule version before r all.0) short)
  | inr later ↦ short_from version (number + 1) (before ++ r ∷ []) rs key place all.1 (sym (ap (λ (b : Bool). if b then Some (texts_of number r key) else place_from (number + 1) rs key) later) ∙ is) short
]

pub short_place : (rules : List Rule) (key : List Pair) (place : Texts) → IsSchema rules → place_from 0 rules key ≡ Some place → length (key_text key) ≤ 255 → IsShort place
short_place rules key place schema is short = let are = are_rules schema.0 rules schema.1 in short_from are.version 0 [] rules key place are.all is short

-- what a call answered is short
pub if_placed : (rules : List Rule) (key : List Pair) (answer : Result Place PlaceFault) → IsSchema rules → GivesPlace answer (place_from 0 rules key) → IfOk answer (λ p. length (key_text key) ≤ 255 → IsShort (seen_place p))
if_placed rules key (Ok p) schema gives = λ short. short_place rules key (seen_place p) schema gives short
if_placed rules key (Err e) schema gives = tt
