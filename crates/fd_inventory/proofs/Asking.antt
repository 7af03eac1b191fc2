-- Keys that are asked for, and rows of them.
use Rattle.std.proofs.Common.{◌≡◌, ◌∙◌, ℕ, Bool, true, false, true≢false, cond, List, [], length, Option, Some, None, refl, sym, ap, subst, string_bytes, unwrap_or}
use Rattle.std.specs.Prelude.{String}
use Rattle.std.specs.declared.alloc.Global.{Global}
use Rattle.std.proofs.lemmas.List.Sums.{AllPass-from_list_all, list_all-from_AllPass}
use Rattle.std.proofs.lemmas.Map.Views.{Contains-from_any, list_any-from_Contains}
use Rattle.std.proofs.lemmas.Slice.Eq.{bytes_eq-Decides}
use Rattle.std.proofs.lemmas.Cmp.{nat_list_eq_equiv}
use Rattle.fd_entries.specs.declared.batch.Pair.{Pair}
use Rattle.fd_key.specs.Pairs as keys
use Rattle.fd_key.specs.Pairs.{text_of}
use Rattle.fd_request.specs.Expansion.{Keyword}
use Rattle.fd_request.specs.Matching.{Admits, Matches}
use Rattle.fd_inventory.specs.declared.rows.Newest.{Newest}
use Rattle.fd_inventory.specs.Keys.{IsKey}
use Rattle.fd_inventory.specs.Shown.{AddsRow, AreRows, IsNewestUnless, Kept, has_row}
use Rattle.fd_outcome.specs.Rows.{Row, Stored, is_one_of, matches, put, put_matching, row_of, row_order}

one_asked : (key : List keys.Pair) (k : Keyword) → Admits key k → is_one_of k.values (text_of key k.name) ≡ true
one_asked key k a = ap (is_one_of k.values) a.has ∙ list_any-from_Contains nat_list_eq_equiv a.value k.values a.listed

one_back : (key : List keys.Pair) (k : Keyword) → is_one_of k.values (text_of key k.name) ≡ true → Admits key k
one_back key k h = go (text_of key k.name) refl h
  where
    go : (o : Option (List ℕ)) → text_of key k.name ≡ o → is_one_of k.values o ≡ true → Admits key k
    go None is h = absurd (true≢false (sym h))
    go (Some text) is h = record { value = text; has = is; listed = Contains-from_any (λ x y e. (bytes_eq-Decides x y).0 e) text k.values h }

asked : (keywords : List Keyword) (key : List keys.Pair) → Matches keywords key → matches keywords key ≡ true
asked keywords key all = list_all-from_AllPass (λ k. is_one_of k.values (text_of key k.name)) keywords (λ i d lt. one_asked key _ (all i d lt))

back : (keywords : List Keyword) (key : List keys.Pair) → matches keywords key ≡ true → Matches keywords key
back keywords key h = λ i d lt. one_back key _ (AllPass-from_list_all (λ k. is_one_of k.values (text_of key k.name)) keywords h i d lt)

-- a key that isn't asked for adds no row
pub adds_unasked : (keywords : List Keyword) (t : List (List Pair)) (key : List ℕ) (o : Option Stored) (x y : List ℕ) (ps : List keys.Pair) (rs : List Row) → IsKey o x y ps → (Matches keywords ps → ⊥) → put_matching keywords t key o rs ≡ rs
adds_unasked keywords t key o x y ps rs is un =
    ap (λ z. put_matching keywords t key z rs) is.is ∙ by (matches keywords is.key.pairs) refl
  where
    by : (b : Bool) → matches keywords is.key.pairs ≡ b → cond b (put row_order (row_of t key is.key) rs) rs ≡ rs
    by true e = absurd (un (subst (Matches keywords) (sym is.pairs) (back keywords is.key.pairs e)))
    by false e = refl

-- one that is asked for adds its row
pub adds_asked : (keywords : List Keyword) (t : List (List Pair)) (key : List ℕ) (o : Option Stored) (index datum : String Global) (ps : List keys.Pair) (newest : Newest) (es new : List Kept) (rs : List Row)
    → IsKey o (string_bytes index) (string_bytes datum) ps → Matches keywords ps
    → ((s : Stored) → o ≡ Some s → matches keywords s.pairs ≡ true → IsNewestUnless t rs key s newest.len newest.number)
    → AddsRow es new index datum newest → AreRows es rs → AreRows new (put_matching keywords t key o rs)
adds_asked keywords t key o index datum ps newest es new rs is all newness adds rows =
    let s = is.key in
    let wanted : matches keywords s.pairs ≡ true = asked keywords s.pairs (subst (Matches keywords) is.pairs all) in
    let r = row_of t key s in
    let put_is : put_matching keywords t key o rs ≡ put row_order r rs = ap (λ x. put_matching keywords t key x rs) is.is ∙ ap (λ b. cond b (put row_order r rs) rs) wanted in
    let numbers : has_row rs s.index s.datum ≡ false → (r.len ≡ newest.len) × (r.number ≡ newest.number) =
    λ none. let n = newness s is.is wanted none in (ap (λ x. length (unwrap_or x [])) n.1 ∙ n.2, ap (λ x. unwrap_or x 0) n.3) in
    subst (AreRows new) (sym put_is) (adds rs r (sym is.index) (sym is.datum) numbers rows)
