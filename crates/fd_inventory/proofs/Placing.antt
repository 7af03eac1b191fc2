-- Rows in their order: one that is put among them, and one that is there.
use Rattle.std.proofs.Common.{◌≡◌, ◌∙◌, ℕ, Bool, true, false, true≢false, ◌&&◌, ◌||◌, cond, List, [], ◌∷◌, map, Option, Some, None, is_some, Ordering, Less, Equal, Greater, refl, sym, ap, subst, bytes_eq, string_bytes, unwrap_or}
use Rattle.std.specs.List.{list_any}
use Rattle.std.specs.List.Sorted.{IsStrictlySortedBy}
use Rattle.std.specs.Ordering.{nat_cmp, is_eq, match_ordering, ordering_then}
use Rattle.std.specs.Cmp.{IsTotalOrder, then_total}
use Rattle.std.specs.Cmp.Lexicographic.{slice_cmp, on_texts}
use Rattle.std.specs.Map.{lookup, keys_of}
use Rattle.std.specs.BTreeMap.{insert_entry, is_at}
use Rattle.std.proofs.lemmas.Map.{lookup-none}
use Rattle.std.proofs.lemmas.Map.Entries.{none_below_head}
use Rattle.std.proofs.lemmas.Map.Keys.{sorted_tail}
use Rattle.std.proofs.lemmas.Map.Text.{is_eq-slice_cmp}
use Rattle.fd_inventory.specs.declared.rows.Newest.{Newest}
use Rattle.fd_inventory.specs.Shown.{AddsRow, AreRows, Kept, Shown, Texts, has_row, kept, shown, shown_order, texts_order, with_entry}
use Rattle.fd_outcome.specs.Rows.{Row, put, put_by, row_order}
use Rattle.fd_inventory.proofs.Keyed.{some_same}

texts_total : IsTotalOrder texts_order
texts_total = then_total (on_texts (λ (x : Texts). string_bytes x.0)) (on_texts (λ (x : Texts). string_bytes x.1))

-- a row put among rows, as the lines show them
shows_put : (r : Row) (rs : List Row) → map shown (put row_order r rs) ≡ put shown_order (shown r) (map shown rs)
shows_put r [] = refl
shows_put r (y ∷ ys) = by (row_order r y) (shows_put r ys)
  where
    by : (o : Ordering) → map shown (put row_order r ys) ≡ put shown_order (shown r) (map shown ys)
        → map shown (put_by o r y ys (put row_order r ys)) ≡ put_by o (shown r) (shown y) (map shown ys) (put shown_order (shown r) (map shown ys))
    by Less h = refl
    by Equal h = refl
    by Greater h = ap (λ zs. shown y ∷ zs) h

-- an entry that isn't there yet
shows_insert : (k : Texts) (v : Newest) (es : List Kept) → lookup (is_at (texts_order k)) es ≡ None → map kept (insert_entry texts_order es k v) ≡ put shown_order (kept (k, v)) (map kept es)
shows_insert k v [] none = refl
shows_insert k v (e ∷ es) none = by (texts_order k e.0) none (shows_insert k v es)
  where
    by : (o : Ordering) → cond (is_eq o) (Some e.1) (lookup (is_at (texts_order k)) es) ≡ None → (lookup (is_at (texts_order k)) es ≡ None → map kept (insert_entry texts_order es k v) ≡ put shown_order (kept (k, v)) (map kept es))
        → map kept (match_ordering o ((k, v) ∷ e ∷ es) ((e.0, v) ∷ es) (e ∷ insert_entry texts_order es k v)) ≡ put_by o (kept (k, v)) (kept e) (map kept es) (put shown_order (kept (k, v)) (map kept es))
    by Less h more = refl
    by Equal h more = absurd (true≢false (ap is_some h))
    by Greater h more = ap (λ zs. kept e ∷ zs) (more h)

-- one that is there
shows_there : (k : Texts) (v w : Newest) (es : List Kept) → IsStrictlySortedBy texts_order (keys_of es) → lookup (is_at (texts_order k)) es ≡ Some w → put shown_order (kept (k, v)) (map kept es) ≡ map kept es
shows_there k v w [] sorted there = absurd (true≢false (sym (ap is_some there)))
shows_there k v w (e ∷ es) sorted there = by (texts_order k e.0) refl there (shows_there k v w es (sorted_tail texts_order e.0 (keys_of es) sorted))
  where
    by : (o : Ordering) → texts_order k e.0 ≡ o → cond (is_eq o) (Some e.1) (lookup (is_at (texts_order k)) es) ≡ Some w
        → (lookup (is_at (texts_order k)) es ≡ Some w → put shown_order (kept (k, v)) (map kept es) ≡ map kept es)
        → put_by o (kept (k, v)) (kept e) (map kept es) (put shown_order (kept (k, v)) (map kept es)) ≡ kept e ∷ map kept es
    by Less is h more = absurd (true≢false (sym (ap is_some h) ∙ ap is_some (lookup-none (is_at (texts_order k)) es (none_below_head texts_total k e es sorted is).1)))
    by Equal is h more = refl
    by Greater is h more = ap (λ zs. kept e ∷ zs) (more h)

-- one that is there, and is written as it was
shows_again : (k : Texts) (w : Newest) (es : List Kept) → IsStrictlySortedBy texts_order (keys_of es) → lookup (is_at (texts_order k)) es ≡ Some w → map kept (insert_entry texts_order es k w) ≡ map kept es
shows_again k w [] sorted there = absurd (true≢false (sym (ap is_some there)))
shows_again k w (e ∷ es) sorted there = by (texts_order k e.0) refl there (shows_again k w es (sorted_tail texts_order e.0 (keys_of es) sorted))
  where
    by : (o : Ordering) → texts_order k e.0 ≡ o → cond (is_eq o) (Some e.1) (lookup (is_at (texts_order k)) es) ≡ Some w
        → (lookup (is_at (texts_order k)) es ≡ Some w → map kept (insert_entry texts_order es k w) ≡ map kept es)
        → map kept (match_ordering o ((k, w) ∷ e ∷ es) ((e.0, w) ∷ es) (e ∷ insert_entry texts_order es k w)) ≡ kept e ∷ map kept es
    by Less is h more = absurd (true≢false (sym (ap is_some h) ∙ ap is_some (lookup-none (is_at (texts_order k)) es (none_below_head texts_total k e es sorted is).1)))
    by Equal is h more = ap (λ (n : Newest). kept (e.0, n) ∷ map kept es) (sym (some_same e.1 w h))
    by Greater is h more = ap (λ zs. kept e ∷ zs) (more h)

-- ---- a row of some texts, and an entry of them

abbrev pub has_shown : List Shown → List ℕ → List ℕ → Bool
has_shown xs index datum = list_any (λ x. bytes_eq index x.index && bytes_eq datum x.datum) xs

row_shown : (rs : List Row) (i d : List ℕ) → has_row rs i d ≡ has_shown (map shown rs) i d
row_shown [] i d = refl
row_shown (r ∷ rs) i d = ap (λ t. (bytes_eq i r.key.index && bytes_eq d r.key.datum) || t) (row_shown rs i d)

is_eq_then : (o p : Ordering) → is_eq (ordering_then o p) ≡ (is_eq o && is_eq p)
is_eq_then Less p = refl
is_eq_then Equal p = refl
is_eq_then Greater p = refl

is_here : (k x : Texts) → is_at (texts_order k) x ≡ (bytes_eq (string_bytes k.0) (string_bytes x.0) && bytes_eq (string_bytes k.1) (string_bytes x.1))
is_here k x =
    is_eq_then (slice_cmp nat_cmp (string_bytes k.0) (string_bytes x.0)) (slice_cmp nat_cmp (string_bytes k.1) (string_bytes x.1))
    ∙ ap (λ t. t && is_eq (slice_cmp nat_cmp (string_bytes k.1) (string_bytes x.1))) (is_eq-slice_cmp (string_bytes k.0) (string_bytes x.0))
    ∙ ap (λ t. bytes_eq (string_bytes k.0) (string_bytes x.0) && t) (is_eq-slice_cmp (string_bytes k.1) (string_bytes x.1))

none_shown : (k : Texts) (es : List Kept) → lookup (is_at (texts_order k)) es ≡ None → has_shown (map kept es) (string_bytes k.0) (string_bytes k.1) ≡ false
none_shown k [] h = refl
none_shown k (e ∷ es) h = by (is_at (texts_order k) e.0) (is_here k e.0) h (none_shown k es)
  where
    here : Bool
    here = bytes_eq (string_bytes k.0) (string_bytes e.0.0) && bytes_eq (string_bytes k.1) (string_bytes e.0.1)

    by : (b : Bool) → b ≡ here → cond b (Some e.1) (lookup (is_at (texts_order k)) es) ≡ None
        → (lookup (is_at (texts_order k)) es ≡ None → has_shown (map kept es) (string_bytes k.0) (string_bytes k.1) ≡ false) → (here || has_shown (map kept es) (string_bytes k.0) (string_bytes k.1)) ≡ false
    by true is h more = absurd (true≢false (ap is_some h))
    by false is h more = ap (λ t. t || has_shown (map kept es) (string_bytes k.0) (string_bytes k.1)) (sym is) ∙ more h

absent : (k : Texts) (es : List Kept) (rs : List Row) → AreRows es rs → lookup (is_at (texts_order k)) es ≡ None → has_row rs (string_bytes k.0) (string_bytes k.1) ≡ false
absent k es rs rows none = row_shown rs (string_bytes k.0) (string_bytes k.1) ∙ ap (λ xs. has_shown xs (string_bytes k.0) (string_bytes k.1)) (sym rows.same) ∙ none_shown k es none

-- ---- a row that is put among rows

-- Its entry was inserted, as there was none of its texts.
adds_new : (k : Texts) (v : Newest) (es new : List Kept) → lookup (is_at (texts_order k)) es ≡ None → new ≡ insert_entry texts_order es k v → IsStrictlySortedBy texts_order (keys_of new) → AddsRow es new k.0 k.1 v
adds_new k v es new none is sorted rs r index datum numbers rows =
    let here : has_row rs r.key.index r.key.datum ≡ false = subst (λ x. has_row rs x r.key.datum ≡ false) (sym index) (subst (λ x. has_row rs (string_bytes k.0) x ≡ false) (sym datum) (absent k es rs rows none)) in
    let own = numbers here in
    let same : shown r ≡ kept (k, v) = λ i. record { index = index i; datum = datum i; len = own.0 i; number = own.1 i } in
    record {
      same = ap (map kept) is ∙ shows_insert k v es none ∙ ap (λ x. put shown_order x (map kept es)) (sym same) ∙ ap (put shown_order (shown r)) rows.same ∙ sym (shows_put r rs);
      ordered = sorted;
    }

-- Nothing was changed, as there was one.
adds_none : (k : Texts) (v w : Newest) (es : List Kept) → lookup (is_at (texts_order k)) es ≡ Some w → AddsRow es es k.0 k.1 v
adds_none k v w es there rs r index datum numbers rows =
    let own : Newest = record w { len = r.len; number = r.number } in
    let same : kept (k, own) ≡ shown r = λ i. record { index = sym index i; datum = sym datum i; len = r.len; number = r.number } in
    record {
      same = sym (shows_there k own w es rows.ordered there) ∙ ap (λ x. put shown_order x (map kept es)) same ∙ ap (put shown_order (shown r)) rows.same ∙ sym (shows_put r rs);
      ordered = rows.ordered;
    }

pub adds : (k : Texts) (v : Newest) (es new : List Kept) → new ≡ with_entry es k v → IsStrictlySortedBy texts_order (keys_of new) → AddsRow es new k.0 k.1 v
adds k v es new is sorted = by (lookup (is_at (texts_order k)) es) refl is
  where
    by : (o : Option Newest) → lookup (is_at (texts_order k)) es ≡ o → new ≡ insert_entry texts_order es k (unwrap_or o v) → AddsRow es new k.0 k.1 v
    by None none is = adds_new k v es new none is sorted
    by (Some w) there is = λ rs r index datum numbers rows. record {
      same = ap (map kept) is ∙ shows_again k w es rows.ordered there ∙ (adds_none k v w es there rs r index datum numbers rows).same;
      ordered = sorted;
    }
