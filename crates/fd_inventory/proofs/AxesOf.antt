-- The axes of rows: their values, row by row from the last one on.
use Rattle.std.proofs.Common.{◌≡◌, ◌∙◌, ◌≤◌, ◌+◌, ℕ, Bool, true, false, true≢false, ◌&&◌, cond, List, [], ◌∷◌, ◌++◌, length, map, drop, Option, Some, None, is_some, Ordering, Less, Equal, Greater, refl, sym, ap, subst, bytes_eq, string_bytes, arith, append_assoc, length-drop, nat_le, leb-true}
use Rattle.std.specs.Prelude.{String, IsSome, nat_lt, ◌==◌, ◌<◌}
use Rattle.std.specs.List.{after_first, before_first, position_or_len}
use Rattle.std.specs.declared.alloc.Global.{Global}
use mathlib.Core.List.{map-append}
use Rattle.fd_entries.specs.declared.batch.Pair.{Pair}
use Rattle.fd_key.specs.Pairs as keys
use Rattle.fd_key.specs.Pairs.{key_text, text_of}
use Rattle.fd_key.specs.Given.{pieces_of}
use Rattle.fd_spelling.specs.Numerals.{cut, ◌>>=◌}
use Rattle.fd_spelling.specs.Texts.{is_ascii}
use Rattle.fd_request.specs.Expansion.{Keyword}
use Rattle.fd_stored.specs.Distinct.{is_among}
use Rattle.fd_outcome.specs.Rows.{Row, Stored, axes_text, axis_lines, if_new, if_pair, if_short, index_lines, indexes, matches, names_in, of_index, order, put, put_by, put_matching, put_names, put_value, row_of, row_order, rows, rows_from, rows_of_batch, stored, stored_at, values_in, with_piece, with_pieces, with_text}
use Rattle.fd_inventory.specs.Axes.{AddsIndex, AreApart, AreAxes, AreHalfway, HasDatum, HaveData, KeptNames, axes_lines, axes_of, axis_line, names_lines, names_of, put_pair, put_pairs, seen_axes, upsert}
use Rattle.fd_inventory.specs.Shown.{AreRows, Kept, Shown, kept, shown}
use Rattle.fd_inventory.proofs.Upserting.{Rise, among_put, not_same, rise_put, self, turned, upsert_put}

-- ---- names and index texts in order

names_rise : (ps : List keys.Pair) (ns : List (List ℕ)) → Rise ns → Rise (put_names ps ns)
names_rise [] ns r = r
names_rise (p ∷ ps) ns r = rise_put p.0 (put_names ps ns) (names_rise ps ns r)

all_names_rise : (rs : List Row) → Rise (names_in rs)
all_names_rise [] = tt
all_names_rise (r ∷ rs) = names_rise r.key.datum_pairs (names_in rs) (all_names_rise rs)

indexes_rise : (rs : List Row) → Rise (indexes rs)
indexes_rise [] = tt
indexes_rise (r ∷ rs) = rise_put r.key.index (indexes rs) (indexes_rise rs)

-- a name that isn't there has no text, and no values
no_text : (ps : List keys.Pair) (ns : List (List ℕ)) (n : List ℕ) → is_among (put_names ps ns) n ≡ false → (text_of ps n ≡ None) × (is_among ns n ≡ false)
no_text [] ns n h = (refl, h)
no_text (p ∷ ps) ns n h =
    let a = among_put p.0 n (put_names ps ns) h in
    let m = no_text ps ns n a.1 in
    (ap (λ b. cond b (Some p.1) (text_of ps n)) a.0 ∙ m.0, m.1)

no_values : (rs : List Row) (n : List ℕ) → is_among (names_in rs) n ≡ false → values_in n rs ≡ []
no_values [] n h = refl
no_values (r ∷ rs) n h =
    let m = no_text r.key.datum_pairs (names_in rs) n h in
    ap (λ o. put_value o (values_in n rs)) m.0 ∙ no_values rs n m.1

no_rows : (rs : List Row) (i : List ℕ) → is_among (indexes rs) i ≡ false → of_index i rs ≡ []
no_rows [] i h = refl
no_rows (r ∷ rs) i h =
    let a = among_put r.key.index i (indexes rs) h in
    ap (λ b. cond b (r ∷ of_index i rs) (of_index i rs)) (turned i r.key.index a.0) ∙ no_rows rs i a.1

-- ---- one row more

pairs_put : (rs : List Row) (ps : List keys.Pair) → AreApart ps → put_pairs ps (names_of rs) ≡ map (λ n. (n, put_value (text_of ps n) (values_in n rs))) (put_names ps (names_in rs))
pairs_put rs [] a = refl
pairs_put rs (p ∷ ps) a =
    ap (put_pair p.0 p.1) (pairs_put rs ps a.1)
    ∙ upsert_put (put order p.1) [] (λ n. put_value (text_of ps n) (values_in n rs)) (λ n. put_value (text_of (p ∷ ps) n) (values_in n rs)) p.0
    (λ k other. ap (λ b. put_value (cond b (Some p.1) (text_of ps k)) (values_in k rs)) (not_same k p.0 other))
    (put_names ps (names_in rs)) (names_rise ps (names_in rs) (all_names_rise rs))
    (λ none. let m = no_text ps (names_in rs) p.0 none in ap (λ o. put_value o (values_in p.0 rs)) m.0 ∙ no_values rs p.0 m.1)
    (ap (λ b. put_value (cond b (Some p.1) (text_of ps p.0)) (values_in p.0 rs)) (self p.0) ∙ ap (λ o. put order p.1 (put_value o (values_in p.0 rs))) (sym a.0))

pub axes_put : (r : Row) (rs : List Row) → AreApart r.key.datum_pairs → upsert (put_pairs r.key.datum_pairs) [] r.key.index (axes_of rs) ≡ axes_of (r ∷ rs)
axes_put r rs a =
    upsert_put (put_pairs r.key.datum_pairs) [] (λ i. names_of (of_index i rs)) (λ i. names_of (of_index i (r ∷ rs))) r.key.index
    (λ k other. ap (λ b. names_of (cond b (r ∷ of_index k rs) (of_index k rs))) (not_same r.key.index k (λ e. other (sym e))))
    (indexes rs) (indexes_rise rs)
    (λ none. ap names_of (no_rows rs r.key.index none))
    (ap (λ b. names_of (cond b (r ∷ of_index r.key.index rs) (of_index r.key.index rs))) (self r.key.index) ∙ sym (pairs_put (of_index r.key.index rs) r.key.datum_pairs a))

-- ---- the datum text of a row is its pairs

text_end : (qs : List keys.Pair) (p : keys.Pair) (n : List ℕ) → text_of qs n ≡ None → bytes_eq n p.0 ≡ false → text_of (qs ++ p ∷ []) n ≡ None
text_end [] p n h e = ap (λ b. cond b (Some p.1) None) e
text_end (q ∷ qs) p n h e = by (bytes_eq n q.0) h (text_end qs p n)
  where
    by : (b : Bool) → cond b (Some q.1) (text_of qs n) ≡ None → (text_of qs n ≡ None → bytes_eq n p.0 ≡ false → text_of (qs ++ p ∷ []) n ≡ None) → cond b (Some q.1) (text_of (qs ++ p ∷ []) n) ≡ None
    by true h more = absurd (true≢false (ap is_some h))
    by false h more = more h e

apart_end : (qs : List keys.Pair) (p : keys.Pair) → AreApart qs → text_of qs p.0 ≡ None → AreApart (qs ++ p ∷ [])
apart_end [] p a h = (refl, tt)
apart_end (q ∷ qs) p a h = by (bytes_eq p.0 q.0) refl h (apart_end qs p a.1)
  where
    by : (b : Bool) → bytes_eq p.0 q.0 ≡ b → cond b (Some q.1) (text_of qs p.0) ≡ None → (text_of qs p.0 ≡ None → AreApart (qs ++ p ∷ [])) → AreApart (q ∷ (qs ++ p ∷ []))
    by true e h more = absurd (true≢false (ap is_some h))
    by false e h more = (text_end qs p q.0 a.0 (turned p.0 q.0 e), more h)

text_behind : (is before : List keys.Pair) (n : List ℕ) → text_of (is ++ before) n ≡ None → text_of before n ≡ None
text_behind [] before n h = h
text_behind (q ∷ is) before n h = by (bytes_eq n q.0) h (text_behind is before n)
  where
    by : (b : Bool) → cond b (Some q.1) (text_of (is ++ before) n) ≡ None → (text_of (is ++ before) n ≡ None → text_of before n ≡ None) → text_of before n ≡ None
    by true h more = absurd (true≢false (ap is_some h))
    by false h more = more h

some_same : {A : Type 0} (x y : A) → (let o : Option A = Some x in o ≡ Some y) → x ≡ y
some_same x y e = cc e

-- the pairs of a text behind others are those of the text alone
record Behind (is before : List keys.Pair) (pieces : List (List ℕ)) (us : List keys.Pair) : Type 0 where
  own : List keys.Pair
  alone : with_pieces before pieces ≡ Some own
  all : us ≡ is ++ own
  apart : AreApart before → AreApart own

behind : (is before : List keys.Pair) (pieces : List (List ℕ)) (us : List keys.Pair) → with_pieces (is ++ before) pieces ≡ Some us → Behind is before pieces us
unfolding with_pieces with_piece
behind is before [] us h = record { own = before; alone = refl; all = sym (some_same (is ++ before) us h); apart = λ a. a }
behind is before (piece ∷ pieces) us h = by_pair (if_pair (cut 61 piece)) refl (λ p. behind is (before ++ p ∷ []) pieces us) h
  where
    by_text : (p : keys.Pair) (o : Option (List ℕ)) → text_of (is ++ before) p.0 ≡ o → if_pair (cut 61 piece) ≡ Some p → (with_pieces (is ++ (before ++ p ∷ [])) pieces ≡ Some us → Behind is (before ++ p ∷ []) pieces us)
        → (cond (is_some o) None (Some ((is ++ before) ++ p ∷ [])) >>= λ more. with_pieces more pieces) ≡ Some us → Behind is before (piece ∷ pieces) us
    by_text p (Some t) e q again h = absurd (true≢false (sym (ap is_some h)))
    by_text p None e q again h =
        let free = text_behind is before p.0 e in
        let b = again (ap (λ qs. with_pieces qs pieces) (sym (append_assoc is before (p ∷ []))) ∙ h) in
        record {
          own = b.own;
          alone = ap (λ o. if_new before o >>= λ more. with_pieces more pieces) q ∙ ap (λ (t : Option (List ℕ)). cond (is_some t) None (Some (before ++ p ∷ [])) >>= λ more. with_pieces more pieces) free ∙ b.alone;
          all = b.all;
          apart = λ a. b.apart (apart_end before p a free);
        }

    by_pair : (o : Option keys.Pair) → if_pair (cut 61 piece) ≡ o → ((p : keys.Pair) → with_pieces (is ++ (before ++ p ∷ [])) pieces ≡ Some us → Behind is (before ++ p ∷ []) pieces us) → (if_new (is ++ before) o >>= λ more. with_pieces more pieces) ≡ Some us → Behind is before (piece ∷ pieces) us
    by_pair None e again h = absurd (true≢false (sym (ap is_some h)))
    by_pair (Some p) e again h = by_text p (text_of (is ++ before) p.0) refl e (again p) h

drop_front : (xs ys : List keys.Pair) → drop (length xs) (xs ++ ys) ≡ ys
drop_front [] ys = refl
drop_front (x ∷ xs) ys = drop_front xs ys

-- what a row asks of its key
record IsDatum (s : Stored) : Type 0 where
  pairs : with_text [] s.datum ≡ Some s.datum_pairs
  apart : AreApart s.datum_pairs

datum_at : (dataset index datum : List ℕ) (s : Stored) → stored_at dataset index datum ≡ Some s → IsDatum s × (s.datum ≡ datum)
unfolding stored_at
datum_at dataset index datum s h = by_dataset (with_text [] dataset) h
  where
    by_length : (is us : List keys.Pair) (b : Bool) → with_text is datum ≡ Some us → cond b (Some (record { index = index; datum = datum; datum_pairs = drop (length is) us; pairs = us })) None ≡ Some s → IsDatum s × (s.datum ≡ datum)
    by_length is us false u h = absurd (true≢false (sym (ap is_some h)))
    by_length is us true u h =
        let x : Stored = record { index = index; datum = datum; datum_pairs = drop (length is) us; pairs = us } in
        let same : x ≡ s = some_same x s h in
        let b = behind is [] (pieces_of datum) us (ap (λ qs. with_pieces qs (pieces_of datum)) (append_none is) ∙ u) in
        let own : b.own ≡ drop (length is) us = sym (ap (drop (length is)) b.all ∙ drop_front is b.own) in
        (subst IsDatum same (record { pairs = b.alone ∙ ap (λ l. Some l) own; apart = subst AreApart own (b.apart tt) }), ap (λ (y : Stored). y.datum) (sym same))
      where
        append_none : (xs : List keys.Pair) → xs ++ [] ≡ xs
        append_none [] = refl
        append_none (y ∷ ys) = ap (λ l. y ∷ l) (append_none ys)

    by_datum : (is : List keys.Pair) (o : Option (List keys.Pair)) → with_text is datum ≡ o → (o >>= λ us. if_short index datum is us) ≡ Some s → IsDatum s × (s.datum ≡ datum)
    by_datum is None u h = absurd (true≢false (sym (ap is_some h)))
    by_datum is (Some us) u h = by_length is us (nat_le (length (key_text us)) 255) u h

    by_index : (o : Option (List keys.Pair)) → (o >>= λ is. with_text is datum >>= λ us. if_short index datum is us) ≡ Some s → IsDatum s × (s.datum ≡ datum)
    by_index None h = absurd (true≢false (sym (ap is_some h)))
    by_index (Some is) h = by_datum is (with_text is datum) refl h

    by_dataset : (o : Option (List keys.Pair)) → (o >>= λ ds. with_text ds index >>= λ is. with_text is datum >>= λ us. if_short index datum is us) ≡ Some s → IsDatum s × (s.datum ≡ datum)
    by_dataset None h = absurd (true≢false (sym (ap is_some h)))
    by_dataset (Some ds) h = by_index (with_text ds index) h

-- what stands behind a byte is no longer than the text
cut_short : (mark : ℕ) (text : List ℕ) (p : List ℕ × List ℕ) → cut mark text ≡ Some p → length p.1 ≤ length text
unfolding cut
cut_short mark text p h = by (nat_lt (position_or_len (λ b. b == mark) text) (length text)) h
  where
    parts : List ℕ × List ℕ
    parts = (before_first (λ b. b == mark) text, after_first (λ b. b == mark) text)

    by : (b : Bool) → cond b (Some parts) None ≡ Some p → length p.1 ≤ length text
    by false h = absurd (true≢false (sym (ap is_some h)))
    by true h =
        let short = length-drop (position_or_len (λ b. b == mark) text + 1) text in
        subst (λ (q : List ℕ × List ℕ). length q.1 ≤ length text) (some_same parts p h) (omega (arith, short))

stored_datum : (dataset key : List ℕ) (s : Stored) → stored dataset key ≡ Some s → IsDatum s × (length s.datum ≤ 256)
unfolding stored
stored_datum dataset key s h = by (nat_le (length key) 256) refl h
  where
    by_cut : (o : Option (List ℕ × List ℕ)) → cut 124 key ≡ o → length key ≤ 256 → (o >>= λ p. stored_at dataset p.0 p.1) ≡ Some s → IsDatum s × (length s.datum ≤ 256)
    by_cut None e le h = absurd (true≢false (sym (ap is_some h)))
    by_cut (Some p) e le h =
        let d = datum_at dataset p.0 p.1 s h in
        let short = cut_short 124 key p e in
        (d.0, subst (λ t. length t ≤ 256) (sym d.1) (omega (arith, le, short)))

    by_ascii : (b : Bool) → length key ≤ 256 → cond b (cut 124 key >>= λ p. stored_at dataset p.0 p.1) None ≡ Some s → IsDatum s × (length s.datum ≤ 256)
    by_ascii false le h = absurd (true≢false (sym (ap is_some h)))
    by_ascii true le h = by_cut (cut 124 key) refl le h

    by : (b : Bool) → nat_le (length key) 256 ≡ b → cond (b && is_ascii key) (cut 124 key >>= λ p. stored_at dataset p.0 p.1) None ≡ Some s → IsDatum s × (length s.datum ≤ 256)
    by false e h = absurd (true≢false (sym (ap is_some h)))
    by true e h = by_ascii (is_ascii key) (leb-true (length key) 256 e) h

data_put : (r : Row) (rs : List Row) → HasDatum r → HaveData rs → HaveData (put row_order r rs)
data_put r [] d ds = (d, tt)
data_put r (y ∷ ys) d ds = by (row_order r y) (data_put r ys d ds.1)
  where
    by : (o : Ordering) → HaveData (put row_order r ys) → HaveData (put_by o r y ys (put row_order r ys))
    by Less more = (d, ds)
    by Equal more = ds
    by Greater more = (ds.0, more)

module _ (dataset : List ℕ) (keywords : List Keyword) (t : List (List Pair)) where
  data_matching : (key : List ℕ) (o : Option Stored) (rs : List Row) → stored dataset key ≡ o → HaveData rs → HaveData (put_matching keywords t key o rs)
  data_matching key None rs e ds = ds
  data_matching key (Some s) rs e ds = by (matches keywords s.pairs)
    where
      d : IsDatum s × (length s.datum ≤ 256)
      d = stored_datum dataset key s e

      by : (b : Bool) → HaveData (cond b (put row_order (row_of t key s) rs) rs)
      by true = data_put (row_of t key s) rs (record { pairs = d.0.pairs; apart = d.0.apart; short = d.1 }) ds
      by false = ds

  data_batch : (b : List Pair) (rs : List Row) → HaveData rs → HaveData (rows_of_batch dataset keywords t b rs)
  data_batch [] rs ds = ds
  data_batch (p ∷ ps) rs ds = data_matching p.key (stored dataset p.key) (rows_of_batch dataset keywords t ps rs) refl (data_batch ps rs ds)

  data_from : (bs : List (List Pair)) → HaveData (rows_from dataset keywords t bs)
  data_from [] = tt
  data_from (b ∷ bs) = data_batch b (rows_from dataset keywords t bs) (data_from bs)

pub rows_data : (dataset : List ℕ) (keywords : List Keyword) (t : List (List Pair)) → HaveData (rows dataset keywords t)
rows_data dataset keywords t = data_from dataset keywords t t

-- ---- rows that are taken, from the last one on

record Last (xs : List Row) (ys : List Shown) (y : Shown) : Type 0 where
  front : List Row
  row : Row
  split : xs ≡ front ++ row ∷ []
  texts : HaveData front × HasDatum row
  rows : ys ≡ map shown front
  row_is : shown row ≡ y

last_row : (xs : List Row) (ys : List Shown) (y : Shown) → HaveData xs → ys ++ y ∷ [] ≡ map shown xs → Last xs ys y
last_row [] [] y ds e = absurd (cc e)
last_row [] (z ∷ zs) y ds e = absurd (cc e)
last_row (x ∷ []) [] y ds e = record { front = []; row = x; split = refl; texts = (tt, ds.0); rows = refl; row_is = cc e }
last_row (x ∷ (w ∷ ws)) [] y ds e = absurd (cc e)
last_row (x ∷ xs) (z ∷ zs) y ds e =
    let tail : zs ++ y ∷ [] ≡ map shown xs = cc e in
    let head : z ≡ shown x = cc e in
    let l = last_row xs zs y ds.1 tail in
    record {
      front = x ∷ l.front;
      row = l.row;
      split = ap (λ k. x ∷ k) l.split;
      texts = ((ds.0, l.texts.0), l.texts.1);
      rows = λ i. head i ∷ l.rows i;
      row_is = l.row_is;
    }

pub halfway_start : (es : List Kept) (rs : List Row) → HaveData rs → AreRows es rs → AreHalfway es [] rs
halfway_start es rs ds are = record { front = rs; back = []; split = sym (append_none rs); texts = ds; rows = are.same; axes_are = refl }
  where
    append_none : (xs : List Row) → xs ++ [] ≡ xs
    append_none [] = refl
    append_none (y ∷ ys) = ap (λ l. y ∷ l) (append_none ys)

pub halfway_more : (es rest : List Kept) (p : Kept) (axes new : List (String Global × KeptNames)) (rs : List Row) → AreHalfway es axes rs → es ≡ rest ++ p ∷ []
    → ((ps : List keys.Pair) → length (string_bytes p.0.1) ≤ 256 → with_text [] (string_bytes p.0.1) ≡ Some ps → AddsIndex (string_bytes p.0.0) ps (seen_axes axes) (seen_axes new)) → AreHalfway rest new rs
halfway_more es rest p axes new rs h popped adds =
    let l = last_row h.front (map kept rest) (kept p) h.texts (sym (map-append kept rest (p ∷ [])) ∙ ap (map kept) (sym popped) ∙ h.rows) in
    let r = l.row in
    let index : string_bytes p.0.0 ≡ r.key.index = sym (ap (λ (x : Shown). x.index) l.row_is) in
    let datum : string_bytes p.0.1 ≡ r.key.datum = sym (ap (λ (x : Shown). x.datum) l.row_is) in
    let added = adds r.key.datum_pairs (subst (λ d. length d ≤ 256) (sym datum) l.texts.1.short) (subst (λ d. with_text [] d ≡ Some r.key.datum_pairs) (sym datum) l.texts.1.pairs) in
    record {
      front = l.front;
      back = r ∷ h.back;
      split = h.split ∙ ap (λ f. f ++ h.back) l.split ∙ append_assoc l.front (r ∷ []) h.back;
      texts = l.texts.0;
      rows = l.rows;
      axes_are = added ∙ ap (λ i. upsert (put_pairs r.key.datum_pairs) [] i (seen_axes axes)) index ∙ ap (upsert (put_pairs r.key.datum_pairs) [] r.key.index) h.axes_are ∙ axes_put r h.back l.texts.1.apart;
    }

none_in_front : (front : List Row) → map shown front ≡ [] → front ≡ []
none_in_front [] e = refl
none_in_front (x ∷ xs) e = absurd (cc e)

pub halfway_end : (es : List Kept) (axes : List (String Global × KeptNames)) (rs : List Row) → AreHalfway es axes rs → es ≡ [] → AreAxes axes rs
halfway_end es axes rs h none =
    let front : h.front ≡ [] = none_in_front h.front (sym h.rows ∙ ap (map kept) none) in
    h.axes_are ∙ ap axes_of (sym (h.split ∙ ap (λ f. f ++ h.back) front))

-- ---- their lines

names_text : (dataset index : List ℕ) (rs : List Row) (ns : List (List ℕ)) → names_lines dataset index (map (λ n. (n, values_in n rs)) ns) ≡ axis_lines dataset index rs ns
names_text dataset index rs [] = refl
names_text dataset index rs (n ∷ ns) = ap (λ t. axis_line dataset index (n, values_in n rs) ++ t) (names_text dataset index rs ns)

indexes_text : (dataset : List ℕ) (rs : List Row) (is : List (List ℕ)) → axes_lines dataset (map (λ i. (i, names_of (of_index i rs))) is) ≡ index_lines dataset rs is
indexes_text dataset rs [] = refl
indexes_text dataset rs (i ∷ is) =
    ap (λ t. names_lines dataset i (names_of (of_index i rs)) ++ t) (indexes_text dataset rs is)
    ∙ ap (λ t. t ++ index_lines dataset rs is) (names_text dataset i (of_index i rs) (names_in (of_index i rs)))

-- the lines of what is kept are those of `axes`
pub are_axes : (keywords : List Keyword) (dataset : List ℕ) (t : List (List Pair)) (es : List (String Global × KeptNames)) → AreAxes es (rows dataset keywords t) → axes_lines dataset (seen_axes es) ≡ axes_text keywords dataset t
unfolding axes_text
are_axes keywords dataset t es are = ap (axes_lines dataset) are ∙ indexes_text dataset (rows dataset keywords t) (indexes (rows dataset keywords t))

-- nothing is left where nothing comes
pub nothing_left : {A : Type 0} (r : Option A) (es : List Kept) → (0 < length es → IsSome r) → r ≡ None → es ≡ []
nothing_left r [] some none = refl
nothing_left r (e ∷ es) some none = absurd (true≢false (sym (subst IsSome none (some (omega arith)))))
