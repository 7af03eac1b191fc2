-- The keys of rows are those of their texts.
use Rattle.std.proofs.Common.{◌≡◌, ◌∙◌, ◌≤◌, ◌+◌, ℕ, Bool, true, false, true≢false, ◌||◌, ◌&&◌, not, cond, List, [], ◌∷◌, ◌++◌, length, Option, Some, None, is_some, Ordering, Less, Equal, Greater, refl, sym, ap, subst, bytes_eq, arith, nat_le, leb-true, append-nil, append_assoc}
use Rattle.std.specs.Prelude.{drop, string_bytes, IfSome}
use Rattle.std.proofs.lemmas.Bool.{and_from, and_parts, cond-true}
use Rattle.std.proofs.lemmas.List.Elements.{All-nil, All-push}
use Rattle.std.proofs.lemmas.Slice.Eq.{bytes_eq-Decides}
use Rattle.fd_entries.specs.declared.batch.Pair.{Pair}
use Rattle.fd_key.specs.Pairs as keys
use Rattle.fd_key.specs.Pairs.{key_text, text_of}
use Rattle.fd_key.specs.Given.{pieces_of}
use Rattle.fd_spelling.specs.Canonical.{canonical}
use Rattle.fd_spelling.specs.Names.{is_name}
use Rattle.fd_spelling.specs.Numerals.{cut, ◌>>=◌}
use Rattle.fd_spelling.proofs.AsciiLaws.{value_is_ascii}
use Rattle.fd_spelling.proofs.PieceLaws.{cut_lengths}
use Rattle.fd_spelling.proofs.Spellings.{spelled_again}
use Rattle.fd_spelling.specs.Texts.{is_ascii}
use Rattle.fd_request.specs.Expansion.{Keyword}
use Rattle.fd_request.specs.Grammar.{has_name}
use Rattle.fd_request.specs.Keywords.{differ_after}
use Rattle.fd_cubes.specs.Cubes.{alone}
use Rattle.fd_outcome.specs.Rows.{Row, Stored, if_new, if_pair, if_short, is_spelled, matches, put, put_by, put_matching, row_of, row_order, rows, rows_from, rows_of_batch, stored, stored_at, with_piece, with_pieces, with_text}
use Rattle.fd_inventory.specs.Found.{AreSpelled, HasKey, HaveKeys, IsNamed, IsSpelled}
use Rattle.fd_inventory.specs.Keys.{IsFirstOf, IsLead, behind, ending, leading, texts}
use Rattle.fd_inventory.specs.declared.stored_key.Lead.{Lead}
use Rattle.fd_inventory.proofs.Copying.{alone_push}

pub some_same : {A : Type 0} (x y : A) → (let o : Option A = Some x in o ≡ Some y) → x ≡ y
some_same x y e = cc e

-- ---- pairs that a text is

none_spelled : AreSpelled []
none_spelled = record { once = refl; spelled = All-nil IsSpelled }

-- the name of a keyword and the name of a pair
names_same : (ps : List keys.Pair) (n : List ℕ) → text_of ps n ≡ None → has_name (alone ps) n ≡ false
names_same [] n h = refl
names_same (p ∷ ps) n h = by (bytes_eq n p.0) refl h (names_same ps n)
  where
    turned : (e : bytes_eq n p.0 ≡ false) → bytes_eq p.0 n ≡ false
    turned e = go (bytes_eq p.0 n) refl
      where
        go : (b : Bool) → bytes_eq p.0 n ≡ b → b ≡ false
        go false x = refl
        go true x = absurd (true≢false (sym ((bytes_eq-Decides n p.0).1 (sym ((bytes_eq-Decides p.0 n).0 x))) ∙ e))

    by : (b : Bool) → bytes_eq n p.0 ≡ b → cond b (Some p.1) (text_of ps n) ≡ None → (text_of ps n ≡ None → has_name (alone ps) n ≡ false) → (bytes_eq p.0 n || has_name (alone ps) n) ≡ false
    by true e h more = absurd (true≢false (ap is_some h))
    by false e h more = ap (λ b. b || has_name (alone ps) n) (turned e) ∙ more h

differ_push : (before ks : List Keyword) (k : Keyword) → differ_after before ks ≡ true → has_name (before ++ ks) k.name ≡ false → differ_after before (ks ++ k ∷ []) ≡ true
differ_push before [] k h new = and_from (not (has_name before k.name)) true (ap not (ap (λ (us : List Keyword). has_name us k.name) (sym (append-nil before)) ∙ new)) refl
differ_push before (j ∷ ks) k h new =
    let parts = and_parts (not (has_name before j.name)) (differ_after (before ++ j ∷ []) ks) h in
    and_from (not (has_name before j.name)) (differ_after (before ++ j ∷ []) (ks ++ k ∷ [])) parts.0
    (differ_push (before ++ j ∷ []) ks k parts.1 (ap (λ (us : List Keyword). has_name us k.name) (append_assoc before (j ∷ []) ks) ∙ new))

-- a name and a value in its one spelling
pair_spelled : (o : Option (List ℕ × List ℕ)) (p : keys.Pair) → if_pair o ≡ Some p → IsSpelled p
pair_spelled None p h = absurd (true≢false (sym (ap is_some h)))
pair_spelled (Some q) p h = by (is_name q.0) refl (canonical q.0 q.1) refl h
  where
    by_value : (n v : List ℕ) → is_name n ≡ true → canonical n v ≡ Some v → IsSpelled (n, v)
    by_value n v named again =
        let s = spelled_again n v v again in
        record { named = named; valued = s.value; again = cond-true (is_ascii v) (canonical n v) None (value_is_ascii v s.value) ∙ again }

    by_same : (v : List ℕ) (b : Bool) → bytes_eq q.1 v ≡ b → is_name q.0 ≡ true → canonical q.0 q.1 ≡ Some v → cond b (Some q) None ≡ Some p → IsSpelled p
    by_same v false e named c h = absurd (true≢false (sym (ap is_some h)))
    by_same v true e named c h =
        let same : q.1 ≡ v = (bytes_eq-Decides q.1 v).0 e in
        subst IsSpelled (some_same q p h) (by_value q.0 q.1 named (c ∙ ap (λ t. Some t) (sym same)))

    by : (b : Bool) → is_name q.0 ≡ b → (o : Option (List ℕ)) → canonical q.0 q.1 ≡ o → cond (b && is_spelled q.1 o) (Some q) None ≡ Some p → IsSpelled p
    by false n o c h = absurd (true≢false (sym (ap is_some h)))
    by true n None c h = absurd (true≢false (sym (ap is_some h)))
    by true n (Some v) c h = by_same v (bytes_eq q.1 v) refl n c h

-- one more pair
one_more : (ps : List keys.Pair) (p : keys.Pair) → AreSpelled ps → IsSpelled p → text_of ps p.0 ≡ None → AreSpelled (ps ++ p ∷ [])
one_more ps p are is new = record {
  once = ap (differ_after []) (alone_push ps p) ∙ differ_push [] (alone ps) (record { name = p.0; values = p.1 ∷ [] }) are.once (names_same ps p.0 new);
  spelled = All-push IsSpelled ps p are.spelled is;
}

pieces_spelled : (before : List keys.Pair) (pieces : List (List ℕ)) (us : List keys.Pair) → AreSpelled before → with_pieces before pieces ≡ Some us → AreSpelled us
unfolding with_pieces with_piece
pieces_spelled before [] us are h = subst AreSpelled (some_same before us h) are
pieces_spelled before (piece ∷ pieces) us are h = by_pair (if_pair (cut 61 piece)) refl (λ p. pieces_spelled (before ++ p ∷ []) pieces us) h
  where
    by_text : (p : keys.Pair) (o : Option (List ℕ)) → text_of before p.0 ≡ o → IsSpelled p → (AreSpelled (before ++ p ∷ []) → with_pieces (before ++ p ∷ []) pieces ≡ Some us → AreSpelled us)
        → (cond (is_some o) None (Some (before ++ p ∷ [])) >>= λ more. with_pieces more pieces) ≡ Some us → AreSpelled us
    by_text p (Some t) e is again h = absurd (true≢false (sym (ap is_some h)))
    by_text p None e is again h = again (one_more before p are is e) h

    by_pair : (o : Option keys.Pair) → if_pair (cut 61 piece) ≡ o → ((p : keys.Pair) → AreSpelled (before ++ p ∷ []) → with_pieces (before ++ p ∷ []) pieces ≡ Some us → AreSpelled us) → (if_new before o >>= λ more. with_pieces more pieces) ≡ Some us → AreSpelled us
    by_pair None e again h = absurd (true≢false (sym (ap is_some h)))
    by_pair (Some p) e again h = by_text p (text_of before p.0) refl (pair_spelled (cut 61 piece) p e) (again p) h

pub leading_spelled : (dataset index : List ℕ) (is : List keys.Pair) → leading dataset index ≡ Some is → AreSpelled is
unfolding leading
leading_spelled dataset index is h = by (with_text [] dataset) refl h
  where
    by : (o : Option (List keys.Pair)) → with_text [] dataset ≡ o → (o >>= λ ds. with_text ds index) ≡ Some is → AreSpelled is
    by None e h = absurd (true≢false (sym (ap is_some h)))
    by (Some ds) e h = pieces_spelled ds (pieces_of index) is (pieces_spelled [] (pieces_of dataset) ds none_spelled e) h

-- ---- stored keys

-- a stored key is that of its leading pairs and its datum text
pub led : (dataset index datum : List ℕ) → stored_at dataset index datum ≡ (leading dataset index >>= λ is. ending is index datum)
unfolding stored_at leading ending
led dataset index datum = by (with_text [] dataset)
  where
    by : (o : Option (List keys.Pair)) → (o >>= λ ds. with_text ds index >>= λ is. with_text is datum >>= λ us. if_short index datum is us) ≡ ((o >>= λ ds. with_text ds index) >>= λ is. with_text is datum >>= λ us. if_short index datum is us)
    by None = refl
    by (Some ds) = refl

pub told : (dataset key : List ℕ) → stored dataset key ≡ (texts key >>= λ p. stored_at dataset p.0 p.1)
unfolding stored texts
told dataset key = by (nat_le (length key) 256 && is_ascii key)
  where
    by : (b : Bool) → cond b (cut 124 key >>= λ p. stored_at dataset p.0 p.1) None ≡ (cond b (cut 124 key) None >>= λ p. stored_at dataset p.0 p.1)
    by true = refl
    by false = refl

-- a stored key has the texts that it stands at
record IsKeyed (index datum : List ℕ) (s : Stored) : Type 0 where
  index_is : s.index ≡ index
  datum_is : s.datum ≡ datum
  named : IsNamed s.pairs

keyed_at : (dataset index datum : List ℕ) (s : Stored) → stored_at dataset index datum ≡ Some s → IsKeyed index datum s
unfolding stored_at
keyed_at dataset index datum s h = by_dataset (with_text [] dataset) refl h
  where
    by_length : (is us : List keys.Pair) (b : Bool) → AreSpelled us → nat_le (length (key_text us)) 255 ≡ b → cond b (Some (record { index = index; datum = datum; datum_pairs = drop (length is) us; pairs = us })) None ≡ Some s → IsKeyed index datum s
    by_length is us false are e h = absurd (true≢false (sym (ap is_some h)))
    by_length is us true are e h =
        let x : Stored = record { index = index; datum = datum; datum_pairs = drop (length is) us; pairs = us } in
        subst (IsKeyed index datum) (some_same x s h) (record { index_is = refl; datum_is = refl; named = record { once = are.once; spelled = are.spelled; short = leb-true (length (key_text us)) 255 e } })

    by_datum : (is : List keys.Pair) (o : Option (List keys.Pair)) → AreSpelled is → with_text is datum ≡ o → (o >>= λ us. if_short index datum is us) ≡ Some s → IsKeyed index datum s
    by_datum is None are u h = absurd (true≢false (sym (ap is_some h)))
    by_datum is (Some us) are u h = by_length is us (nat_le (length (key_text us)) 255) (pieces_spelled is (pieces_of datum) us are u) refl h

    by_index : (ds : List keys.Pair) (o : Option (List keys.Pair)) → AreSpelled ds → with_text ds index ≡ o → (o >>= λ is. with_text is datum >>= λ us. if_short index datum is us) ≡ Some s → IsKeyed index datum s
    by_index ds None are u h = absurd (true≢false (sym (ap is_some h)))
    by_index ds (Some is) are u h = by_datum is (with_text is datum) (pieces_spelled ds (pieces_of index) is are u) refl h

    by_dataset : (o : Option (List keys.Pair)) → with_text [] dataset ≡ o → (o >>= λ ds. with_text ds index >>= λ is. with_text is datum >>= λ us. if_short index datum is us) ≡ Some s → IsKeyed index datum s
    by_dataset None u h = absurd (true≢false (sym (ap is_some h)))
    by_dataset (Some ds) u h = by_index ds (with_text ds index) (pieces_spelled [] (pieces_of dataset) ds none_spelled u) refl h

-- the pairs of a stored key have each name once, each value in its one spelling, and a short text
pub key_named : (dataset index datum : List ℕ) (s : Stored) → stored_at dataset index datum ≡ Some s → IsNamed s.pairs
key_named dataset index datum s h = (keyed_at dataset index datum s h).named

-- what a row asks of its key
record HasKeyed (dataset : List ℕ) (s : Stored) : Type 0 where
  is : stored_at dataset s.index s.datum ≡ Some s
  index : length s.index ≤ 256
  datum : length s.datum ≤ 256

stored_keyed : (dataset key : List ℕ) (s : Stored) → stored dataset key ≡ Some s → HasKeyed dataset s
unfolding stored
stored_keyed dataset key s h = by (nat_le (length key) 256) refl h
  where
    by_cut : (o : Option (List ℕ × List ℕ)) → cut 124 key ≡ o → length key ≤ 256 → (o >>= λ p. stored_at dataset p.0 p.1) ≡ Some s → HasKeyed dataset s
    by_cut None e le h = absurd (true≢false (sym (ap is_some h)))
    by_cut (Some p) e le h =
        let k = keyed_at dataset p.0 p.1 s h in
        let lengths = cut_lengths 124 key p e in
        record {
          is = ap (λ i. stored_at dataset i s.datum) k.index_is ∙ ap (λ d. stored_at dataset p.0 d) k.datum_is ∙ h;
          index = subst (λ t. length t ≤ 256) (sym k.index_is) (omega (arith, le, lengths));
          datum = subst (λ t. length t ≤ 256) (sym k.datum_is) (omega (arith, le, lengths));
        }

    by_ascii : (b : Bool) → length key ≤ 256 → cond b (cut 124 key >>= λ p. stored_at dataset p.0 p.1) None ≡ Some s → HasKeyed dataset s
    by_ascii false le h = absurd (true≢false (sym (ap is_some h)))
    by_ascii true le h = by_cut (cut 124 key) refl le h

    by : (b : Bool) → nat_le (length key) 256 ≡ b → cond (b && is_ascii key) (cut 124 key >>= λ p. stored_at dataset p.0 p.1) None ≡ Some s → HasKeyed dataset s
    by false e h = absurd (true≢false (sym (ap is_some h)))
    by true e h = by_ascii (is_ascii key) (leb-true (length key) 256 e) h

-- what a key in the files says is short
pub texts_short : (key : List ℕ) (p : List ℕ × List ℕ) → texts key ≡ Some p → length p.0 + length p.1 ≤ 256
unfolding texts
texts_short key p h = by (nat_le (length key) 256) refl h
  where
    by_ascii : (b : Bool) → length key ≤ 256 → cond b (cut 124 key) None ≡ Some p → length p.0 + length p.1 ≤ 256
    by_ascii false le h = absurd (true≢false (sym (ap is_some h)))
    by_ascii true le h = omega (arith, le, cut_lengths 124 key p h)

    by : (b : Bool) → nat_le (length key) 256 ≡ b → cond (b && is_ascii key) (cut 124 key) None ≡ Some p → length p.0 + length p.1 ≤ 256
    by false e h = absurd (true≢false (sym (ap is_some h)))
    by true e h = by_ascii (is_ascii key) (leb-true (length key) 256 e) h

pub lead_first : (dataset datum : List ℕ) (l : Lead) → IsLead dataset l → length dataset ≤ 255 → length (string_bytes l.index) + length datum ≤ 256 → IfSome l.pairs (IsFirstOf datum)
lead_first dataset datum l is short few = by l.pairs is.is is.few
  where
    by : (o : Option (List keys.Pair)) → o ≡ leading dataset (string_bytes l.index) → IfSome o (λ k. length k ≤ length dataset + length (string_bytes l.index) + 2) → IfSome o (IsFirstOf datum)
    by None e f = tt
    by (Some k) e f = record { spelled = leading_spelled dataset (string_bytes l.index) k (sym e); room = omega (arith, f, short, few) }

-- A key in the files is that of the lead of its index text and of its datum text.
pub read_behind : (dataset key index datum : List ℕ) (l : Lead) → texts key ≡ Some (index, datum) → IsLead dataset l → string_bytes l.index ≡ index → stored dataset key ≡ behind l.pairs index datum
read_behind dataset key index datum l both is at =
    told dataset key ∙ ap (λ (o : Option (List ℕ × List ℕ)). o >>= λ p. stored_at dataset p.0 p.1) both ∙ led dataset index datum
    ∙ ap (λ (i : List ℕ). behind (leading dataset i) index datum) (sym at) ∙ ap (λ (o : Option (List keys.Pair)). behind o index datum) (sym is.is)

-- ---- rows

keys_put : (dataset : List ℕ) (r : Row) (rs : List Row) → HasKey dataset r → HaveKeys dataset rs → HaveKeys dataset (put row_order r rs)
keys_put dataset r [] d ds = (d, tt)
keys_put dataset r (y ∷ ys) d ds = by (row_order r y) (keys_put dataset r ys d ds.1)
  where
    by : (o : Ordering) → HaveKeys dataset (put row_order r ys) → HaveKeys dataset (put_by o r y ys (put row_order r ys))
    by Less more = (d, ds)
    by Equal more = ds
    by Greater more = (ds.0, more)

module _ (dataset : List ℕ) (keywords : List Keyword) (t : List (List Pair)) where
  keys_matching : (key : List ℕ) (o : Option Stored) (rs : List Row) → stored dataset key ≡ o → HaveKeys dataset rs → HaveKeys dataset (put_matching keywords t key o rs)
  keys_matching key None rs e ds = ds
  keys_matching key (Some s) rs e ds = by (matches keywords s.pairs)
    where
      d : HasKeyed dataset s
      d = stored_keyed dataset key s e

      by : (b : Bool) → HaveKeys dataset (cond b (put row_order (row_of t key s) rs) rs)
      by true = keys_put dataset (row_of t key s) rs (record { is = d.is; index = d.index; datum = d.datum }) ds
      by false = ds

  keys_batch : (b : List Pair) (rs : List Row) → HaveKeys dataset rs → HaveKeys dataset (rows_of_batch dataset keywords t b rs)
  keys_batch [] rs ds = ds
  keys_batch (p ∷ ps) rs ds = keys_matching p.key (stored dataset p.key) (rows_of_batch dataset keywords t ps rs) refl (keys_batch ps rs ds)

  keys_from : (bs : List (List Pair)) → HaveKeys dataset (rows_from dataset keywords t bs)
  keys_from [] = tt
  keys_from (b ∷ bs) = keys_batch b (rows_from dataset keywords t bs) (keys_from bs)

pub rows_keys : (dataset : List ℕ) (keywords : List Keyword) (t : List (List Pair)) → HaveKeys dataset (rows dataset keywords t)
rows_keys dataset keywords t = keys_from dataset keywords t t
