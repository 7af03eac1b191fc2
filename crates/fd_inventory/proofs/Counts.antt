-- Distinct keys and sums, from the last batch on.
use Rattle.std.proofs.Common.{◌≡◌, ◌∙◌, ℕ, suc, ◌+◌, ◌≤◌, List, [], ◌∷◌, length, drop, slice_get, Some, Ordering, Less, Equal, Greater, refl, sym, ap, subst, arith}
use Rattle.std.specs.Ordering.{nat_cmp, match_ordering}
use Rattle.std.specs.Cmp.Lexicographic.{slice_cmp}
use Rattle.std.specs.BTreeMap.{insert_entry}
use Rattle.std.proofs.lemmas.List.{length-map}
use Rattle.std.specs.Global.{Vec}
use Rattle.fd_entries.specs.declared.batch.Listing.{Listing}
use Rattle.fd_entries.specs.declared.batch.Pair.{Pair}
use Rattle.fd_entries.specs.declared.table.Entry.{Entry}
use Rattle.fd_index.specs.Records.{Record}
use Rattle.fd_outcome.specs.Rows.{keys_in, order, put, put_by, put_keys, stats_text, sum_bytes, sum_fields}
use Rattle.fd_inventory.specs.Counted.{AreKeys, Kept, kept_keys, stats_line}
use Rattle.fd_inventory.specs.Indexes.{Tells}
use Rattle.fd_inventory.specs.Shown.{AreLengths}
use Rattle.fd_inventory.proofs.Batches.{none_left, pair_at, stands, tells_length}

abbrev pub keys_order : Vec ℕ → Vec ℕ → Ordering
keys_order x y = slice_cmp nat_cmp x.items y.items

-- a key that is inserted is put among the keys
keys_insert : (k : Vec ℕ) (es : List Kept) → kept_keys (insert_entry keys_order es k tt) ≡ put order k.items (kept_keys es)
keys_insert k [] = refl
keys_insert k (e ∷ es) = by (keys_order k e.0) (keys_insert k es)
  where
    by : (o : Ordering) → kept_keys (insert_entry keys_order es k tt) ≡ put order k.items (kept_keys es)
        → kept_keys (match_ordering o ((k, tt) ∷ e ∷ es) ((e.0, tt) ∷ es) (e ∷ insert_entry keys_order es k tt)) ≡ put_by o k.items e.0.items (kept_keys es) (put order k.items (kept_keys es))
    by Less more = refl
    by Equal more = refl
    by Greater more = ap (λ ks. e.0.items ∷ ks) more

zip_length : (rs : List Record) (b : List Pair) → AreLengths rs b → length b ≡ length rs
zip_length [] [] h = refl
zip_length [] (p ∷ ps) h = absurd h
zip_length (r ∷ rs) [] h = absurd h
zip_length (r ∷ rs) (p ∷ ps) h = ap suc (zip_length rs ps h.1)

pub keys_start : (b : List Pair) (rs : List Record) (ks : List (List ℕ)) (es : List Kept) → AreLengths rs b → AreKeys es ks → AreKeys es (put_keys (drop (length rs) b) ks)
keys_start b rs ks es lengths are = subst (λ ps. AreKeys es (put_keys ps ks)) (sym (none_left b (length rs) (omega (arith, zip_length rs b lengths)))) are

-- the key of one record more
pub keys_more : (b : List Pair) (rs : List Record) (n m : ℕ) (r : Record) (k : Vec ℕ) (ks : List (List ℕ)) (old new : List Kept) → AreLengths rs b → m ≡ n + 1 → slice_get rs n ≡ Some r → k.items ≡ r.key
    → new ≡ insert_entry keys_order old k tt → AreKeys old (put_keys (drop m b) ks) → AreKeys new (put_keys (drop n b) ks)
keys_more b rs n m r k ks old new lengths next at key is are =
    let p = pair_at rs b n r lengths at in
    let s = stands b n m p.0 next p.1 in
    ap kept_keys is ∙ keys_insert k old ∙ ap (λ x. put order x (kept_keys old)) (key ∙ p.2) ∙ ap (put order p.0.key) are ∙ ap (λ ps. put_keys ps ks) (sym s.rest)

pub keys_first : (ls : List Listing) (t : List (List Pair)) (n : ℕ) (es : List Kept) → Tells ls t → length ls ≤ n → AreKeys es [] → AreKeys es (keys_in (drop n t))
keys_first ls t n es tells long are = subst (λ bs. AreKeys es (keys_in bs)) (sym (none_left t n (omega (arith, tells_length ls t tells, long)))) are

-- the keys of one batch more
pub keys_batch : (t : List (List Pair)) (n m : ℕ) (b : List Pair) (rs : List Record) (old new : List Kept) → m ≡ n + 1 → slice_get t n ≡ Some b → AreLengths rs b
    → ((c : List Pair) (ks : List (List ℕ)) → AreLengths rs c → AreKeys old ks → AreKeys new (put_keys c ks)) → AreKeys old (keys_in (drop m t)) → AreKeys new (keys_in (drop n t))
keys_batch t n m b rs old new next at lengths adds are =
    let s = stands t n m b next at in
    subst (λ bs. AreKeys new (keys_in bs)) (sym s.rest) (adds b (keys_in (drop m t)) lengths are)

-- ---- sums

pub sums_start : (es : List Entry) (n : ℕ) → length es ≤ n → (0 ≡ sum_fields (drop n es)) × (0 ≡ sum_bytes (drop n es))
sums_start es n long = let none = none_left es n long in (sym (ap sum_fields none), sym (ap sum_bytes none))

pub sums_more : (es : List Entry) (n m : ℕ) (e : Entry) (fields bytes : ℕ) → m ≡ n + 1 → slice_get es n ≡ Some e → fields ≡ sum_fields (drop m es) → bytes ≡ sum_bytes (drop m es)
    → (fields + e.fields ≡ sum_fields (drop n es)) × (bytes + e.fields_len ≡ sum_bytes (drop n es))
sums_more es n m e fields bytes next at f b =
    let s = stands es n m e next at in
    let g = ap sum_fields s.rest in
    let h = ap sum_bytes s.rest in
    (omega (arith, f, g), omega (arith, b, h))

-- the line of these numbers is that of `stats`
pub are_stats : (dataset : List ℕ) (es : List Entry) (t : List (List Pair)) (kept : List Kept) (entries fields keys bytes : ℕ) → entries ≡ length es → fields ≡ sum_fields es → bytes ≡ sum_bytes es → keys ≡ length kept → AreKeys kept (keys_in t)
    → stats_line dataset entries fields keys bytes ≡ stats_text dataset es t
unfolding stats_text
are_stats dataset es t kept entries fields keys bytes a b c d are =
    let count : keys ≡ length (keys_in t) = d ∙ sym (length-map kept (λ (e : Kept). e.0.items)) ∙ ap length are in
    ap (λ n. stats_line dataset n fields keys bytes) a ∙ ap (λ n. stats_line dataset (length es) n keys bytes) b ∙ ap (λ n. stats_line dataset (length es) (sum_fields es) n bytes) count ∙ ap (λ n. stats_line dataset (length es) (sum_fields es) (length (keys_in t)) n) c
