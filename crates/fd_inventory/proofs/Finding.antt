-- Keys that are found, one after the other.
use Rattle.std.proofs.Common.{◌≡◌, ◌≢◌, ◌∙◌, ◌≤◌, ◌<◌, ℕ, suc, Bool, true, false, true≢false, not, ◌||◌, cond, List, [], ◌∷◌, ◌++◌, length, map, Option, Some, None, refl, sym, ap, subst, inl, inr, bytes_eq, string_bytes, arith, length-append}
use Rattle.std.specs.Prelude.{◌⊎◌, String, nat_lt, is_some, IfOk, Result, Ok, Err}
use Rattle.std.specs.BTreeSet.{BTreeSet, contains_text}
use Rattle.std.specs.List.{AllPairs}
use Rattle.std.specs.declared.alloc.Global.{Global}
use Rattle.std.proofs.lemmas.Bool.{ltb-true}
use Rattle.std.proofs.lemmas.List.Elements.{All-nil, All-push}
use Rattle.std.proofs.lemmas.List.Folds.{list_any-append}
use Rattle.std.proofs.lemmas.List.Kept.{AllPairs-cons}
use Rattle.std.proofs.lemmas.Slice.Eq.{bytes_eq-Decides}
use Rattle.fd_entries.specs.declared.batch.Pair.{Pair}
use Rattle.fd_key.specs.Pairs as keys
use Rattle.fd_key.specs.Pairs.{key_text}
use Rattle.fd_request.specs.Expansion.{Keyword}
use Rattle.fd_stored.specs.Distinct.{is_among}
use Rattle.fd_outcome.specs.Matching.{Keys, with_dataset, with_key, with_rows}
use Rattle.fd_outcome.specs.Rows.{Row, Stored, rows, stored_at}
use Rattle.fd_inventory.specs.Found.{AreFound, AreLeft, AreTexts, HasKey, HaveKeys, IsNamed, Keeps, keep, keep_rows}
use Rattle.fd_inventory.specs.Shown.{AreRows, Kept, kept, shown}
use Rattle.fd_inventory.specs.Keys.{IsStored}
use Rattle.fd_inventory.specs.declared.stored_key.StoredKey.{StoredKey}
use Rattle.fd_inventory.proofs.Keyed.{key_named, rows_keys}

-- ---- one key more

some_same : {A : Type 0} (x y : A) → (let o : Option A = Some x in o ≡ Some y) → x ≡ y
some_same x y e = cc e

text_same : (a : List ℕ) → bytes_eq a a ≡ true
text_same a = (bytes_eq-Decides a a).1 refl

map_push : (ks : Keys) (k : List keys.Pair) → map key_text (ks ++ k ∷ []) ≡ map key_text ks ++ key_text k ∷ []
map_push [] k = refl
map_push (j ∷ ks) k = ap (λ (ts : List (List ℕ)). key_text j ∷ ts) (map_push ks k)

swapped : (a b : List ℕ) → bytes_eq a b ≡ bytes_eq b a
swapped a b = go (bytes_eq a b) refl (bytes_eq b a) refl
  where
    go : (x : Bool) → bytes_eq a b ≡ x → (y : Bool) → bytes_eq b a ≡ y → x ≡ y
    go true e true f = refl
    go false e false f = refl
    go true e false f = absurd (true≢false (sym ((bytes_eq-Decides b a).1 (sym ((bytes_eq-Decides a b).0 e))) ∙ f))
    go false e true f = absurd (true≢false (sym ((bytes_eq-Decides a b).1 (sym ((bytes_eq-Decides b a).0 f))) ∙ e))

last_or : (b h : Bool) → cond b true h ≡ (h || (b || false))
last_or true true = refl
last_or true false = refl
last_or false true = refl
last_or false false = refl

-- the set of the texts has one more
pub texts_more : (s n : BTreeSet (String Global)) (text : List ℕ) (ks : Keys) (k : List keys.Pair) → ((q : List ℕ) → contains_text n q ≡ cond (bytes_eq text q) true (contains_text s q)) → text ≡ key_text k
    → AreTexts s ks → AreTexts n (ks ++ k ∷ [])
texts_more s n text ks k updates same are q =
    let last : is_among (map key_text ks ++ key_text k ∷ []) q ≡ (is_among (map key_text ks) q || (bytes_eq q (key_text k) || false)) =
    list_any-append (bytes_eq q) (map key_text ks) (key_text k ∷ []) in
    updates q ∙ ap (λ (bs : List ℕ). cond (bytes_eq bs q) true (contains_text s q)) same ∙ ap (λ (b : Bool). cond b true (contains_text s q)) (swapped (key_text k) q)
    ∙ ap (λ (b : Bool). cond (bytes_eq q (key_text k)) true b) (are q) ∙ last_or (bytes_eq q (key_text k)) (is_among (map key_text ks) q) ∙ sym last
    ∙ ap (λ (ts : List (List ℕ)). is_among ts q) (sym (map_push ks k))

-- the text is there already, and the set stays the same
pub texts_same : (s n : BTreeSet (String Global)) (text : List ℕ) (ks : Keys) → ((q : List ℕ) → contains_text n q ≡ cond (bytes_eq text q) true (contains_text s q)) → contains_text s text ≡ true → AreTexts s ks → AreTexts n ks
texts_same s n text ks updates there are q = updates q ∙ go (bytes_eq text q) refl ∙ are q
  where
    go : (b : Bool) → bytes_eq text q ≡ b → cond b true (contains_text s q) ≡ contains_text s q
    go true e = sym there ∙ ap (contains_text s) ((bytes_eq-Decides text q).0 e)
    go false e = refl

pub apart_more : (ks : Keys) (k : List keys.Pair) → AllPairs (λ a b. a ≢ b) ks → is_among (map key_text ks) (key_text k) ≡ false → AllPairs (λ a b. a ≢ b) (ks ++ k ∷ [])
apart_more [] k h none = AllPairs-cons (λ a b. a ≢ b) k [] (All-nil (λ b. k ≢ b)) (λ i j d lt within. absurd (omega arith))
apart_more (x ∷ xs) k h none = by (bytes_eq (key_text k) (key_text x)) refl none (apart_more xs k (λ i j d lt within. h (suc i) (suc j) d (omega arith) (omega arith)))
  where
    by : (b : Bool) → bytes_eq (key_text k) (key_text x) ≡ b → (b || is_among (map key_text xs) (key_text k)) ≡ false → (is_among (map key_text xs) (key_text k) ≡ false → AllPairs (λ a b. a ≢ b) (xs ++ k ∷ [])) → AllPairs (λ a b. a ≢ b) (x ∷ (xs ++ k ∷ []))
    by true e none more = absurd (true≢false none)
    by false e none more =
        AllPairs-cons (λ a b. a ≢ b) x (xs ++ k ∷ [])
        (All-push (λ b. x ≢ b) xs k (λ j d lt. h 0 (suc j) d (omega arith) (omega arith)) (λ same. true≢false (sym (text_same (key_text k)) ∙ ap (λ y. bytes_eq (key_text k) (key_text y)) (sym same) ∙ e)))
        (more none)

-- a text that was put into a set as a new one wasn't there
pub unless_there : (added there : Bool) → added ≡ not there → added ≡ true → there ≡ false
unless_there added true e is = absurd (true≢false (sym is ∙ e))
unless_there added false e is = refl

pub one_found : (ks : Keys) (k : List keys.Pair) (s n : BTreeSet (String Global)) (text : List ℕ) → ((q : List ℕ) → contains_text n q ≡ cond (bytes_eq text q) true (contains_text s q)) → text ≡ key_text k
    → contains_text s text ≡ false → IsNamed k → AreFound ks s → AreFound (ks ++ k ∷ []) n
one_found ks k s n text updates same new named are = record {
  has = texts_more s n text ks k updates same are.has;
  named = All-push IsNamed ks k are.named named;
  apart = apart_more ks k are.apart (ap (is_among (map key_text ks)) (sym same) ∙ sym (are.has text) ∙ new);
}

pub same_found : (ks : Keys) (s n : BTreeSet (String Global)) (text : List ℕ) → ((q : List ℕ) → contains_text n q ≡ cond (bytes_eq text q) true (contains_text s q)) → contains_text s text ≡ true → AreFound ks s → AreFound ks n
same_found ks s n text updates there are = record { has = texts_same s n text ks updates there are.has; named = are.named; apart = are.apart }

pub with_new_key : (ks : Keys) (k : List keys.Pair) (s : BTreeSet (String Global)) (text : List ℕ) → text ≡ key_text k → contains_text s text ≡ false → AreFound ks s → ks ++ k ∷ [] ≡ with_key ks k
with_new_key ks k s text same new are = sym (ap (λ b. cond b ks (ks ++ k ∷ [])) (ap (is_among (map key_text ks)) (sym same) ∙ sym (are.has text) ∙ new))

pub with_old_key : (ks : Keys) (k : List keys.Pair) (s : BTreeSet (String Global)) (text : List ℕ) → text ≡ key_text k → contains_text s text ≡ true → AreFound ks s → ks ≡ with_key ks k
with_old_key ks k s text same there are = sym (ap (λ b. cond b ks (ks ++ k ∷ [])) (ap (is_among (map key_text ks)) (sym same) ∙ sym (are.has text) ∙ there))

-- ---- all keys, or too many

longer : (ks : Keys) (k : List keys.Pair) → length ks ≤ length (with_key ks k)
longer ks k = go (is_among (map key_text ks) (key_text k))
  where
    go : (b : Bool) → length ks ≤ length (cond b ks (ks ++ k ∷ []))
    go true = omega arith
    go false = omega (arith, length-append ks (k ∷ []))

keeps_one : (kept all : Keys) (k : List keys.Pair) → Keeps kept all → Keeps (keep kept k) (with_key all k)
keeps_one kept all k h = go (nat_lt 262144 (length kept)) refl h
  where
    go : (b : Bool) → nat_lt 262144 (length kept) ≡ b → Keeps kept all → Keeps (cond b kept (with_key kept k)) (with_key all k)
    go true e (inl same) =
        let many = ltb-true 262144 (length kept) e in
        inr (many, omega (arith, many, ap (λ (l : Keys). length l) same, longer all k))
    go true e (inr both) = inr (both.0, omega (arith, both.1, longer all k))
    go false e (inl same) = inl (ap (λ l. with_key l k) same)
    go false e (inr both) = inr (omega (arith, both.0, longer kept k), omega (arith, both.1, longer all k))

keeps_rows : (rs : List Row) (kept all : Keys) → Keeps kept all → Keeps (keep_rows kept rs) (with_rows all rs)
keeps_rows [] kept all h = h
keeps_rows (r ∷ rs) kept all h = keeps_rows rs (keep kept r.key.pairs) (with_key all r.key.pairs) (keeps_one kept all r.key.pairs h)

-- the keys of a dataset were kept
pub keeps_dataset : (keywords : List Keyword) (dataset : List ℕ) (t : List (List Pair)) (kept all new : Keys) (es : List Kept) → AreRows es (rows dataset keywords t)
    → ((rs : List Row) → HaveKeys dataset rs → AreRows es rs → new ≡ keep_rows kept rs) → Keeps kept all → Keeps new (with_dataset keywords dataset t all)
unfolding with_dataset
keeps_dataset keywords dataset t kept all new es are keeps h =
    subst (λ (n : Keys). Keeps n (with_rows all (rows dataset keywords t))) (sym (keeps (rows dataset keywords t) (rows_keys dataset keywords t) are)) (keeps_rows (rows dataset keywords t) kept all h)

-- ---- rows, one after the other

pub left_all : (dataset : List ℕ) (found : Keys) (es : List Kept) (rs : List Row) → HaveKeys dataset rs → AreRows es rs → AreLeft dataset found found es rs
left_all dataset found es rs have are = record { left = rs; have = have; shown_are = are.same; kept_are = refl }

pub left_less : (dataset : List ℕ) (found now new : Keys) (e : Kept) (es all : List Kept) (rs : List Row) → all ≡ e ∷ es
    → ((r : Row) → HasKey dataset r → string_bytes e.0.0 ≡ r.key.index → string_bytes e.0.1 ≡ r.key.datum → new ≡ keep now r.key.pairs) → AreLeft dataset found now all rs → AreLeft dataset found new es rs
left_less dataset found now new e es all rs is step l = go l.left l.have (ap (map kept) (sym is) ∙ l.shown_are) l.kept_are
  where
    go : (left : List Row) → HaveKeys dataset left → kept e ∷ map kept es ≡ map shown left → keep_rows now left ≡ keep_rows found rs → AreLeft dataset found new es rs
    go [] have same kept_are = absurd (cc same)
    go (r ∷ left) have same kept_are =
        let head : kept e ≡ shown r = cc same in
        let tail : map kept es ≡ map shown left = cc same in
        record {
          left = left;
          have = have.1;
          shown_are = tail;
          kept_are = ap (λ (n : Keys). keep_rows n left) (step r have.0 (ap (λ (x : _). x.index) head) (ap (λ (x : _). x.datum) head)) ∙ kept_are;
        }

pub left_none : (dataset : List ℕ) (found now : Keys) (es : List Kept) (rs : List Row) → es ≡ [] → AreLeft dataset found now es rs → now ≡ keep_rows found rs
left_none dataset found now es rs none l = go l.left (sym l.shown_are ∙ ap (map kept) none) l.kept_are
  where
    go : (left : List Row) → map shown left ≡ [] → keep_rows now left ≡ keep_rows found rs → now ≡ keep_rows found rs
    go [] e kept_are = kept_are
    go (r ∷ left) e kept_are = absurd (cc e)

-- ---- the key of a row's texts

same_key : (dataset index datum : List ℕ) (s : Stored) (r : Row) → stored_at dataset index datum ≡ Some s → HasKey dataset r → index ≡ r.key.index → datum ≡ r.key.datum → s ≡ r.key
same_key dataset index datum s r is has i d = some_same s r.key (sym is ∙ ap (λ x. stored_at dataset x datum) i ∙ ap (λ y. stored_at dataset r.key.index y) d ∙ has.is)

pub kept_key : (dataset index datum : List ℕ) (found new : Keys) (k : StoredKey) → IsStored (stored_at dataset index datum) k → new ≡ keep found k.key
    → (r : Row) → HasKey dataset r → index ≡ r.key.index → datum ≡ r.key.datum → new ≡ keep found r.key.pairs
kept_key dataset index datum found new k is e r has i d = e ∙ ap (keep found) (is.pairs ∙ ap (λ (s : Stored). s.pairs) (same_key dataset index datum is.key r is.is has i d))

pub no_key : (dataset index datum : List ℕ) (P : Type 0) → stored_at dataset index datum ≡ None → (r : Row) → HasKey dataset r → index ≡ r.key.index → datum ≡ r.key.datum → P
no_key dataset index datum P none r has i d = absurd (true≢false (ap is_some (sym has.is ∙ ap (λ x. stored_at dataset x r.key.datum) (sym i) ∙ ap (λ y. stored_at dataset index y) (sym d) ∙ none)))

pub long_key : (dataset index datum : List ℕ) (P : Type 0) → (256 < length index) ⊎ (256 < length datum) → (r : Row) → HasKey dataset r → index ≡ r.key.index → datum ≡ r.key.datum → P
long_key dataset index datum P (inl long) r has i d = absurd (omega (arith, long, has.index, ap (λ (t : List ℕ). length t) i))
long_key dataset index datum P (inr long) r has i d = absurd (omega (arith, long, has.datum, ap (λ (t : List ℕ). length t) d))

pub stored_named : (dataset index datum : List ℕ) (k : StoredKey) → IsStored (stored_at dataset index datum) k → IsNamed k.key
stored_named dataset index datum k is = subst IsNamed (sym is.pairs) (key_named dataset index datum is.key is.is)

-- what holds of an answer
pub if_ok : {A E : Type 0} {P Q : A → Type 0} → ((x : A) → P x → Q x) → (r : Result A E) → IfOk r P → IfOk r Q
if_ok f (Ok x) p = f x p
if_ok f (Err e) p = tt
