-- How masks are found from the last batch on, and how entries are divided by them from the first on.
use Rattle.std.proofs.Common.{◌≡◌, ◌<◌, ◌+◌, ◌-◌, ◌++◌, if◌then◌else◌, zero, suc, ℕ, Bool, true, false, List, [], ◌∷◌, length, drop, take, slice_get, slice_set, get_or, nat_lt, Option, Some, None, refl, sym, ◌∙◌, ap, subst, arith}
use Rattle.std.proofs.lemmas.List.{append_assoc, drop-set, drop_more, length-append, length-take, take_more}
use Rattle.std.proofs.Math.Seq.{take-append_seam}
use Rattle.fd_entries.specs.declared.table.Entry.{Entry}
use Rattle.fd_entries.specs.Table.{body_of, greatest_writer, slots_of}
use Rattle.fd_entries.proofs.StandingLemmas.{slots-append}
use Rattle.std.specs.Global.{Vec}
use Rattle.std.specs.BTreeSet.{BTreeSet}
use Rattle.std.proofs.lemmas.Option.{get_or_from_slice_get, slice_get_within}
use Rattle.fd_segment.specs.declared.fault.LensFault.{LensFault}
use Rattle.fd_segment.specs.declared.fault.LensFault.TheVariants as lenses
use Rattle.fd_segment.specs.Causes.{IsBadIndex, OnDamaged}
use Rattle.fd_segment.specs.Held.{Standing}
use Rattle.fd_purge.specs.Dividing.{next_over}
use Rattle.fd_purge.specs.Kept.{is_masked, masked, masks, unmasked}
use Rattle.fd_purge.specs.Purging.{first_over}
use Rattle.fd_purge.specs.Reads.{AreRead, IsAmongBad, IsRead, Knows}
use Rattle.fd_purge.proofs.KeyLemmas.{rest_at}

-- ---- masks

pub read_length : (ss : List Standing) (kss : List (List (List ℕ))) → AreRead ss kss → length kss ≡ length ss
read_length [] [] h = refl
read_length [] (ks ∷ kss) h = absurd h
read_length (s ∷ ss) [] h = absurd h
read_length (s ∷ ss) (ks ∷ kss) h = ap suc (read_length ss kss h.1)

none_at : {A B : Type 0} (n : ℕ) (x : A) → slice_get [] n ≡ Some x → B
none_at zero x h = absurd (cc h)
none_at (suc n) x h = absurd (cc h)

pub read_at : (ss : List Standing) (kss : List (List (List ℕ))) (n : ℕ) (s : Standing) → AreRead ss kss → slice_get ss n ≡ Some s → (ks : List (List ℕ)) × (slice_get kss n ≡ Some ks) × IsRead s ks
read_at [] kss n s h at = none_at n s at
read_at (x ∷ ss) [] n s h at = absurd h
read_at (x ∷ ss) (ks ∷ kss) zero s h at = let e : x ≡ s = cc at in (ks, refl, subst (λ y. IsRead y ks) e h.0)
read_at (x ∷ ss) (ks ∷ kss) (suc n) s h at = read_at ss kss n s h.1 at

-- the next batch before
pub known_next : (ss : List Standing) (kss : List (List (List ℕ))) (n m : ℕ) (s : Standing) (old new : BTreeSet (Vec ℕ)) → AreRead ss kss → m ≡ n + 1 → slice_get ss n ≡ Some s
    → ((ks : List (List ℕ)) (later : List (List (List ℕ))) → IsRead s ks → Knows old later → Knows new (ks ∷ later)) → Knows old (drop m kss) → Knows new (drop n kss)
known_next ss kss n m s old new read next at adds known =
    let r = read_at ss kss n s read at in
    subst (Knows new) (sym (rest_at kss n m r.0 next r.1)) (adds r.0 (drop m kss) r.2 known)

pub masks_next : (ss : List Standing) (kss : List (List (List ℕ))) (n m : ℕ) (s : Standing) (old : BTreeSet (Vec ℕ)) (xs : List Bool) (b : Bool) → AreRead ss kss → m ≡ n + 1 → slice_get ss n ≡ Some s → n < length xs
    → ((ks : List (List ℕ)) (later : List (List (List ℕ))) → IsRead s ks → Knows old later → b ≡ is_masked ks later) → Knows old (drop m kss) → drop m xs ≡ masks (drop m kss) → drop n (slice_set xs n b) ≡ masks (drop n kss)
masks_next ss kss n m s old xs b read next at lt tells known rest =
    let r = read_at ss kss n s read at in
    drop-set xs n b lt ∙ (λ j. tells r.0 (drop m kss) r.2 known j ∷ (subst (λ k. drop k xs ≡ masks (drop m kss)) next rest) j) ∙ sym (ap masks (rest_at kss n m r.0 next r.1))

pub among_bad : {F : Type 0} (e : LensFault F) (ss : List Standing) (n : ℕ) (s : Standing) → slice_get ss n ≡ Some s → OnDamaged e (IsBadIndex s.files.entry s.files.index) → OnDamaged e (IsAmongBad ss)
among_bad (lenses.Fault f) ss n s at bad = tt
among_bad (lenses.Damaged d) ss n s at bad = (s, (n, slice_get_within ss n s at, get_or_from_slice_get ss n s s at), bad)
among_bad lenses.NoMemory ss n s at bad = tt

-- ---- dividing

pub unmasked_push : {A : Type 0} (ms : List Bool) (xs : List A) (m : Bool) (x : A) → length ms ≡ length xs → unmasked (ms ++ m ∷ []) (xs ++ x ∷ []) ≡ (if m then unmasked ms xs else unmasked ms xs ++ x ∷ [])
unmasked_push [] [] true x len = refl
unmasked_push [] [] false x len = refl
unmasked_push [] (y ∷ ys) m x len = absurd (omega (arith, len))
unmasked_push (n ∷ ms) [] m x len = absurd (omega (arith, len))
unmasked_push (true ∷ ms) (y ∷ ys) m x len = unmasked_push ms ys m x (omega (arith, len))
unmasked_push (false ∷ ms) (y ∷ ys) m x len = ap (λ l. y ∷ l) (unmasked_push ms ys m x (omega (arith, len))) ∙ out m
  where
    out : (m : Bool) → y ∷ (if m then unmasked ms ys else unmasked ms ys ++ x ∷ []) ≡ (if m then y ∷ unmasked ms ys else (y ∷ unmasked ms ys) ++ x ∷ [])
    out true = refl
    out false = refl

pub masked_push : {A : Type 0} (ms : List Bool) (xs : List A) (m : Bool) (x : A) → length ms ≡ length xs → masked (ms ++ m ∷ []) (xs ++ x ∷ []) ≡ (if m then masked ms xs ++ x ∷ [] else masked ms xs)
masked_push [] [] true x len = refl
masked_push [] [] false x len = refl
masked_push [] (y ∷ ys) m x len = absurd (omega (arith, len))
masked_push (n ∷ ms) [] m x len = absurd (omega (arith, len))
masked_push (false ∷ ms) (y ∷ ys) m x len = masked_push ms ys m x (omega (arith, len))
masked_push (true ∷ ms) (y ∷ ys) m x len = ap (λ l. y ∷ l) (masked_push ms ys m x (omega (arith, len))) ∙ out m
  where
    out : (m : Bool) → y ∷ (if m then masked ms ys ++ x ∷ [] else masked ms ys) ≡ (if m then (y ∷ masked ms ys) ++ x ∷ [] else y ∷ masked ms ys)
    out true = refl
    out false = refl

abbrev pub found : ℕ → Entry → Option (ℕ × ℕ)
found i e = Some (i + 1, e.writer)

over_next : (i k : ℕ) (m : Bool) (e : Entry) (ms : List Bool) (es : List Entry) → next_over i k m e ≡ None
    → first_over i k (m ∷ ms) (e ∷ es) ≡ first_over (i + 1) (if m then k else k + 1) ms es
over_next i k true e ms es none = refl
over_next i k false e ms es none = go (nat_lt (greatest_writer k) e.writer) none
  where
    go : (b : Bool) → (if b then found i e else None) ≡ None → (if b then found i e else first_over (i + 1) (k + 1) ms es) ≡ first_over (i + 1) (k + 1) ms es
    go true h = absurd (cc h)
    go false h = refl

over_here : (i k : ℕ) (m : Bool) (e : Entry) (ms : List Bool) (es : List Entry) (n w : ℕ) → next_over i k m e ≡ Some (n, w) → first_over i k (m ∷ ms) (e ∷ es) ≡ Some (n, w)
over_here i k true e ms es n w some = absurd (cc some)
over_here i k false e ms es n w some = go (nat_lt (greatest_writer k) e.writer) some
  where
    go : (b : Bool) → (if b then found i e else None) ≡ Some (n, w) → (if b then found i e else first_over (i + 1) (k + 1) ms es) ≡ Some (n, w)
    go true h = h
    go false h = absurd (cc h)

pub over_more : (i k : ℕ) (ms : List Bool) (es : List Entry) (d : Bool) (x : Entry) → i < length ms → i < length es → next_over i k (get_or ms i d) (get_or es i x) ≡ None
    → first_over i k (drop i ms) (drop i es) ≡ first_over (i + 1) (if get_or ms i d then k else k + 1) (drop (i + 1) ms) (drop (i + 1) es)
over_more i k ms es d x lm le none =
    (λ j. first_over i k (drop_more ms i d lm j) (drop_more es i x le j)) ∙ over_next i k (get_or ms i d) (get_or es i x) (drop (i + 1) ms) (drop (i + 1) es) none

pub over_found : (i k : ℕ) (ms : List Bool) (es : List Entry) (d : Bool) (x : Entry) (n w : ℕ) → i < length ms → i < length es → next_over i k (get_or ms i d) (get_or es i x) ≡ Some (n, w)
    → first_over i k (drop i ms) (drop i es) ≡ Some (n, w)
over_found i k ms es d x n w lm le some =
    (λ j. first_over i k (drop_more ms i d lm j) (drop_more es i x le j)) ∙ over_here i k (get_or ms i d) (get_or es i x) (drop (i + 1) ms) (drop (i + 1) es) n w some

-- one entry more
pub kept_more : (ms : List Bool) (es : List Entry) (i : ℕ) (d : Bool) (x : Entry) (old new : List Entry) → length ms ≡ length es → i < length ms → i < length es → old ≡ unmasked (take i ms) (take i es)
    → new ≡ (if get_or ms i d then old else old ++ get_or es i x ∷ []) → new ≡ unmasked (take (i + 1) ms) (take (i + 1) es)
kept_more ms es i d x old new len lm le before is =
    is ∙ ap (λ (l : List Entry). if get_or ms i d then l else l ++ get_or es i x ∷ []) before
    ∙ sym (unmasked_push (take i ms) (take i es) (get_or ms i d) (get_or es i x) (omega (arith, length-take i ms, length-take i es, len)))
    ∙ sym (λ j. unmasked (take_more ms i d lm j) (take_more es i x le j))

pub dropped_more : (ms : List Bool) (es : List Entry) (i : ℕ) (d : Bool) (x : Entry) (old new : List Entry) → length ms ≡ length es → i < length ms → i < length es → old ≡ masked (take i ms) (take i es)
    → new ≡ (if get_or ms i d then old ++ get_or es i x ∷ [] else old) → new ≡ masked (take (i + 1) ms) (take (i + 1) es)
dropped_more ms es i d x old new len lm le before is =
    is ∙ ap (λ (l : List Entry). if get_or ms i d then l ++ get_or es i x ∷ [] else l) before
    ∙ sym (masked_push (take i ms) (take i es) (get_or ms i d) (get_or es i x) (omega (arith, length-take i ms, length-take i es, len)))
    ∙ sym (λ j. masked (take_more ms i d lm j) (take_more es i x le j))

length_push : (xs : List Entry) (e : Entry) → length (xs ++ e ∷ []) ≡ length xs + 1
length_push xs e = length-append xs (e ∷ [])

kept_count : (m : Bool) (a new : List Entry) (e : Entry) → new ≡ (if m then a else a ++ e ∷ []) → length new ≡ (if m then length a else length a + 1)
kept_count true a new e is = ap length is
kept_count false a new e is = ap length is ∙ length_push a e

pub count_more : (m : Bool) (a b na nb : List Entry) (e : Entry) (i : ℕ) → length a + length b ≡ i → na ≡ (if m then a else a ++ e ∷ []) → nb ≡ (if m then b ++ e ∷ [] else b) → length na + length nb ≡ i + 1
count_more true a b na nb e i sum ka kb = let x = ap length ka in let y = ap length kb ∙ length_push b e in omega (arith, x, y, sum)
count_more false a b na nb e i sum ka kb = let x = ap length ka ∙ length_push a e in let y = ap length kb in omega (arith, x, y, sum)

pub within_more : (ms : List Bool) (es : List Entry) (i : ℕ) (d : Bool) (x : Entry) (old new gone : List Entry) → i < length ms → i < length es → length old + length gone ≡ i
    → new ≡ (if get_or ms i d then old else old ++ get_or es i x ∷ []) → next_over (length old + length gone) (length old) (get_or ms i d) (get_or es i x) ≡ None
    → first_over 0 0 ms es ≡ first_over i (length old) (drop i ms) (drop i es) → first_over 0 0 ms es ≡ first_over (i + 1) (length new) (drop (i + 1) ms) (drop (i + 1) es)
within_more ms es i d x old new gone lm le sum is none before =
    before ∙ over_more i (length old) ms es d x lm le (subst (λ n. next_over n (length old) (get_or ms i d) (get_or es i x) ≡ None) sum none)
    ∙ sym (ap (λ k. first_over (i + 1) k (drop (i + 1) ms) (drop (i + 1) es)) (kept_count (get_or ms i d) old new (get_or es i x) is))

-- ---- the bytes of a table

pub slots_push : (es : List Entry) (e : Entry) → slots_of (es ++ e ∷ []) ≡ slots_of es ++ (79 ∷ body_of e)
slots_push es e = slots-append es (e ∷ []) ∙ ap (λ l. slots_of es ++ l) (last (79 ∷ body_of e))
  where
    last : (xs : List ℕ) → xs ++ [] ≡ xs
    last [] = refl
    last (x ∷ xs) = ap (λ l. x ∷ l) (last xs)

-- the last gate is opened, an entry is put behind it, and a closed gate
pub entry_added : (front old popped pushed new body : List ℕ) (n : ℕ) (es : List Entry) (e : Entry) → old ≡ front ++ slots_of es ++ 0 ∷ [] → n ≡ length old → popped ≡ take (n - 1) old → pushed ≡ popped ++ 79 ∷ [] → body ≡ body_of e ++ 0 ∷ []
    → new ≡ pushed ++ body → new ≡ front ++ slots_of (es ++ e ∷ []) ++ 0 ∷ []
entry_added front old popped pushed new body n es e was count pop push shape is =
    let xs = front ++ slots_of es in
    let len : n - 1 ≡ length xs = ap (λ k. k - 1) count ∙ ap (λ l. length l - 1) was ∙ less xs in
    let left : popped ≡ xs = pop ∙ (λ j. take (len j) (was j)) ∙ take-append_seam xs (0 ∷ []) in
    is ∙ (λ j. (push j) ++ shape j) ∙ ap (λ l. (l ++ 79 ∷ []) ++ (body_of e ++ 0 ∷ [])) left
    ∙ append_assoc xs (79 ∷ []) (body_of e ++ 0 ∷ []) ∙ sym (append_assoc xs (79 ∷ body_of e) (0 ∷ []))
    ∙ ap (λ l. l ++ 0 ∷ []) (append_assoc front (slots_of es) (79 ∷ body_of e) ∙ sym (ap (λ l. front ++ l) (slots_push es e)))
  where
    less : (xs : List ℕ) → length (xs ++ 0 ∷ []) - 1 ≡ length xs
    less xs = omega (arith, length-append xs (0 ∷ []))
