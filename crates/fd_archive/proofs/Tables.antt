-- What a table lists, and the batches that its entries stand for.
use Rattle.std.proofs.Common.{◌≡◌, ◌∙◌, ◌≤◌, ℕ, zero, suc, ◌+◌, ◌==◌, Bool, true, false, List, [], ◌∷◌, ◌++◌, length, drop, Option, Some, None, option_map, refl, sym, ap, arith, append-nil, length-append, if◌then◌else◌}
use Rattle.std.specs.Prelude.{Result, Ok, Err}
use mathlib.Core.List.{IsPrefix}
use Rattle.fd_entries.specs.declared.batch.Pair.{Pair}
use Rattle.fd_entries.specs.declared.table.Entry.{Entry}
use Rattle.fd_entries.specs.declared.table.NotATable.{NotATable}
use Rattle.fd_entries.specs.Table.{entry_fault, entry_in, fixed, gate_at, header, listed, mismatch, run_from, unless_fault, with_entry}
use Rattle.fd_entries.proofs.Inverse.{unless_ok}
use Rattle.fd_recovery.specs.Recovered.{all_of}

-- ---- a table lists 65,535 entries at most

one_more : (e : Entry) (r : Result (List Entry) NotATable) (room : ℕ) (es : List Entry) → ((more : List Entry) → r ≡ Ok more → length more ≤ room) → with_entry e r ≡ Ok es → length es ≤ suc room
one_more e (Err f) room es few is = absurd (cc is)
one_more e (Ok more) room es few is =
    let front : e ∷ more ≡ es = cc is in
    let long = ap length front in
    let le = few more refl in
    omega (arith, long, le)

abbrev closed : Result (List Entry) NotATable
closed = Ok []

abbrev no_room : ℕ → ℕ → Result (List Entry) NotATable
no_room i gate = Err (record { at = gate_at i; want = 0; found = Some gate })

few_run : (room i : ℕ) (bytes : List ℕ) (es : List Entry) → run_from room i bytes ≡ Ok es → length es ≤ room
few_run zero i [] es is = absurd (cc is)
few_run (suc room) i [] es is = absurd (cc is)
few_run zero i (gate ∷ rest) es is = go (gate == 79) is
  where
    go : (b : Bool) → (if b then no_room i gate else closed) ≡ Ok es → length es ≤ 0
    go true e = absurd (cc e)
    go false e = let none : [] ≡ es = cc e in let long = ap length none in omega (arith, long)
few_run (suc room) i (gate ∷ rest) es is = go (gate == 79) (λ more listed. few_run room (i + 1) (drop 63 rest) more listed) is
  where
    go : (b : Bool) → ((more : List Entry) → run_from room (i + 1) (drop 63 rest) ≡ Ok more → length more ≤ room)
        → (if b then unless_fault (entry_fault i rest) (with_entry (entry_in rest) (run_from room (i + 1) (drop 63 rest))) else closed) ≡ Ok es → length es ≤ suc room
    go true few e = one_more (entry_in rest) (run_from room (i + 1) (drop 63 rest)) room es few (unless_ok (entry_fault i rest) (with_entry (entry_in rest) (run_from room (i + 1) (drop 63 rest))) es e).1
    go false few e = let none : [] ≡ es = cc e in let long = ap length none in omega (arith, long)

pub few_listed : (dataset bytes : List ℕ) (es : List Entry) → listed dataset bytes ≡ Ok es → length es ≤ 65535
unfolding listed
few_listed dataset bytes es is = few_run 65535 0 (drop 320 bytes) es (unless_ok (mismatch 0 (fixed (header dataset)) bytes) (run_from 65535 0 (drop 320 bytes)) es is).1

-- ---- a front of the same length is the whole

module _ {X : Type 0} where
  no_more : (xs ys rest : List X) → xs ++ rest ≡ ys → length ys ≡ length xs → ys ≡ xs
  no_more xs ys [] is same = sym is ∙ append-nil xs
  no_more xs ys (r ∷ rest) is same = absurd (omega (arith, same, ap length is, length-append xs (r ∷ rest)))

  pub whole_prefix : (xs ys : List X) → IsPrefix xs ys → length ys ≡ length xs → ys ≡ xs
  whole_prefix xs ys p same = no_more xs ys p.0 p.1 same

-- ---- lists of batches

pub all_both : (xs ys : List (Option (List Pair))) (a b : List (List Pair)) → all_of xs ≡ Some a → all_of ys ≡ Some b → all_of (xs ++ ys) ≡ Some (a ++ b)
all_both [] ys a b e f = let none : [] ≡ a = cc e in f ∙ ap (λ (zs : List (List Pair)). Some (zs ++ b)) none
all_both (None ∷ xs) ys a b e f = absurd (cc e)
all_both (Some x ∷ xs) ys a b e f = go (all_of xs) refl (λ zs is. all_both xs ys zs b is f) e
  where
    go : (o : Option (List (List Pair))) → all_of xs ≡ o → ((zs : List (List Pair)) → all_of xs ≡ Some zs → all_of (xs ++ ys) ≡ Some (zs ++ b)) → option_map (λ more. x ∷ more) o ≡ Some a → option_map (λ more. x ∷ more) (all_of (xs ++ ys)) ≡ Some (a ++ b)
    go None is rest e = absurd (cc e)
    go (Some zs) is rest e =
        let front : x ∷ zs ≡ a = cc e in
        ap (option_map (λ more. x ∷ more)) (rest zs is) ∙ ap (λ (cs : List (List Pair)). Some (cs ++ b)) front

pub all_long : (xs : List (Option (List Pair))) (a : List (List Pair)) → all_of xs ≡ Some a → length a ≡ length xs
all_long [] a e = let none : [] ≡ a = cc e in sym (ap length none)
all_long (None ∷ xs) a e = absurd (cc e)
all_long (Some x ∷ xs) a e = go (all_of xs) (λ zs is. all_long xs zs is) e
  where
    go : (o : Option (List (List Pair))) → ((zs : List (List Pair)) → o ≡ Some zs → length zs ≡ length xs) → option_map (λ more. x ∷ more) o ≡ Some a → length a ≡ suc (length xs)
    go None rest e = absurd (cc e)
    go (Some zs) rest e =
        let front : x ∷ zs ≡ a = cc e in
        sym (ap length front) ∙ ap suc (rest zs refl)
