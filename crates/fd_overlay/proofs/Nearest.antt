-- The newest bytes of a key among layers.
use Rattle.std.proofs.Common.{◌≡◌, ◌<◌, ◌≤◌, ◌+◌, ◌⊎◌, inl, inr, ℕ, zero, suc, List, [], ◌∷◌, map, length, slice_get, get_or, Option, Some, None, refl, sym, ap, ◌∙◌, subst, arith}
use Rattle.std.specs.Prelude.{slice_set}
use Rattle.std.proofs.lemmas.List.{set-get_or}
use Rattle.std.proofs.lemmas.Option.{same_Some, slice_get_read, slice_get_within}
use Rattle.fd_entries.specs.declared.batch.Pair.{Pair}
use Rattle.fd_entries.specs.Batches.{newest, or_older}
use Rattle.fd_segment.specs.Held.{Standing}
use Rattle.fd_dataset.specs.Listed.{listing}
use Rattle.fd_retriever.specs.declared.fault.Got.TheVariants.{Found, Miss}
use Rattle.fd_retriever.specs.declared.fault.FetchFault.{FetchFault}
use Rattle.fd_retriever.specs.declared.fault.FetchFault.TheVariants as faults
use Rattle.fd_retriever.specs.Answers.{IsAnswer, OnDamaged, SomeUntold, StandsAmong, Tells, TookFront}
use Rattle.fd_retriever.proofs.Copying.{nothing_taken_as}
use Rattle.fd_layers.specs.Tables.{laid}
use Rattle.fd_layers.proofs.Laid.{newest_joined}
use Rattle.fd_overlay.specs.Layers.{AllTell, EachLayer, EachNearer, SomeLayerUntold, StandsInLayer}

-- ---- what is nearer

pub before_or_at : (k i : ℕ) → k < i + 1 → (k < i) ⊎ (k ≡ i)
before_or_at k i lt = grind (arith, lt)

pub none_nearer : (ls : List (List Standing)) (P : List Standing → Type 0) → EachNearer ls 0 P
none_nearer ls P = λ j ss lt at. absurd (omega (arith, lt))

pub one_nearer : (ls : List (List Standing)) (i : ℕ) (ss : List Standing) (P : List Standing → Type 0) → slice_get ls i ≡ Some ss → P ss → EachNearer ls i P → EachNearer ls (i + 1) P
one_nearer ls i ss P here holds before = λ j tt lt at. elim (before_or_at j i lt) [
  | inl less ↦ before j tt less at
  | inr same ↦ subst P (same_Some ss tt (sym here ∙ (ap (slice_get ls) (sym same) ∙ at))) holds
]

pub all_nearer : (ls : List (List Standing)) (i : ℕ) (P : List Standing → Type 0) → length ls ≤ i → EachNearer ls i P → EachLayer ls P
all_nearer ls i P all before = λ j ss at. let lt = slice_get_within ls j ss at in before j ss (omega (arith, lt, all)) at

-- ---- tables

-- no batch of the layer has the key
abbrev pub Lacks : List ℕ → List Standing → Type 0
Lacks key ss = (t : List (List Pair)) → Tells (map listing ss) t → newest t key ≡ None

-- a layer, where no nearer one has the key, and what is older than its table
pub record AtLayer (ss : List Standing) (tables : List (List (List Pair))) (key : List ℕ) : Type 0 where
  pub table : List (List Pair)
  pub tells : Tells (map listing ss) table
  pub older : Option (List ℕ)
  pub newest_is : newest (laid tables) key ≡ or_older (newest table key) older

pub at_layer : (ls : List (List Standing)) (ts : List (List (List Pair))) (i : ℕ) (ss : List Standing) (key : List ℕ) → AllTell ls ts → slice_get ls i ≡ Some ss → EachNearer ls i (Lacks key) → AtLayer ss ts key
at_layer [] ts i ss key tell at lacks = absurd (cc at)
at_layer (l ∷ ls) [] i ss key tell at lacks = absurd tell
at_layer (l ∷ ls) (t ∷ ts) zero ss key tell at lacks = record {
  table = t;
  tells = subst (λ (s : List Standing). Tells (map listing s) t) (same_Some l ss at) tell.0;
  older = newest (laid ts) key;
  newest_is = newest_joined (laid ts) t key;
}
at_layer (l ∷ ls) (t ∷ ts) (suc i) ss key tell at lacks =
    let rest = at_layer ls ts i ss key tell.1 at (λ j tt lt is. lacks (suc j) tt (omega (arith, lt)) is) in
    let here : newest t key ≡ None = lacks 0 l (omega arith) refl t tell.0 in
    record {
      table = rest.table;
      tells = rest.tells;
      older = rest.older;
      newest_is = newest_joined (laid ts) t key ∙ (ap (λ (o : Option (List ℕ)). or_older o (newest (laid ts) key)) here ∙ rest.newest_is);
    }

pub all_lack : (ls : List (List Standing)) (ts : List (List (List Pair))) (key : List ℕ) → AllTell ls ts → EachLayer ls (Lacks key) → newest (laid ts) key ≡ None
all_lack [] [] key tell lacks = refl
all_lack [] (t ∷ ts) key tell lacks = absurd tell
all_lack (l ∷ ls) [] key tell lacks = absurd tell
all_lack (l ∷ ls) (t ∷ ts) key tell lacks =
    let here : newest t key ≡ None = lacks 0 l refl t tell.0 in
    newest_joined (laid ts) t key ∙ (ap (λ (o : Option (List ℕ)). or_older o (newest (laid ts) key)) here ∙ all_lack ls ts key tell.1 (λ j ss at. lacks (suc j) ss at))

-- ---- what is fetched

found_over : (x older old new : Option (List ℕ)) (n : ℕ) → IsAnswer x old new (Found n) → IsAnswer (or_older x older) old new (Found n)
found_over (Some bytes) older old new n is = is
found_over None older old new n is = absurd is

front_over : (x older old new : Option (List ℕ)) → TookFront x old new → TookFront (or_older x older) old new
front_over (Some bytes) older old new took = took
front_over None older old new same = nothing_taken_as older old new same

missed : (x old new : Option (List ℕ)) → IsAnswer x old new Miss → x ≡ None
missed None old new is = refl
missed (Some bytes) old new is = absurd is

-- a layer of which a fetch answers a miss lacks the key
pub lacks_missed : (ss : List Standing) (key : List ℕ) (old new : Option (List ℕ)) → ((t : List (List Pair)) → Tells (map listing ss) t → IsAnswer (newest t key) old new Miss) → Lacks key ss
lacks_missed ss key old new answer t tells = missed (newest t key) old new (answer t tells)

pub found_here : (ls : List (List Standing)) (i : ℕ) (ss : List Standing) (key : List ℕ) (old new : Option (List ℕ)) (n : ℕ) → slice_get ls i ≡ Some ss → EachNearer ls i (Lacks key)
    → ((t : List (List Pair)) → Tells (map listing ss) t → IsAnswer (newest t key) old new (Found n)) → (ts : List (List (List Pair))) → AllTell ls ts → IsAnswer (newest (laid ts) key) old new (Found n)
found_here ls i ss key old new n at lacks answer ts tell =
    let a = at_layer ls ts i ss key tell at lacks in
    subst (λ (x : Option (List ℕ)). IsAnswer x old new (Found n)) (sym a.newest_is) (found_over (newest a.table key) a.older old new n (answer a.table a.tells))

pub front_here : (ls : List (List Standing)) (i : ℕ) (ss : List Standing) (key : List ℕ) (old new : Option (List ℕ)) → slice_get ls i ≡ Some ss → EachNearer ls i (Lacks key)
    → ((t : List (List Pair)) → Tells (map listing ss) t → TookFront (newest t key) old new) → (ts : List (List (List Pair))) → AllTell ls ts → TookFront (newest (laid ts) key) old new
front_here ls i ss key old new at lacks took ts tell =
    let a = at_layer ls ts i ss key tell at lacks in
    subst (λ (x : Option (List ℕ)). TookFront x old new) (sym a.newest_is) (front_over (newest a.table key) a.older old new (took a.table a.tells))

pub missed_all : (ls : List (List Standing)) (key : List ℕ) (old new : Option (List ℕ)) → EachLayer ls (Lacks key) → new ≡ old → (ts : List (List (List Pair))) → AllTell ls ts → IsAnswer (newest (laid ts) key) old new Miss
missed_all ls key old new lacks same ts tell = subst (λ (x : Option (List ℕ)). IsAnswer x old new Miss) (sym (all_lack ls ts key tell lacks)) same

-- ---- what refuses

pub damaged_here : {F X : Type 0} (e : FetchFault F X) (ls : List (List Standing)) (i : ℕ) (ss : List Standing) (key : List ℕ) → slice_get ls i ≡ Some ss → OnDamaged e (StandsAmong ss key) → OnDamaged e (StandsInLayer ls key)
damaged_here (faults.Disk f) ls i ss key at stands = tt
damaged_here (faults.Write x) ls i ss key at stands = tt
damaged_here (faults.Damaged d) ls i ss key at stands = (i, ss, at, stands)
damaged_here faults.NoMemory ls i ss key at stands = tt

pub untold_here : {F X : Type 0} (e : FetchFault F X) (ls : List (List Standing)) (i : ℕ) (ss : List Standing) → slice_get ls i ≡ Some ss → OnDamaged e (λ _. SomeUntold (map listing ss)) → OnDamaged e (λ _. SomeLayerUntold ls)
untold_here (faults.Disk f) ls i ss at untold = tt
untold_here (faults.Write x) ls i ss at untold = tt
untold_here (faults.Damaged d) ls i ss at untold = (i, ss, at, untold)
untold_here faults.NoMemory ls i ss at untold = tt

-- the layer with a number, where the same layers were lent
pub fetched_at : (ls lent : List (List Standing)) (i : ℕ) (ss : List Standing) → lent ≡ ls → i < length lent → ss ≡ get_or lent i ss → slice_get ls i ≡ Some ss
fetched_at ls lent i ss same lt is = subst (λ (x : List (List Standing)). slice_get x i ≡ Some ss) same (slice_get_read lent (length lent) i ss refl lt is)

-- what is as it was is put back
pub put_back : {A : Type 0} (xs : List A) (i : ℕ) (x : A) → x ≡ get_or xs i x → slice_set xs i x ≡ xs
put_back xs i x is = ap (slice_set xs i) is ∙ set-get_or xs i x
