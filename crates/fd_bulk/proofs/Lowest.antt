-- The refusals of the workers, one by one, and the lowest of them.
use Rattle.std.proofs.Common.{◌≡◌, ◌⊎◌, inl, inr, ◌<◌, ◌≤◌, ◌+◌, ℕ, List, length, slice_get, Option, Some, None, IfSome, Ok, Err, sym, ap, subst, ◌∙◌, arith}
use Rattle.std.proofs.lemmas.Option.{slice_get_within}
use Rattle.fd_bytes.specs.Causes.{Rose}
use Rattle.fd_archiver.specs.declared.fault.FlushFault.{FlushFault}
use Rattle.fd_bulk.specs.declared.bulk.BulkFault.{BulkFault}
use Rattle.fd_bulk.specs.declared.bulk.BulkFault.TheVariants as faults
use Rattle.fd_shares.specs.declared.round.Halt.{Halt}
use Rattle.fd_shares.specs.declared.round.Job.{Job}
use Rattle.fd_bulk.specs.Halting.{Halted, HaltedSo, IsLower, IsLowest, IsTold, OnStore}

below_or : (v w : ℕ) → v < w + 1 → (v < w) ⊎ (v ≡ w)
below_or v w lt = grind arith

module _ {A P F : Type 0} (w : ℕ) (js : List (Job A P (FlushFault F))) (j : Job A P (FlushFault F)) (there : slice_get js w ≡ Some j) where
  its : (k : Job A P (FlushFault F)) (v : ℕ) → v ≡ w → slice_get js v ≡ Some k → k ≡ j
  its k v same at = let a = ap (slice_get js) (sym same) ∙ at in cc (a, there)

  -- this one has none
  pub none_more : {X : Type 0} (first : Option (Halt (BulkFault X))) → j.halt ≡ None → HaltedSo w js first → HaltedSo (w + 1) js first
  none_more None none so = λ v k lt at. go v k at (below_or v w lt)
    where
      go : (v : ℕ) (k : Job A P (FlushFault F)) → slice_get js v ≡ Some k → (v < w) ⊎ (v ≡ w) → k.halt ≡ None
      go v k at (inl lt) = so v k lt at
      go v k at (inr same) = ap (λ (i : Job A P (FlushFault F)). i.halt) (its k v same at) ∙ none
  none_more (Some f) none so = record {
    worker = so.worker;
    job = so.job;
    fault = so.fault;
    job_at = so.job_at;
    halt = so.halt;
    told_is = so.told_is;
    lowest = λ v k h lt at is. go v k h at is (below_or v w lt);
  }
    where
      go : (v : ℕ) (k : Job A P (FlushFault F)) (h : Halt (FlushFault F)) → slice_get js v ≡ Some k → k.halt ≡ Some h → (v < w) ⊎ (v ≡ w) → f.at ≤ h.at
      go v k h at is (inl lt) = so.lowest v k h lt at is
      go v k h at is (inr same) = absurd (let e = ap (λ (i : Job A P (FlushFault F)). i.halt) (its k v same at) ∙ none in cc (e, is))

  -- this one has one
  module _ (h : Halt (FlushFault F)) (halt : j.halt ≡ Some h) where
    here : (v : ℕ) (k : Job A P (FlushFault F)) (i : Halt (FlushFault F)) → slice_get js v ≡ Some k → k.halt ≡ Some i → v ≡ w → h ≡ i
    here v k i at is same = let e = ap (λ (x : Job A P (FlushFault F)). x.halt) (its k v same at) ∙ halt in cc (e, is)

    new_lowest : {X : Type 0} (told : BulkFault X) → IsTold h.fault told → ((v : ℕ) (k : Job A P (FlushFault F)) (i : Halt (FlushFault F)) → v < w → slice_get js v ≡ Some k → k.halt ≡ Some i → h.at ≤ i.at) → IsLowest (w + 1) js h.at told
    new_lowest told told_is least = record {
      worker = w;
      job = j;
      fault = h.fault;
      job_at = there;
      halt = halt;
      told_is = told_is;
      lowest = λ v k i lt at is. go v k i at is (below_or v w lt);
    }
      where
        go : (v : ℕ) (k : Job A P (FlushFault F)) (i : Halt (FlushFault F)) → slice_get js v ≡ Some k → k.halt ≡ Some i → (v < w) ⊎ (v ≡ w) → h.at ≤ i.at
        go v k i at is (inl lt) = least v k i lt at is
        go v k i at is (inr same) = let e = ap (λ (x : Halt (FlushFault F)). x.at) (here v k i at is same) in omega (arith, e)

    pub some_more : {X : Type 0} (told : BulkFault X) → IsTold h.fault told → (first : Option (Halt (BulkFault X))) (result : Halt (BulkFault X)) → IsLower first (record { at = h.at; fault = told }) result → HaltedSo w js first → HaltedSo (w + 1) js (Some result)
    some_more {X = X} told told_is None result is so =
        subst (λ (r : Halt (BulkFault X)). IsLowest (w + 1) js r.at r.fault) (sym is) (new_lowest told told_is (λ v k i lt at halts. absurd (let e = so v k lt at in cc (e, halts))))
    some_more {X = X} told told_is (Some f) result (inl is) so =
        subst (λ (r : Halt (BulkFault X)). IsLowest (w + 1) js r.at r.fault) (sym is.0) (new_lowest told told_is (λ v k i lt at halts. let a = so.lowest v k i lt at halts in let b = is.1 in omega (arith, a, b)))
    some_more {X = X} told told_is (Some f) result (inr is) so = subst (λ (r : Halt (BulkFault X)). IsLowest (w + 1) js r.at r.fault) (sym is.0) (record {
      worker = so.worker;
      job = so.job;
      fault = so.fault;
      job_at = so.job_at;
      halt = so.halt;
      told_is = so.told_is;
      lowest = λ v k i lt at halts. go v k i at halts (below_or v w lt);
    })
      where
        go : (v : ℕ) (k : Job A P (FlushFault F)) (i : Halt (FlushFault F)) → slice_get js v ≡ Some k → k.halt ≡ Some i → (v < w) ⊎ (v ≡ w) → f.at ≤ i.at
        go v k i at halts (inl lt) = so.lowest v k i lt at halts
        go v k i at halts (inr same) = let e = ap (λ (x : Halt (FlushFault F)). x.at) (here v k i at halts same) in let b = is.1 in omega (arith, e, b)

-- all were met
pub halted_none : {A P F X : Type 0} (n : ℕ) (js : List (Job A P (FlushFault F))) (first : Option (Halt (BulkFault X))) → length js ≤ n → first ≡ None → HaltedSo n js first → Halted {X = X} js (Ok tt)
halted_none {X = X} n js first le is so = λ w j at.
    let lt = slice_get_within js w j at in (subst (λ (o : Option (Halt (BulkFault X))). HaltedSo n js o) is so) w j (omega (arith, lt, le)) at

pub halted_some : {A P F X : Type 0} (n : ℕ) (js : List (Job A P (FlushFault F))) (first : Option (Halt (BulkFault X))) (h : Halt (BulkFault X)) → n ≡ length js → first ≡ Some h → HaltedSo n js first → Halted js (Err h.fault)
halted_some {X = X} n js first h long is so = (h.at, subst (λ (k : ℕ). IsLowest k js h.at h.fault) long (subst (λ (o : Option (Halt (BulkFault X))). HaltedSo n js o) is so))

-- ---- counts of faults

module _ {X : Type 0} where
  pub store_weaker : (P Q : Type 0) (u : BulkFault X) → (P → Q) → OnStore u P → OnStore u Q
  store_weaker P Q (faults.Input f) g p = tt
  store_weaker P Q (faults.Message bad) g p = tt
  store_weaker P Q (faults.NoMap number field) g p = tt
  store_weaker P Q (faults.Cut t) g p = tt
  store_weaker P Q (faults.Key number why) g p = tt
  store_weaker P Q (faults.NoRule number text) g p = tt
  store_weaker P Q faults.Disk g p = g p
  store_weaker P Q (faults.NotATable dataset at want found) g p = tt
  store_weaker P Q (faults.Damaged dataset damage) g p = tt
  store_weaker P Q (faults.TableFull count) g p = tt
  store_weaker P Q (faults.TooMany count) g p = tt
  store_weaker P Q faults.InputLimit g p = tt
  store_weaker P Q faults.NoMemory g p = tt

pub rose_later : (a b c : ℕ) → b ≤ c → Rose a b → Rose a c
rose_later a b c le rose = λ lt. let e = rose (omega (arith, le, lt)) in omega (arith, e, le)

pub rose_before : (a b c : ℕ) → a ≤ b → Rose b c → Rose a c
rose_before a b c le rose = λ lt. let e = rose lt in omega (arith, e, le)

-- the count rose before, or now
module _ {X : Type 0} (a b c : ℕ) (le : a ≤ b) (later : b ≤ c) where
  pub cause_lower : (first : Option (Halt (BulkFault X))) (other result : Halt (BulkFault X)) → IsLower first other result → IfSome first (λ h. OnStore h.fault (Rose a b)) → OnStore other.fault (Rose b c) → OnStore result.fault (Rose a c)
  cause_lower None other result is p q = subst (λ (h : Halt (BulkFault X)). OnStore h.fault (Rose a c)) (sym is) (store_weaker (Rose b c) (Rose a c) other.fault (rose_before a b c le) q)
  cause_lower (Some f) other result (inl is) p q = subst (λ (h : Halt (BulkFault X)). OnStore h.fault (Rose a c)) (sym is.0) (store_weaker (Rose b c) (Rose a c) other.fault (rose_before a b c le) q)
  cause_lower (Some f) other result (inr is) p q = subst (λ (h : Halt (BulkFault X)). OnStore h.fault (Rose a c)) (sym is.0) (store_weaker (Rose a b) (Rose a c) f.fault (rose_later a b c later) p)
