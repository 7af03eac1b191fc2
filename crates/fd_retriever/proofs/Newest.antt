-- The newest bytes of a key, found from the last batch on.
use Rattle.std.proofs.Common.{◌≡◌, ◌≤◌, ◌-◌, ℕ, zero, suc, List, [], ◌∷◌, map, drop, length, slice_get, Option, Some, None, refl, sym, ap, ◌∙◌, subst, arith}
use Rattle.std.specs.Prelude.{option_map}
use Rattle.std.proofs.lemmas.List.{length-map}
use Rattle.std.proofs.lemmas.Option.{slice_get-map}
use Rattle.fd_entries.specs.declared.batch.Pair.{Pair}
use Rattle.fd_entries.specs.declared.batch.Listing.{Listing}
use Rattle.fd_entries.specs.Batches.{newest, of_batch, or_older}
use Rattle.fd_segment.specs.Held.{Standing, batch_of}
use Rattle.fd_dataset.specs.Listed.{listing}
use Rattle.fd_retriever.specs.declared.fault.Got.TheVariants.{Found, Miss}
use Rattle.fd_retriever.specs.Kept.{IsNumbered}
use Rattle.fd_retriever.specs.Answers.{IsAnswer, Tells, TookFront}
use Rattle.fd_retriever.proofs.Copying.{nothing_taken}
use Rattle.fd_retriever.proofs.Keeping.{numbered_map}

told_length : (ls : List Listing) (t : List (List Pair)) → Tells ls t → length t ≡ length ls
told_length ls t h = sym (length-map t (λ b. Some b)) ∙ ap length (sym h) ∙ length-map ls (λ l. l.batch)

at_told : (ls : List Listing) (t : List (List Pair)) (i : ℕ) (l : Listing) → Tells ls t → slice_get ls i ≡ Some l → (b : List Pair) × (l.batch ≡ Some b) × (slice_get t i ≡ Some b)
at_told ls t i l h at =
    go (slice_get t i) refl
    (sym (slice_get-map (λ (b : List Pair). Some b) t i) ∙ ap (λ (os : List (Option (List Pair))). slice_get os i) (sym h) ∙ slice_get-map (λ (m : Listing). m.batch) ls i ∙ ap (option_map (λ (m : Listing). m.batch)) at)
  where
    go : (o : Option (List Pair)) → slice_get t i ≡ o → option_map (λ (b : List Pair). Some b) o ≡ Some l.batch → (b : List Pair) × (l.batch ≡ Some b) × (slice_get t i ≡ Some b)
    go None is e = absurd (cc e)
    go (Some b) is e = (b, sym (cc e), is)

pub none_at_end : (ls : List Listing) (t : List (List Pair)) (k : List ℕ) (n : ℕ) → Tells ls t → length ls ≤ n → newest (drop n t) k ≡ None
none_at_end ls t k n h le = go t n (let s = told_length ls t h in omega arith)
  where
    go : (t : List (List Pair)) (n : ℕ) → length t ≤ n → newest (drop n t) k ≡ None
    go [] zero le = refl
    go [] (suc n) le = refl
    go (b ∷ bs) zero le = absurd (omega arith)
    go (b ∷ bs) (suc n) le = go bs n (omega arith)

newest_step : (t : List (List Pair)) (i : ℕ) (b : List Pair) (k : List ℕ) → slice_get t i ≡ Some b → newest (drop i t) k ≡ or_older (newest (drop (suc i) t) k) (of_batch b k)
newest_step [] i b k h = absurd (cc h)
newest_step (c ∷ cs) zero b k h = let e : c ≡ b = cc h in ap (λ (d : List Pair). or_older (newest cs k) (of_batch d k)) e
newest_step (c ∷ cs) (suc i) b k h = newest_step cs i b k h

newest_some : (t : List (List Pair)) (i : ℕ) (k : List ℕ) (x : List ℕ) → newest (drop i t) k ≡ Some x → newest t k ≡ Some x
newest_some t zero k x h = h
newest_some [] (suc i) k x h = h
newest_some (b ∷ bs) (suc i) k x h = ap (λ (o : Option (List ℕ)). or_older o (of_batch b k)) (newest_some bs i k x h)

-- what a segment's batch says of the newest bytes, where none of the later ones has the key
pub record Here (t : List (List Pair)) (number : ℕ) (s : Standing) (k : List ℕ) : Type 0 where
  pub batch : List Pair
  pub told : batch_of s.files ≡ Some batch
  pub newest_is : newest (drop (number - 1) t) k ≡ of_batch batch k

pub here : (ss : List Standing) (t : List (List Pair)) (number : ℕ) (s : Standing) (k : List ℕ) → Tells (map listing ss) t → IsNumbered ss number s → newest (drop number t) k ≡ None → Here t number s k
here ss t number s k h at above =
    let in_list = numbered_map listing ss number s at in
    let told = at_told (map listing ss) t (number - 1) (listing s) h in_list.1 in
    let up : number ≡ suc (number - 1) = omega (arith, at.0) in
    record {
      batch = told.0;
      told = told.1;
      newest_is = newest_step t (number - 1) told.0 k told.2 ∙ ap (λ (o : Option (List ℕ)). or_older o (of_batch told.0 k)) (subst (λ (n : ℕ). newest (drop n t) k ≡ None) up above);
    }

answer_found : (o whole : Option (List ℕ)) (old new : Option (List ℕ)) (n : ℕ) → ((x : List ℕ) → o ≡ Some x → whole ≡ Some x) → IsAnswer o old new (Found n) → IsAnswer whole old new (Found n)
answer_found (Some x) whole old new n up is = subst (λ (w : Option (List ℕ)). IsAnswer w old new (Found n)) (sym (up x refl)) is
answer_found None whole old new n up is = absurd is

answer_missed : (o old new : Option (List ℕ)) → IsAnswer o old new Miss → o ≡ None
answer_missed (Some x) old new is = absurd is
answer_missed None old new is = refl

front_above : (o whole : Option (List ℕ)) (old new : Option (List ℕ)) → ((x : List ℕ) → o ≡ Some x → whole ≡ Some x) → TookFront o old new → TookFront whole old new
front_above (Some x) whole old new up is = subst (λ (w : Option (List ℕ)). TookFront w old new) (sym (up x refl)) is
front_above None whole old new up is = subst (λ (n : Option (List ℕ)). TookFront whole old n) (sym is) (nothing_taken whole old)

-- found in the segment of a number: found among all
pub found_here : (ss : List Standing) (t : List (List Pair)) (number : ℕ) (s : Standing) (k : List ℕ) (old new : Option (List ℕ)) (n : ℕ) → Tells (map listing ss) t → IsNumbered ss number s → newest (drop number t) k ≡ None
    → ((b : List Pair) → batch_of s.files ≡ Some b → IsAnswer (of_batch b k) old new (Found n)) → IsAnswer (newest t k) old new (Found n)
found_here ss t number s k old new n h at above answer =
    let w = here ss t number s k h at above in
    answer_found (of_batch w.batch k) (newest t k) old new n (λ x is. newest_some t (number - 1) k x (w.newest_is ∙ is)) (answer w.batch w.told)

-- missed in the segment of a number: still none
pub missed_here : (ss : List Standing) (t : List (List Pair)) (number : ℕ) (s : Standing) (k : List ℕ) (old new : Option (List ℕ)) → Tells (map listing ss) t → IsNumbered ss number s → newest (drop number t) k ≡ None
    → ((b : List Pair) → batch_of s.files ≡ Some b → IsAnswer (of_batch b k) old new Miss) → newest (drop (number - 1) t) k ≡ None
missed_here ss t number s k old new h at above answer =
    let w = here ss t number s k h at above in
    w.newest_is ∙ answer_missed (of_batch w.batch k) old new (answer w.batch w.told)

-- refused in the segment of a number: a front of the newest bytes was taken
pub refused_here : (ss : List Standing) (t : List (List Pair)) (number : ℕ) (s : Standing) (k : List ℕ) (old new : Option (List ℕ)) → Tells (map listing ss) t → IsNumbered ss number s → newest (drop number t) k ≡ None
    → ((b : List Pair) → batch_of s.files ≡ Some b → TookFront (of_batch b k) old new) → TookFront (newest t k) old new
refused_here ss t number s k old new h at above front =
    let w = here ss t number s k h at above in
    front_above (of_batch w.batch k) (newest t k) old new (λ x is. newest_some t (number - 1) k x (w.newest_is ∙ is)) (front w.batch w.told)
