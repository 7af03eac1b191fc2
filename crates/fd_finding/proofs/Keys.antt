-- From one key to all keys of a worker.
use Rattle.std.proofs.Common.{◌≡◌, ◌≤◌, ◌<◌, ◌+◌, ◌-◌, ◌⊎◌, inl, inr, ℕ, zero, suc, List, [], ◌∷◌, map, length, get_or, Option, None, Some, All, Contains, refl, sym, ap, ◌∙◌, subst, arith}
use Rattle.std.specs.Prelude.{IsSome}
use Rattle.std.proofs.lemmas.List.{length-map}
use Rattle.fd_segment.specs.declared.fault.Damage.{Damage}
use Rattle.fd_segment.specs.declared.fault.LensFault.{LensFault}
use Rattle.fd_segment.specs.declared.fault.LensFault.TheVariants.{Fault, Damaged, NoMemory}
use Rattle.fd_segment.specs.Causes.{IsBadFrame, IsBadIndex, IsFindDamage, OnDamaged}
use Rattle.fd_segment.specs.Held.{Files, Standing, batch_of}
use Rattle.fd_dataset.specs.Listed.{listing}
use Rattle.fd_retriever.specs.Kept.{IsNumbered}
use Rattle.fd_retriever.specs.Answers.{SomeUntold}
use Rattle.fd_retriever.proofs.Copying.{bad_index}
use Rattle.fd_retriever.proofs.Keeping.{numbered_map}
use Rattle.fd_finding.specs.declared.spot.Sought.{Sought}
use Rattle.fd_retriever.specs.declared.spot.Spot.{Spot}
use Rattle.fd_finding.specs.Spots.{StandsForOne, StandsForSome}
use Rattle.fd_finding.specs.Searching.{AllLooked, IsSearched, IsSoFar, Looked, key_of, spot_of}
use Rattle.fd_finding.proofs.Spots.{found_stays, lacks_at_end, so_far_more}

get_or_map : {A B : Type 0} (f : A → B) (xs : List A) (i : ℕ) (d : A) → get_or (map f xs) i (f d) ≡ f (get_or xs i d)
get_or_map f [] i d = refl
get_or_map f (x ∷ xs) zero d = refl
get_or_map f (x ∷ xs) (suc i) d = get_or_map f xs i d

-- the keys stay
pub same_keys : (f : Files) (n : ℕ) (old new : List Sought) → AllLooked f n old new → map key_of new ≡ map key_of old
same_keys f n old new looked = go old new looked.long looked.each
  where
    go : (xs ys : List Sought) → length ys ≡ length xs → ((k : ℕ) (d : Sought) → k < length xs → Looked f n (get_or xs k d) (get_or ys k d)) → map key_of ys ≡ map key_of xs
    go [] [] long each = refl
    go [] (y ∷ ys) long each = absurd (omega arith)
    go (x ∷ xs) [] long each = absurd (omega arith)
    go (x ∷ xs) (y ∷ ys) long each = λ i. (each 0 x (omega arith)).key i ∷ go xs ys (omega arith) (λ k d lt. each (suc k) d (omega arith)) i

-- nothing was searched yet
pub so_far_first : (ss : List Standing) (n : ℕ) (sought : List Sought) → length ss ≤ n → All (λ (one : Sought). one.spot ≡ None) sought → All (IsSoFar ss n) sought
so_far_first ss n sought long fresh = λ k d lt. rw (fresh k d lt) (lacks_at_end ss (get_or sought k d).key n long)

-- one more segment was searched for all keys
pub all_more : (ss : List Standing) (n : ℕ) (s : Standing) (old new : List Sought) → IsNumbered ss n s → AllLooked s.files n old new → All (IsSoFar ss n) old → All (IsSoFar ss (n - 1)) new
all_more ss n s old new at looked all = λ k d lt.
    let within : k < length old = omega (arith, lt, looked.long) in
    so_far_more ss n s (get_or old k d) (get_or new k d) at (looked.each k d within) (all k d within)

-- all are found before the last segment was searched
pub all_found : (ss : List Standing) (n : ℕ) (sought : List Sought) → All (λ (one : Sought). IsSome one.spot) sought → All (IsSoFar ss n) sought → All (IsSoFar ss 0) sought
all_found ss n sought some all = λ k d lt. found_stays ss n 0 (get_or sought k d).key (get_or sought k d).spot (some k d lt) (all k d lt)

-- the damage met at one of the keys
pub stands_for_one : {F : Type 0} (e : LensFault F) (f : Files) (sought : List Sought) (k : ℕ) (one : Sought) → k < length sought → one ≡ get_or sought k one → OnDamaged e (IsFindDamage f.entry f.index one.key) → OnDamaged e (StandsForOne f (map key_of sought))
stands_for_one (Fault x) f sought k one lt is damage = tt
stands_for_one NoMemory f sought k one lt is damage = tt
stands_for_one (Damaged d) f sought k one lt is damage = inr (one.key, (k, omega (arith, lt, length-map sought key_of), get_or_map key_of sought k one ∙ ap key_of (sym is)), damage)

-- the damage met where a segment is opened
pub stands_at_opening : {F : Type 0} (e : LensFault F) (f : Files) (keys : List (List ℕ)) → OnDamaged e (IsBadIndex f.entry f.index) → OnDamaged e (IsBadFrame f.entry f.index) → OnDamaged e (StandsForOne f keys)
stands_at_opening (Fault x) f keys bad part = tt
stands_at_opening NoMemory f keys bad part = tt
stands_at_opening (Damaged d) f keys bad part = inl (bad, part)

-- a segment that isn't opened for its index stands for no batch
pub untold_opened : {F : Type 0} (e : LensFault F) (f : Files) → OnDamaged e (IsBadIndex f.entry f.index) → OnDamaged e (λ _. batch_of f ≡ None)
untold_opened (Fault x) f damage = tt
untold_opened NoMemory f damage = tt
untold_opened (Damaged d) f damage = bad_index f d damage

-- damage of one segment is damage among all
pub stands_for_some : {F : Type 0} (e : LensFault F) (ss : List Standing) (n : ℕ) (s : Standing) (keys same : List (List ℕ)) → keys ≡ same → IsNumbered ss n s → OnDamaged e (StandsForOne s.files keys) → OnDamaged e (StandsForSome ss same)
stands_for_some (Fault x) ss n s keys same is at damage = tt
stands_for_some NoMemory ss n s keys same is at damage = tt
stands_for_some (Damaged d) ss n s keys same is at damage = (n, s, at, subst (λ (ks : List (List ℕ)). StandsForOne s.files ks d) is damage)

pub untold_among : {F : Type 0} (e : LensFault F) (ss : List Standing) (n : ℕ) (s : Standing) → IsNumbered ss n s → OnDamaged e (λ _. batch_of s.files ≡ None) → OnDamaged e (λ _. SomeUntold (map listing ss))
untold_among (Fault x) ss n s at none = tt
untold_among NoMemory ss n s at none = tt
untold_among (Damaged d) ss n s at none = (n, listing s, numbered_map listing ss n s at, none)
