-- From what each worker found to what all of them did.
use Rattle.std.proofs.Common.{◌≡◌, ◌≤◌, ◌<◌, ◌+◌, ◌-◌, ◌++◌, ◌⊎◌, inl, inr, ℕ, zero, suc, List, [], ◌∷◌, map, take, drop, length, get_or, Option, None, Some, Result, Ok, Err, IsOk, OnOk, OnErr, All, Contains, refl, sym, ap, ◌∙◌, subst, arith, length-append, take-append-drop, append-nil, append_assoc, rules}
use Rattle.std.specs.Prelude.{IfErr, IfSome}
use Rattle.std.specs.List.{AllZip, flat_map}
use Rattle.std.proofs.lemmas.List.{length-map, take_more}
use Rattle.std.proofs.lemmas.List.Concat.{flat_map-append}
use Rattle.std.proofs.lemmas.List.Elements.{All-cons, All-nil, Contains-append_left, Contains-append_right}
use mathlib.Core.List.{map-append}
use Rattle.fd_segment.specs.declared.fault.Damage.{Damage}
use Rattle.fd_segment.specs.declared.fault.LensFault.{LensFault}
use Rattle.fd_segment.specs.declared.fault.LensFault.TheVariants.{Fault, Damaged, NoMemory}
use Rattle.fd_segment.specs.Causes.{OnDamaged}
use Rattle.fd_segment.specs.Held.{Files, Standing}
use Rattle.fd_dataset.specs.Listed.{listing}
use Rattle.fd_retriever.specs.Answers.{SomeUntold}
use Rattle.fd_finding.specs.declared.spot.Job.{Job}
use Rattle.fd_finding.specs.declared.spot.Sought.{Sought}
use Rattle.fd_retriever.specs.declared.spot.Spot.{Spot}
use Rattle.fd_finding.specs.Spots.{StandsForOne, StandsForSome}
use Rattle.fd_finding.specs.Searching.{IsFresh, IsSearched, IsSoFar, Ran, SoFar, all_keys, all_spots, key_of, spot_of}

-- a relation of lists, in step, of its parts
zip_append : {A B : Type 0} (R : A → B → Type 0) (xs : List A) (ys : List B) (us : List A) (vs : List B) → AllZip R xs ys → AllZip R us vs → AllZip R (xs ++ us) (ys ++ vs)
zip_append R [] [] us vs h k = k
zip_append R [] (y ∷ ys) us vs h k = absurd h
zip_append R (x ∷ xs) [] us vs h k = absurd h
zip_append R (x ∷ xs) (y ∷ ys) us vs h k = (h.0, zip_append R xs ys us vs h.1 k)

pub zip_as : {A B : Type 0} (R S : A → B → Type 0) (xs : List A) (ys : List B) → ((x : A) (y : B) → R x y → S x y) → AllZip R xs ys → AllZip S xs ys
zip_as R S [] [] f h = tt
zip_as R S [] (y ∷ ys) f h = absurd h
zip_as R S (x ∷ xs) [] f h = absurd h
zip_as R S (x ∷ xs) (y ∷ ys) f h = (f x y h.0, zip_as R S xs ys f h.1)

-- what holds of each second part
pub all_right : {A B : Type 0} (R : A → B → Type 0) (P : B → Type 0) (xs : List A) (ys : List B) → ((x : A) (y : B) → R x y → P y) → AllZip R xs ys → All P ys
all_right R P [] [] f h = All-nil P
all_right R P [] (y ∷ ys) f h = absurd h
all_right R P (x ∷ xs) [] f h = absurd h
all_right R P (x ∷ xs) (y ∷ ys) f h = All-cons P y ys (f x y h.0) (all_right R P xs ys f h.1)

searched_zip : (P : List ℕ → Option Spot → Type 0) (sought : List Sought) → All (λ (one : Sought). P one.key one.spot) sought → AllZip P (map key_of sought) (map spot_of sought)
searched_zip P [] all = tt
searched_zip P (x ∷ xs) all = (all 0 x (omega arith), searched_zip P xs (λ k d lt. all (suc k) d (omega arith)))

on_ok : {X E P : Type 0} (r : Result X E) → IsOk r → OnOk r P → P
on_ok (Ok x) ok h = h
on_ok (Err e) ok h = absurd (cc ok)

pub drop_all : {B : Type 0} (xs : List B) → drop (length xs) xs ≡ []
drop_all [] = refl
drop_all (x ∷ xs) = drop_all xs

-- a slice of a list that is written whole
pub written : {B : Type 0} (js ks : List B) (n : ℕ) → n ≡ length js → length ks ≡ length js → take n (ks ++ drop (length ks) js) ≡ ks
written {B = B} js ks n is long = ap (λ (m : ℕ). take n (ks ++ drop m js)) long ∙ (ap (λ (xs : List B). take n (ks ++ xs)) (drop_all js) ∙ (ap (take n) (append-nil ks) ∙ (ap (λ (m : ℕ). take m ks) (is ∙ sym long) ∙ take_all ks)))
  where
    take_all : (xs : List B) → take (length xs) xs ≡ xs
    take_all [] = refl
    take_all (x ∷ xs) = ap (λ ys. x ∷ ys) (take_all xs)

pub ok_of : {X E : Type 0} (r : Result X E) (x : X) → r ≡ Ok x → IsOk r
ok_of (Ok y) x is = search rules
ok_of (Err e) x is = absurd (cc is)

module _ {F : Type 0} where
  -- what all workers make of their jobs
  pub record AllRan (ss : List Standing) (js ks : List (Job F)) : Type 0 where
    pub long : length ks ≡ length js
    pub each : (i : ℕ) (d : Job F) → i < length js → Ran ss (get_or js i d) (get_or ks i d)

  others : (ss : List Standing) (j k : Job F) (js ks : List (Job F)) → AllRan ss (j ∷ js) (k ∷ ks) → AllRan ss js ks
  others ss j k js ks ran = record { long = let l = ran.long in omega arith; each = λ i d lt. ran.each (suc i) d (omega arith) }

  one_zip : (ss : List Standing) (j k : Job F) → Ran ss j k → IsOk k.end → AllZip (SoFar ss 0) (map key_of j.sought.items) (map spot_of k.sought.items)
  one_zip ss j k ran ok =
      let found : IsSearched ss (map key_of j.sought.items) k.sought.items = on_ok k.end ok ran.found in
      subst (λ (keys : List (List ℕ)). AllZip (SoFar ss 0) keys (map spot_of k.sought.items)) found.same (searched_zip (SoFar ss 0) k.sought.items found.each)

  -- the spots of all workers, where none was refused
  pub all_zip : (ss : List Standing) (js ks : List (Job F)) → AllRan ss js ks → All (λ (k : Job F). IsOk k.end) ks → AllZip (SoFar ss 0) (all_keys js) (all_spots ks)
  all_zip ss [] [] ran ok = tt
  all_zip ss [] (k ∷ ks) ran ok = absurd (let l = ran.long in omega arith)
  all_zip ss (j ∷ js) [] ran ok = absurd (let l = ran.long in omega arith)
  all_zip ss (j ∷ js) (k ∷ ks) ran ok =
      zip_append (SoFar ss 0) (map key_of j.sought.items) (map spot_of k.sought.items) (all_keys js) (all_spots ks) (one_zip ss j k (ran.each 0 j (omega arith)) (ok 0 k (omega arith)))
      (all_zip ss js ks (others ss j k js ks ran) (λ i d lt. ok (suc i) d (omega arith)))

  -- there are as many spots as keys
  pub spots_long : (ss : List Standing) (js ks : List (Job F)) → AllRan ss js ks → length (all_spots ks) ≡ length (all_keys js)
  spots_long ss [] [] ran = refl
  spots_long ss [] (k ∷ ks) ran = absurd (let l = ran.long in omega arith)
  spots_long ss (j ∷ js) [] ran = absurd (let l = ran.long in omega arith)
  spots_long ss (j ∷ js) (k ∷ ks) ran =
      let first = (ran.each 0 j (omega arith)).long in
      let rest = spots_long ss js ks (others ss j k js ks ran) in
      omega (arith, first, rest, length-append (map spot_of k.sought.items) (all_spots ks), length-append (map key_of j.sought.items) (all_keys js), length-map k.sought.items spot_of, length-map j.sought.items key_of)

  keys_in : (js : List (Job F)) (i : ℕ) (d : Job F) (key : List ℕ) → i < length js → Contains (map key_of (get_or js i d).sought.items) key → Contains (all_keys js) key
  keys_in [] i d key lt has = absurd (omega arith)
  keys_in (j ∷ js) zero d key lt has = Contains-append_left (map key_of j.sought.items) (all_keys js) key has
  keys_in (j ∷ js) (suc i) d key lt has = Contains-append_right (map key_of j.sought.items) (all_keys js) key (keys_in js i d key (omega arith) has)

  for_more : (ss : List Standing) (e : LensFault F) (some all : List (List ℕ)) → ((key : List ℕ) → Contains some key → Contains all key) → OnDamaged e (StandsForSome ss some) → OnDamaged e (StandsForSome ss all)
  for_more ss (Fault x) some all more damage = tt
  for_more ss NoMemory some all more damage = tt
  for_more ss (Damaged d) some all more damage = (damage.0, damage.1, damage.2, go damage.3)
    where
      go : StandsForOne damage.1.files some d → StandsForOne damage.1.files all d
      go (inl bad) = inl bad
      go (inr beyond) = inr (beyond.0, more beyond.0 beyond.1, beyond.2)

  ran_at : (ss : List Standing) (js ks : List (Job F)) (k : Job F) (has : Contains ks k) → AllRan ss js ks → Ran ss (get_or js has.0 k) k
  ran_at ss js ks k has ran = subst (λ (x : Job F). Ran ss (get_or js has.0 k) x) has.2 (ran.each has.0 k (let l = ran.long in let lt = has.1 in omega arith))

  -- what a refusal of a worker says
  pub damage_of_one : (ss : List Standing) (js ks : List (Job F)) (k : Job F) (e : LensFault F) → AllRan ss js ks → Contains ks k → k.end ≡ Err e → OnDamaged e (StandsForSome ss (all_keys js))
  damage_of_one ss js ks k e ran has is =
      let own = ran_at ss js ks k has ran in
      let damage : OnDamaged e (StandsForSome ss (map key_of (get_or js has.0 k).sought.items)) = subst (λ r. IfErr r (λ e. OnDamaged e (StandsForSome ss (map key_of (get_or js has.0 k).sought.items)))) is own.damaged in
      for_more ss e (map key_of (get_or js has.0 k).sought.items) (all_keys js) (λ key in'. keys_in js has.0 k key (let l = ran.long in let lt = has.1 in omega arith) in') damage

  pub untold_of_one : (ss : List Standing) (js ks : List (Job F)) (k : Job F) (e : LensFault F) → AllRan ss js ks → Contains ks k → k.end ≡ Err e → OnDamaged e (λ _. SomeUntold (map listing ss))
  untold_of_one ss js ks k e ran has is = subst (λ r. IfErr r (λ e. OnDamaged e (λ _. SomeUntold (map listing ss)))) is (ran_at ss js ks k has ran).sound

  -- one job more
  pub keys_more : (jobs : List (Job F)) (job : Job F) → all_keys (jobs ++ job ∷ []) ≡ all_keys jobs ++ map key_of job.sought.items
  keys_more jobs job = flat_map-append (λ (j : Job F). map key_of j.sought.items) jobs (job ∷ []) ∙ ap (λ (keys : List (List ℕ)). all_keys jobs ++ keys) (append-nil (map key_of job.sought.items))

  -- one piece more is dealt
  pub keys_dealt : {P : Type 0} (key : P → List ℕ) (jobs more : List (Job F)) (job : Job F) (rest piece left all : List P) → more ≡ jobs ++ job ∷ [] → map key_of job.sought.items ≡ map key piece → piece ++ left ≡ rest
      → all_keys jobs ++ map key rest ≡ map key all → all_keys more ++ map key left ≡ map key all
  keys_dealt key jobs more job rest piece left all is keys whole before =
      ap (λ (js : List (Job F)). all_keys js ++ map key left) is
      ∙ (ap (λ (ks : List (List ℕ)). ks ++ map key left) (keys_more jobs job ∙ ap (λ (ks : List (List ℕ)). all_keys jobs ++ ks) keys)
      ∙ (append_assoc (all_keys jobs) (map key piece) (map key left)
      ∙ (ap (λ (ks : List (List ℕ)). all_keys jobs ++ ks) (sym (map-append key piece left) ∙ ap (map key) whole) ∙ before)))

  pub spots_more : (jobs : List (Job F)) (i : ℕ) (job : Job F) → i < length jobs → get_or jobs i job ≡ job → all_spots (take (i + 1) jobs) ≡ all_spots (take i jobs) ++ map spot_of job.sought.items
  spots_more jobs i job lt is =
      ap (λ (js : List (Job F)). all_spots js) (take_more jobs i job lt ∙ ap (λ (j : Job F). take i jobs ++ j ∷ []) is)
      ∙ (flat_map-append (λ (j : Job F). map spot_of j.sought.items) (take i jobs) (job ∷ []) ∙ ap (λ (spots : List (Option Spot)). all_spots (take i jobs) ++ spots) (append-nil (map spot_of job.sought.items)))

  -- the first jobs have no more spots than all
  pub spots_fit : (jobs : List (Job F)) (i : ℕ) → length (all_spots (take i jobs)) ≤ length (all_spots jobs)
  spots_fit jobs i =
      let whole : all_spots (take i jobs) ++ all_spots (drop i jobs) ≡ all_spots jobs = sym (flat_map-append (λ (j : Job F). map spot_of j.sought.items) (take i jobs) (drop i jobs)) ∙ ap (λ (js : List (Job F)). all_spots js) (take-append-drop i jobs) in
      omega (arith, ap length whole, length-append (all_spots (take i jobs)) (all_spots (drop i jobs)))

  -- there is room for the spots of one job more
  pub room_for : (jobs : List (Job F)) (i : ℕ) (job : Job F) (spots : List (Option Spot)) (sought : List Sought) (n m : ℕ) → i < length jobs → get_or jobs i job ≡ job → sought ≡ job.sought.items → spots ≡ all_spots (take i jobs)
      → length (all_spots jobs) ≤ n → m ≡ n → length spots + length sought ≤ m
  room_for jobs i job spots sought n m lt at own is fit room =
      omega (arith, ap length is, ap length own, ap length (spots_more jobs i job lt at), spots_fit jobs (i + 1), length-append (all_spots (take i jobs)) (map spot_of job.sought.items), length-map job.sought.items spot_of)

  ran_of : (ss : List Standing) (js xs ks : List (Job F)) → xs ≡ js → length ks ≡ length xs → ((i : ℕ) (d : Job F) → i < length xs → Ran ss (get_or xs i d) (get_or ks i d)) → AllRan ss js ks
  ran_of ss js xs ks same long each = subst (λ (ys : List (Job F)). AllRan ss ys ks) same (record { long = long; each = each })

  -- the keys' spots have room where there is room for all keys
  pub room_for_all : (ss : List Standing) (js xs ks ws : List (Job F)) (n m p : ℕ) (keys : List (List ℕ)) → xs ≡ js → n ≡ length js → length ks ≡ length xs → ((i : ℕ) (d : Job F) → i < length xs → Ran ss (get_or xs i d) (get_or ks i d))
      → all_keys js ≡ keys → ws ≡ take n (ks ++ drop (length ks) js) → length keys ≡ p → p ≤ m → length (all_spots ws) ≤ m
  room_for_all ss js xs ks ws n m p keys same is long each dealt now places room =
      let whole : ws ≡ ks = now ∙ written js ks n is (long ∙ ap length same) in
      omega (arith, ap (λ (js : List (Job F)). length (all_spots js)) whole, spots_long ss js ks (ran_of ss js xs ks same long each), ap length dealt, places, room)

  -- all keys have their spots where no worker was refused
  pub found_all : (ss : List Standing) (js xs ks ws : List (Job F)) (n : ℕ) (keys : List (List ℕ)) (spots : List (Option Spot)) → xs ≡ js → n ≡ length js → length ks ≡ length xs → ((i : ℕ) (d : Job F) → i < length xs → Ran ss (get_or xs i d) (get_or ks i d))
      → all_keys js ≡ keys → ws ≡ take n (ks ++ drop (length ks) js) → spots ≡ all_spots ws → All (λ (k : Job F). IsOk k.end) (take n (ks ++ drop (length ks) js)) → AllZip (SoFar ss 0) keys spots
  found_all ss js xs ks ws n keys spots same is long each dealt now pushed ok =
      let whole = written js ks n is (long ∙ ap length same) in
      let zip = all_zip ss js ks (ran_of ss js xs ks same long each) (subst (All (λ (k : Job F). IsOk k.end)) whole ok) in
      let here : spots ≡ all_spots ks = pushed ∙ ap (λ (js : List (Job F)). all_spots js) (now ∙ whole) in
      subst (λ (ys : List (List ℕ)). AllZip (SoFar ss 0) ys spots) dealt (subst (AllZip (SoFar ss 0) (all_keys js)) (sym here) zip)

  -- what the refusal of one of the workers says
  pub refused : (ss : List Standing) (js xs ks : List (Job F)) (n : ℕ) (keys : List (List ℕ)) (e : LensFault F) → xs ≡ js → n ≡ length js → length ks ≡ length xs → ((i : ℕ) (d : Job F) → i < length xs → Ran ss (get_or xs i d) (get_or ks i d))
      → all_keys js ≡ keys → ((k : Job F) × Contains (take n (ks ++ drop (length ks) js)) k × (k.end ≡ Err e)) → OnDamaged e (StandsForSome ss keys) × OnDamaged e (λ _. SomeUntold (map listing ss))
  refused ss js xs ks n keys e same is long each dealt one =
      let has = subst (λ (ys : List (Job F)). Contains ys one.0) (written js ks n is (long ∙ ap length same)) one.1 in
      let ran = ran_of ss js xs ks same long each in
      (subst (λ (ys : List (List ℕ)). OnDamaged e (StandsForSome ss ys)) dealt (damage_of_one ss js ks one.0 e ran has one.2), untold_of_one ss js ks one.0 e ran has one.2)
