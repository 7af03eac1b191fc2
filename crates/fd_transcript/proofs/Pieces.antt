-- Texts that are made piece by piece, and written so.
use Rattle.std.proofs.Common.{◌≡◌, ◌≢◌, ◌∙◌, ◌≤◌, ◌<◌, ◌+◌, ℕ, zero, suc, List, [], ◌∷◌, ◌++◌, length, slice_get, take, drop, Option, Some, Result, Ok, Err, OnOk, OnErr, refl, sym, ap, subst, arith, append_assoc, append-nil}
use Rattle.std.specs.Prelude.{flat_map, zip, min, slice_index_or}
use Rattle.std.proofs.lemmas.List.{take_all}
use Rattle.std.proofs.lemmas.Option.{slice_get_read}
use Rattle.fd_bytes.specs.Causes.{Rose}
use Rattle.fd_io.specs.Streams.{Takes, TakesFront}
use Rattle.fd_listing.specs.Lines.{line}
use Rattle.fd_listing.specs.declared.fault.TextFault.{TextFault}
use Rattle.fd_listing.specs.declared.fault.TextFault.TheVariants.{Write, NoMemory}
use Rattle.fd_listing.specs.Sinks.{HasSinkCause, OnStarved, TakesAllBut}
use Rattle.fd_listing.proofs.Taking.{takes_more, takes_nothing}
use Rattle.fd_transcript.specs.Starving.{TakesShort}

-- ---- lists

next_one : {A : Type 0} (xs : List A) (i : ℕ) (x : A) → slice_get xs i ≡ Some x → take (suc i) xs ≡ take i xs ++ x ∷ []
next_one [] i x at = absurd (cc at)
next_one (y ∷ xs) zero x at = let e : y ≡ x = cc at in ap (λ z. z ∷ []) e
next_one (y ∷ xs) (suc i) x at = ap (λ zs. y ∷ zs) (next_one xs i x at)

pub take_next : {A : Type 0} (xs : List A) (i : ℕ) (x : A) → slice_get xs i ≡ Some x → take (i + 1) xs ≡ take i xs ++ x ∷ []
take_next xs i x at = let up : i + 1 ≡ suc i = omega arith in ap (λ (k : ℕ). take k xs) up ∙ next_one xs i x at

pub take_rest : {A : Type 0} (xs : List A) (i : ℕ) (x : A) → slice_get xs i ≡ Some x → xs ≡ take i xs ++ x ∷ drop (suc i) xs
take_rest [] i x at = absurd (cc at)
take_rest (y ∷ xs) zero x at = let e : y ≡ x = cc at in ap (λ z. z ∷ xs) e
take_rest (y ∷ xs) (suc i) x at = ap (λ zs. y ∷ zs) (take_rest xs i x at)

pub item_at : {A : Type 0} (xs : List A) (i : ℕ) (x : A) → i < length xs → x ≡ slice_index_or xs i x → slice_get xs i ≡ Some x
item_at xs i x lt is = slice_get_read xs (length xs) i x refl lt is

pub flat_both : {A : Type 0} (f : A → List ℕ) (xs ys : List A) → flat_map f (xs ++ ys) ≡ flat_map f xs ++ flat_map f ys
flat_both f [] ys = refl
flat_both f (x ∷ xs) ys = ap (λ (t : List ℕ). f x ++ t) (flat_both f xs ys) ∙ sym (append_assoc (f x) (flat_map f xs) (flat_map f ys))

pub flat_twice : {A B : Type 0} (f : B → List ℕ) (g : A → List B) (xs : List A) → flat_map f (flat_map g xs) ≡ flat_map (λ x. flat_map f (g x)) xs
flat_twice f g [] = refl
flat_twice f g (x ∷ xs) = flat_both f (g x) (flat_map g xs) ∙ ap (λ (t : List ℕ). flat_map f (g x) ++ t) (flat_twice f g xs)

pub zip_at : {A B : Type 0} (xs : List A) (ys : List B) (i : ℕ) (x : A) (y : B) → slice_get xs i ≡ Some x → slice_get ys i ≡ Some y → slice_get (zip xs ys) i ≡ Some (x, y)
zip_at [] ys i x y at also = absurd (cc at)
zip_at (a ∷ xs) [] i x y at also = absurd (cc also)
zip_at (a ∷ xs) (b ∷ ys) zero x y at also =
    let d : a ≡ x = cc at in
    let e : b ≡ y = cc also in
    cc
zip_at (a ∷ xs) (b ∷ ys) (suc i) x y at also = zip_at xs ys i x y at also

pub zip_short : {A B : Type 0} (xs : List A) (ys : List B) (n : ℕ) → min (length xs) (length ys) ≤ n → length (zip xs ys) ≤ n
zip_short [] ys n le = omega arith
zip_short (x ∷ xs) [] n le = omega arith
zip_short (x ∷ xs) (y ∷ ys) zero le = absurd (omega (arith, le))
zip_short (x ∷ xs) (y ∷ ys) (suc n) le = let more = zip_short xs ys n (omega (arith, le)) in omega (arith, more)

-- where a part isn't empty, the whole isn't
pub some_front : (xs ys : List ℕ) → xs ≢ [] → xs ++ ys ≢ []
some_front [] ys some is = some refl
some_front (x ∷ xs) ys some is = absurd cc

pub some_back : (xs ys : List ℕ) → ys ≢ [] → xs ++ ys ≢ []
some_back [] ys some is = some is
some_back (x ∷ xs) ys some is = absurd cc

pub some_line : (text : List ℕ) → line text ≢ []
some_line text = some_back text (10 ∷ []) (λ is. absurd cc)

-- ---- pieces

module _ {A : Type 0} (f : A → List ℕ) (xs : List A) (i : ℕ) where
  pub piece_next : (x : A) → slice_get xs i ≡ Some x → flat_map f (take (i + 1) xs) ≡ flat_map f (take i xs) ++ f x
  piece_next x at = ap (flat_map f) (take_next xs i x at) ∙ flat_both f (take i xs) (x ∷ []) ∙ ap (λ (t : List ℕ). flat_map f (take i xs) ++ t) (append-nil (f x))

  pub piece_rest : (x : A) → slice_get xs i ≡ Some x → flat_map f xs ≡ flat_map f (take i xs) ++ (f x ++ flat_map f (drop (suc i) xs))
  piece_rest x at = ap (flat_map f) (take_rest xs i x at) ∙ flat_both f (take i xs) (x ∷ drop (suc i) xs)

  pub piece_all : length xs ≤ i → flat_map f (take i xs) ≡ flat_map f xs
  piece_all le = ap (flat_map f) (take_all i xs le)

  -- ---- a sink that takes piece by piece

  module _ (a b c : Option (List ℕ)) where
    pub took_next : (x : A) → slice_get xs i ≡ Some x → Takes a b (flat_map f (take i xs)) → Takes b c (f x) → Takes a c (flat_map f (take (i + 1) xs))
    took_next x at before now = subst (Takes a c) (sym (piece_next x at)) (takes_more a b c (flat_map f (take i xs)) (f x) before now)

    pub took_front : (x : A) → slice_get xs i ≡ Some x → Takes a b (flat_map f (take i xs)) → TakesFront b c (f x) → TakesFront a c (flat_map f xs)
    took_front x at before front = (
      flat_map f (take i xs) ++ front.0,
      front.1 ++ flat_map f (drop (suc i) xs),
      piece_rest x at
          ∙ ap (λ (t : List ℕ). flat_map f (take i xs) ++ t) (ap (λ (t : List ℕ). t ++ flat_map f (drop (suc i) xs)) front.2 ∙ append_assoc front.0 front.1 (flat_map f (drop (suc i) xs)))
          ∙ sym (append_assoc (flat_map f (take i xs)) front.0 (front.1 ++ flat_map f (drop (suc i) xs))),
      takes_more a b c (flat_map f (take i xs)) front.0 before front.3,
    )

  pub took_all : (a b : Option (List ℕ)) → length xs ≤ i → Takes a b (flat_map f (take i xs)) → Takes a b (flat_map f xs)
  took_all a b le = subst (Takes a b) (piece_all le)

-- ---- lines that are held

pub held_more : (a b c : Option (List ℕ)) (t l q m : List ℕ) → TakesAllBut a b t l → TakesAllBut b c (l ++ q) m → TakesAllBut a c (t ++ q) m
held_more a b c t l q m first second = record {
  front = first.front ++ second.front;
  split = ap (λ (z : List ℕ). z ++ q) first.split ∙ append_assoc first.front l q ∙ ap (λ (z : List ℕ). first.front ++ z) second.split ∙ sym (append_assoc first.front second.front m);
  took = takes_more a b c first.front second.front first.took second.took;
}

pub held_broken : (a b c : Option (List ℕ)) (t l q r whole : List ℕ) → whole ≡ t ++ (q ++ r) → TakesAllBut a b t l → TakesFront b c (l ++ q) → TakesFront a c whole
held_broken a b c t l q r whole is first front = (
  first.front ++ front.0,
  front.1 ++ r,
  is ∙ sym (append_assoc t q r)
      ∙ ap (λ (z : List ℕ). z ++ r) (ap (λ (z : List ℕ). z ++ q) first.split ∙ append_assoc first.front l q ∙ ap (λ (z : List ℕ). first.front ++ z) front.2 ∙ sym (append_assoc first.front front.0 front.1))
      ∙ append_assoc (first.front ++ front.0) front.1 r,
  takes_more a b c first.front front.0 first.took front.3,
)

pub held_stopped : (a b : Option (List ℕ)) (t l r whole : List ℕ) → whole ≡ t ++ r → TakesAllBut a b t l → TakesFront a b whole
held_stopped a b t l r whole is first = (first.front, l ++ r, is ∙ ap (λ (z : List ℕ). z ++ r) first.split ∙ append_assoc first.front l r, first.took)

-- memory ran out in what follows the lines that were held, and not all of it was taken
pub held_short : (a b c : Option (List ℕ)) (t l q r whole : List ℕ) → whole ≡ t ++ (q ++ r) → TakesAllBut a b t l → TakesShort b c (l ++ q) → TakesShort a c whole
held_short a b c t l q r whole is first short = record {
  front = first.front ++ short.front;
  rest = short.rest ++ r;
  split = is ∙ sym (append_assoc t q r)
      ∙ ap (λ (z : List ℕ). z ++ r) (ap (λ (z : List ℕ). z ++ q) first.split ∙ append_assoc first.front l q ∙ ap (λ (z : List ℕ). first.front ++ z) short.split ∙ sym (append_assoc first.front short.front short.rest))
      ∙ append_assoc (first.front ++ short.front) short.rest r;
  more = some_front short.rest r short.more;
  took = takes_more a b c first.front short.front first.took short.took;
}

-- memory ran out before a piece that isn't empty was among the lines that are held
pub held_before : (a b : Option (List ℕ)) (t l r whole : List ℕ) → whole ≡ t ++ r → r ≢ [] → TakesAllBut a b t l → TakesShort a b whole
held_before a b t l r whole is some first = record {
  front = first.front;
  rest = l ++ r;
  split = is ∙ ap (λ (z : List ℕ). z ++ r) first.split ∙ append_assoc first.front l r;
  more = some_back l r some;
  took = first.took;
}

-- nothing was taken of a text that isn't empty
pub none_taken : (a : Option (List ℕ)) (text : List ℕ) → text ≢ [] → TakesShort a a text
none_taken a text some = record { front = []; rest = text; split = refl; more = some; took = takes_nothing a }

-- what follows where memory ran out
pub starved_so : {A X : Type 0} (r : Result A (TextFault X)) (P Q : Type 0) → (P → Q) → OnStarved r P → OnStarved r Q
starved_so (Ok done) P Q to p = tt
starved_so (Err (Write x)) P Q to p = tt
starved_so (Err NoMemory) P Q to p = to p

pub fault_so : {X : Type 0} (fault : TextFault X) (P Q : Type 0) → (P → Q) → OnStarved {A = Unit {0}} (Err fault) P → OnStarved {A = Unit {0}} (Err fault) Q
fault_so (Write x) P Q to p = tt
fault_so NoMemory P Q to p = to p

-- memory didn't run out
pub not_starved : {A X : Type 0} (r : Result A (TextFault X)) (Q : Type 0) → OnStarved r ⊥ → OnStarved r Q
not_starved r Q none = starved_so r ⊥ Q (λ (x : ⊥). absurd x) none

pub fault_not_starved : {X : Type 0} (fault : TextFault X) (Q : Type 0) → OnStarved {A = Unit {0}} (Err fault) ⊥ → OnStarved {A = Unit {0}} (Err fault) Q
fault_not_starved fault Q none = fault_so fault ⊥ Q (λ (x : ⊥). absurd x) none

pub front_longer : (a b : Option (List ℕ)) (t r whole : List ℕ) → whole ≡ t ++ r → TakesFront a b t → TakesFront a b whole
front_longer a b t r whole is front = (front.0, front.1 ++ r, is ∙ ap (λ (z : List ℕ). z ++ r) front.2 ∙ append_assoc front.0 front.1 r, front.3)

module _ {A : Type 0} (f : A → List ℕ) (xs : List A) (i : ℕ) (x : A) (at : slice_get xs i ≡ Some x) (a b c : Option (List ℕ)) (first held : List ℕ) (so_far : TakesAllBut a b (first ++ flat_map f (take i xs)) held) where
  -- one piece more was appended to the lines that were held, of which some were written
  pub held_next : (m : List ℕ) → TakesAllBut b c (held ++ f x) m → TakesAllBut a c (first ++ flat_map f (take (i + 1) xs)) m
  held_next m now = subst (λ (t : List ℕ). TakesAllBut a c t m) (append_assoc first (flat_map f (take i xs)) (f x) ∙ ap (λ (t : List ℕ). first ++ t) (sym (piece_next f xs i x at)))
      (held_more a b c (first ++ flat_map f (take i xs)) held (f x) m so_far now)

  whole_is : first ++ flat_map f xs ≡ (first ++ flat_map f (take i xs)) ++ (f x ++ flat_map f (drop (suc i) xs))
  whole_is = ap (λ (t : List ℕ). first ++ t) (piece_rest f xs i x at) ∙ sym (append_assoc first (flat_map f (take i xs)) (f x ++ flat_map f (drop (suc i) xs)))

  pub held_fails : TakesFront b c (held ++ f x) → TakesFront a c (first ++ flat_map f xs)
  held_fails front = held_broken a b c (first ++ flat_map f (take i xs)) held (f x) (flat_map f (drop (suc i) xs)) (first ++ flat_map f xs) whole_is so_far front

  pub held_fails_short : TakesShort b c (held ++ f x) → TakesShort a c (first ++ flat_map f xs)
  held_fails_short short = held_short a b c (first ++ flat_map f (take i xs)) held (f x) (flat_map f (drop (suc i) xs)) (first ++ flat_map f xs) whole_is so_far short

  pub held_starved_short : f x ≢ [] → TakesShort a b (first ++ flat_map f xs)
  held_starved_short some = held_before a b (first ++ flat_map f (take i xs)) held (f x ++ flat_map f (drop (suc i) xs)) (first ++ flat_map f xs) whole_is (some_front (f x) (flat_map f (drop (suc i) xs)) some) so_far

  pub held_starved : TakesFront a b (first ++ flat_map f xs)
  held_starved = held_stopped a b (first ++ flat_map f (take i xs)) held (f x ++ flat_map f (drop (suc i) xs)) (first ++ flat_map f xs) whole_is so_far

pub held_begins : (a : Option (List ℕ)) (first : List ℕ) → TakesAllBut a a (first ++ []) first
held_begins a first = record { front = []; split = append-nil first; took = takes_nothing a }

pub held_all : {A : Type 0} (f : A → List ℕ) (xs : List A) (i : ℕ) (a b : Option (List ℕ)) (first m : List ℕ) → length xs ≤ i → TakesAllBut a b (first ++ flat_map f (take i xs)) m → TakesAllBut a b (first ++ flat_map f xs) m
held_all f xs i a b first m le = subst (λ (t : List ℕ). TakesAllBut a b (first ++ t) m) (piece_all f xs i le)

-- ---- causes

-- where the count of faults was as before until now, the cause is one from the beginning on
pub calm_before : {X : Type 0} (m n k : ℕ) (fault : TextFault X) → n ≡ m → HasSinkCause {A = Unit {0}} (Err fault) n k → HasSinkCause {A = Unit {0}} (Err fault) m k
calm_before m n k (Write x) calm cause = subst (λ (j : ℕ). Rose j k) calm cause
calm_before m n k NoMemory calm cause = cause ∙ calm

-- ---- two pieces

module _ {X : Type 0} (a b c : Option (List ℕ)) (first one more : List ℕ) where
  pub two_pieces : (lines held m : List ℕ) {its : List ℕ} (r : Result (Unit {0}) (TextFault X)) → lines ≡ first ++ one → TakesAllBut a b lines held → its ≡ more → OnOk r (TakesAllBut b c (held ++ its) m) → OnOk r (TakesAllBut a c (first ++ (one ++ more)) m)
  two_pieces lines held m (Ok done) is before same now =
      subst (λ (t : List ℕ). TakesAllBut a c t m) (append_assoc first one more)
      (held_more a b c (first ++ one) held more m (subst (λ (t : List ℕ). TakesAllBut a b t held) is before) (subst (λ (t : List ℕ). TakesAllBut b c (held ++ t) m) same now))
  two_pieces lines held m (Err e) is before same now = tt

  pub two_broken : (lines held : List ℕ) {its : List ℕ} (r : Result (Unit {0}) (TextFault X)) → lines ≡ first ++ one → TakesAllBut a b lines held → its ≡ more → OnErr r (TakesFront b c (held ++ its)) → OnErr r (TakesFront a c (first ++ (one ++ more)))
  two_broken lines held (Ok done) is before same now = tt
  two_broken lines held (Err e) is before same now =
      held_broken a b c (first ++ one) held more [] (first ++ (one ++ more)) (sym (append_assoc first one more) ∙ ap (λ (t : List ℕ). (first ++ one) ++ t) (sym (append-nil more)))
      (subst (λ (t : List ℕ). TakesAllBut a b t held) is before) (subst (λ (t : List ℕ). TakesFront b c (held ++ t)) same now)

  pub two_short : (lines held : List ℕ) {its : List ℕ} (r : Result (Unit {0}) (TextFault X)) → lines ≡ first ++ one → TakesAllBut a b lines held → its ≡ more → OnStarved r (TakesShort b c (held ++ its)) → OnStarved r (TakesShort a c (first ++ (one ++ more)))
  two_short lines held {its = its} r is before same now =
      starved_so r (TakesShort b c (held ++ its)) (TakesShort a c (first ++ (one ++ more)))
      (λ short. held_short a b c (first ++ one) held more [] (first ++ (one ++ more)) (sym (append_assoc first one more) ∙ ap (λ (t : List ℕ). (first ++ one) ++ t) (sym (append-nil more)))
      (subst (λ (t : List ℕ). TakesAllBut a b t held) is before) (subst (λ (t : List ℕ). TakesShort b c (held ++ t)) same short)) now

-- the lines that were held last were written, or a front of them
pub last_broken : {X : Type 0} (a b c : Option (List ℕ)) (t l its : List ℕ) (r : Result (Unit {0}) (TextFault X)) → TakesAllBut a b t l → its ≡ l → OnErr r (TakesFront b c its) → OnErr r (TakesFront a c t)
last_broken a b c t l its (Ok done) first is front = tt
last_broken a b c t l its (Err e) first is front =
    held_broken a b c t l [] [] t (sym (append-nil t)) first (subst (λ (u : List ℕ). TakesFront b c u) (is ∙ sym (append-nil l)) front)
