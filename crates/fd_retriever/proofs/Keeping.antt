-- Which opened segments fit which listings.
use Rattle.std.proofs.Common.{◌≡◌, ◌-◌, ℕ, zero, suc, List, [], ◌∷◌, ◌++◌, map, Some, None, ◌⊎◌, inl, inr, Contains, slice_get, sym, ap, ◌∙◌, subst}
use Rattle.std.specs.Prelude.{option_map}
use Rattle.std.proofs.lemmas.Option.{slice_get-map, same_Some}
use Rattle.std.proofs.lemmas.Simd.{map-map}
use Rattle.lru.proofs.Splits.{Contains-nil}
use Rattle.fd_entries.specs.declared.batch.Listing.{Listing}
use Rattle.fd_segment.specs.Held.{Files, Standing, batch_of}
use Rattle.fd_dataset.specs.Listed.{listing, listing_in}
use Rattle.fd_retriever.specs.declared.fault.FetchFault.{FetchFault}
use Rattle.fd_retriever.specs.declared.fault.FetchFault.TheVariants.{Disk, Write, Damaged, NoMemory}
use Rattle.fd_retriever.specs.Answers.{OnDamaged, SomeUntold, StandsAmong, StandsIn}
use Rattle.fd_retriever.specs.Kept.{AreThose, Fits, FitsLater, IsNumbered, Kept, NothingFits, ThoseFit, files_of}

pub numbered_map : {A B : Type 0} (f : A → B) (xs : List A) (n : ℕ) (x : A) → IsNumbered xs n x → IsNumbered (map f xs) n (f x)
numbered_map f xs n x h = (h.0, slice_get-map f xs (n - 1) ∙ ap (option_map f) h.1)

pub numbered_same : {A : Type 0} (xs : List A) (n : ℕ) (x y : A) → IsNumbered xs n x → IsNumbered xs n y → x ≡ y
numbered_same xs n x y h k = same_Some x y (sym h.1 ∙ k.1)

pub nothing_fits : NothingFits
nothing_fits ls = λ k has. absurd (Contains-nil k has)

pub those_fit : ThoseFit
those_fit kept ss those = λ k has.
    subst (λ (ls : List Listing). IsNumbered ls k.number (listing_in k.files)) (map-map listing_in (λ (s : Standing). s.files) ss)
    (numbered_map listing_in (files_of ss) k.number k.files (those k has))

later_get : {A : Type 0} (xs ys : List A) (i : ℕ) (x : A) → slice_get xs i ≡ Some x → slice_get (xs ++ ys) i ≡ Some x
later_get [] ys i x h = absurd (cc h)
later_get (y ∷ xs) ys zero x h = h
later_get (y ∷ xs) ys (suc i) x h = later_get xs ys i x h

pub fits_later : FitsLater
fits_later kept before after later fits = λ k has.
    let at = fits k has in
    (at.0, subst (λ (ls : List Listing). slice_get ls (k.number - 1) ≡ Some (listing_in k.files)) later.1 (later_get before later.0 (k.number - 1) (listing_in k.files) at.1))

-- what fits at a number where what is kept fits
pub fits_at : (kept : List Kept) (ss : List Standing) (n : ℕ) (s : Standing) → Fits kept (map listing ss) → IsNumbered ss n s → (f : Files) → Contains kept (record { number = n; files = f }) → listing_in f ≡ listing_in s.files
fits_at kept ss n s fits at f has = numbered_same (map listing ss) n (listing_in f) (listing s) (fits (record { number = n; files = f }) has) (numbered_map listing ss n s at)

pub those_at : (kept : List Kept) (ss : List Standing) (n : ℕ) (s : Standing) → AreThose kept ss → IsNumbered ss n s → (f : Files) → Contains kept (record { number = n; files = f }) → f ≡ s.files
those_at kept ss n s those at f has = numbered_same (files_of ss) n f s.files (those (record { number = n; files = f }) has) (numbered_map (λ (t : Standing). t.files) ss n s at)

-- the same after a segment was kept under its number
pub still_fits : (kept after : List Kept) (ss : List Standing) (n : ℕ) (s : Standing) → Fits kept (map listing ss) → IsNumbered ss n s → ((k : Kept) → Contains after k → Contains kept k ⊎ (k ≡ record { number = n; files = s.files })) → Fits after (map listing ss)
still_fits kept after ss n s fits at cases = λ k has. go k (cases k has)
  where
    go : (k : Kept) → Contains kept k ⊎ (k ≡ record { number = n; files = s.files }) → IsNumbered (map listing ss) k.number (listing_in k.files)
    go k (inl was) = fits k was
    go k (inr is) = subst (λ (x : Kept). IsNumbered (map listing ss) x.number (listing_in x.files)) (sym is) (numbered_map listing ss n s at)

pub still_those : (kept after : List Kept) (ss : List Standing) (n : ℕ) (s : Standing) → AreThose kept ss → IsNumbered ss n s → ((k : Kept) → Contains after k → Contains kept k ⊎ (k ≡ record { number = n; files = s.files })) → AreThose after ss
still_those kept after ss n s those at cases = λ k has. go k (cases k has)
  where
    go : (k : Kept) → Contains kept k ⊎ (k ≡ record { number = n; files = s.files }) → IsNumbered (files_of ss) k.number k.files
    go k (inl was) = those k was
    go k (inr is) = subst (λ (x : Kept). IsNumbered (files_of ss) x.number x.files) (sym is) (numbered_map (λ (t : Standing). t.files) ss n s at)

pub less_those : (kept after : List Kept) (ss : List Standing) → AreThose kept ss → ((k : Kept) → Contains after k → Contains kept k) → AreThose after ss
less_those kept after ss those less = λ k has. those k (less k has)

-- A segment was taken out or opened, used, and kept under its number: each that is kept then was kept before, or is this one.
pub kept_again : (before left after : List Kept) (n : ℕ) (used lens own : Files) → used ≡ lens → Contains before (record { number = n; files = lens }) ⊎ (lens ≡ own) → ((k : Kept) → Contains left k → Contains before k)
    → ((k : Kept) → Contains after k → Contains left k ⊎ (k ≡ record { number = n; files = used })) → (k : Kept) → Contains after k → Contains before k ⊎ (k ≡ record { number = n; files = own })
kept_again before left after n used lens own same from less cases k has = go (cases k has) from
  where
    go : Contains left k ⊎ (k ≡ record { number = n; files = used }) → Contains before (record { number = n; files = lens }) ⊎ (lens ≡ own) → Contains before k ⊎ (k ≡ record { number = n; files = own })
    go (inl was) from = inl (less k was)
    go (inr is) (inl there) = inl (subst (Contains before) (sym (is ∙ ap (λ (f : Files). record { number = n; files = f }) same)) there)
    go (inr is) (inr opened) = inr (is ∙ ap (λ (f : Files). record { number = n; files = f }) (same ∙ opened))

-- what is kept after two steps was kept before both, or came in the second
pub kept_more : (before left after : List Kept) (n : ℕ) (own : Files) → ((k : Kept) → Contains left k → Contains before k) → ((k : Kept) → Contains after k → Contains left k ⊎ (k ≡ record { number = n; files = own }))
    → (k : Kept) → Contains after k → Contains before k ⊎ (k ≡ record { number = n; files = own })
kept_more before left after n own less cases k has = go (cases k has)
  where
    go : Contains left k ⊎ (k ≡ record { number = n; files = own }) → Contains before k ⊎ (k ≡ record { number = n; files = own })
    go (inl was) = inl (less k was)
    go (inr is) = inr is

-- damage of the segment of a number is damage among all
pub damaged_among : {F X : Type 0} (e : FetchFault F X) (ss : List Standing) (n : ℕ) (s : Standing) (key same : List ℕ) → key ≡ same → IsNumbered ss n s → OnDamaged e (StandsIn s.files key) → OnDamaged e (StandsAmong ss same)
damaged_among (Disk f) ss n s key same is at damage = tt
damaged_among (Write x) ss n s key same is at damage = tt
damaged_among NoMemory ss n s key same is at damage = tt
damaged_among (Damaged d) ss n s key same is at damage = (n, s, at, subst (λ (k : List ℕ). StandsIn s.files k d) is damage)

pub untold_among : {F X : Type 0} (e : FetchFault F X) (ss : List Standing) (n : ℕ) (s : Standing) → IsNumbered ss n s → OnDamaged e (λ _. batch_of s.files ≡ None) → OnDamaged e (λ _. SomeUntold (map listing ss))
untold_among (Disk f) ss n s at none = tt
untold_among (Write x) ss n s at none = tt
untold_among NoMemory ss n s at none = tt
untold_among (Damaged d) ss n s at none = (n, listing s, numbered_map listing ss n s at, none)
