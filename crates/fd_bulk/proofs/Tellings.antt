-- What a store tells, from one call to the next.
use Rattle.std.proofs.Common.{◌≡◌, inl, inr, ℕ, Bool, false, ◌||◌, List, [], ◌∷◌, Option, Some, None, IfSome, if◌then◌else◌, refl, sym, ap, subst, ◌∙◌}
use Rattle.std.specs.Prelude.{is_some, unwrap_or}
use Rattle.std.specs.Str.{bytes_eq}
use Rattle.fd_disk.specs.Folders.{Contents, Holdings, WhereTold, folder_at, no_contents}
use Rattle.fd_library.specs.Open.{OpenDataset, among, names_of}
use Rattle.fd_library.specs.Stores.{held_in, held_of, held_with}
use Rattle.fd_bulk.specs.Crewing.{AreUntouched}
use Rattle.fd_bulk.proofs.Texts.{true_or_false}

pub through : {A B C : Type 0} (a : Option A) (b : Option B) (c : Option C) (P : A → B → Type 0) (Q : B → C → Type 0) (R : A → C → Type 0) → WhereTold a b P → WhereTold b c Q → ((x : A) (y : B) (z : C) → P x y → Q y z → R x z) → WhereTold a c R
through None None None P Q R p q f = tt
through None None (Some z) P Q R p q f = absurd q
through None (Some y) c P Q R p q f = absurd p
through (Some x) None c P Q R p q f = absurd p
through (Some x) (Some y) None P Q R p q f = absurd q
through (Some x) (Some y) (Some z) P Q R p q f = f x y z p q

pub as_told : {A B : Type 0} (a : Option A) (b : Option B) (P : A → B → Type 0) → WhereTold a b P → is_some b ≡ is_some a
as_told None None P p = refl
as_told None (Some y) P p = absurd p
as_told (Some x) None P p = absurd p
as_told (Some x) (Some y) P p = refl

pub both_told : {A B : Type 0} (a : Option A) (b : Option B) (P Q R : A → B → Type 0) → ((x : A) (y : B) → P x y → Q x y → R x y) → WhereTold a b P → WhereTold a b Q → WhereTold a b R
both_told None None P Q R f p q = tt
both_told None (Some y) P Q R f p q = absurd p
both_told (Some x) None P Q R f p q = absurd p
both_told (Some x) (Some y) P Q R f p q = f x y p q

-- what stands in the folder of a dataset that isn't open stood there at first
pub at_first : (start now : Option Holdings) (names : List (List ℕ)) (name : List ℕ) (P : Contents → Type 0) → AreUntouched start now names → among name names ≡ false → IfSome now (λ s. P (folder_at s name)) → IfSome start (λ s. P (folder_at s name))
at_first None now names name P u out p = tt
at_first (Some s) None names name P u out p = absurd u
at_first (Some s) (Some t) names name P u out p = subst (λ (o : Option Contents). P (unwrap_or o no_contents)) (u name out) p

-- a dataset that isn't open holds what the store holds
pub held_outside : {D : Type 0} (has : D → Option Contents) (hs : List (OpenDataset D)) (s : Holdings) (n : List ℕ) → among n (names_of hs) ≡ false → held_with has hs s n ≡ held_of s n
held_outside has [] s n out = refl
held_outside has (h ∷ hs) s n out = elim (true_or_false (bytes_eq n h.name)) as (λ _. held_with has (h ∷ hs) s n ≡ held_of s n) [
  | inl e ↦ absurd (cc (sym (ap (λ (b : Bool). b || among n (names_of hs)) e) ∙ out))
  | inr e ↦ ap (λ (b : Bool). if b then held_in has h else held_with has hs s n) e ∙ held_outside has hs s n (sym (ap (λ (b : Bool). b || among n (names_of hs)) e) ∙ out)
]
