-- The tests of a crash, place by place.
use Rattle.std.proofs.Common.{◌≡◌, ◌⊎◌, inl, inr, None, ◌&&◌, ◌||◌, ◌==◌, ◌+◌, ◌-◌, ◌<◌, ◌≤◌, if◌then◌else◌, ℕ, zero, suc, true, false, nat_le, nat_lt, List, [], ◌∷◌, length, drop, get_or, Some, slice_get, sym, ◌∙◌, ap, refl, arith}
use Rattle.std.proofs.lemmas.Bool.Decides.{nat_tests}
use Rattle.std.proofs.lemmas.List.{drop_all, drop_more}
use Rattle.fd_disk.specs.declared.file.File.{File}
use Rattle.fd_disk.specs.declared.file.Range.{Range}
use Rattle.fd_disk.specs.Images.{firm_file, is_in}
use Rattle.fd_machine.specs.declared.machine.NamedFile.{NamedFile}
use Rattle.fd_machine.specs.declared.machine.Step.TheVariants.{Crash}
use Rattle.fd_machine.specs.declared.machine.Writer.{Writer}
use Rattle.fd_machine.specs.World.{World}
use Rattle.fd_entries.specs.Batches.{same_bytes}
use Rattle.fd_machine.specs.Machine.{after, agrees_from, are_none, firmed, first_of_left, has_image, have_images, may_leave}
use Rattle.fd_machine.proofs.PutSteps.{something}
use Rattle.fd_machine.proofs.Reached.{done, up_and}
use Rattle.fd_entries.proofs.BatchSums.{drop_here}

-- the place is in the first of the ranges, or in one of the others
pub in_step : (k i : ℕ) (rs : List Range) (r : Range) → i < length rs → get_or rs i r ≡ r → is_in k (drop i rs) ≡ ((nat_le r.at k && nat_lt k (r.at + r.len)) || is_in k (drop (i + 1) rs))
in_step k i rs r lt is = ap (is_in k) (drop_more rs i r lt ∙ ap (λ (x : Range). x ∷ drop (i + 1) rs) is)

pub agree_step : (f : File) (firm c : List ℕ) (k : ℕ) → k < length firm → k < length c
    → agrees_from k f (drop k firm) (drop k c) ≡ ((is_in k f.loose || (get_or firm k 0 == get_or c k 0)) && agrees_from (k + 1) f (drop (k + 1) firm) (drop (k + 1) c))
agree_step f firm c k lf lc =
    ap (λ (l : List ℕ). agrees_from k f l (drop k c)) (drop_more firm k 0 lf)
    ∙ ap (agrees_from k f (get_or firm k 0 ∷ drop (k + 1) firm)) (drop_more c k 0 lc)

pub agree_short : (f : File) (firm c : List ℕ) (k : ℕ) → k < length firm → length c ≤ k → agrees_from k f (drop k firm) (drop k c) ≡ false
agree_short f firm c k lf lc =
    ap (λ (l : List ℕ). agrees_from k f l (drop k c)) (drop_more firm k 0 lf)
    ∙ ap (agrees_from k f (get_or firm k 0 ∷ drop (k + 1) firm)) (drop_all k c lc)

pub images_step : (fs : List NamedFile) (cs : List (List ℕ)) (i : ℕ) (f : NamedFile) (c : List ℕ) → slice_get fs i ≡ Some f → slice_get cs (i + 1) ≡ Some c
    → have_images (drop i fs) (drop (i + 1) cs) ≡ (has_image f.file c && have_images (drop (i + 1) fs) (drop (i + 1 + 1) cs))
images_step fs cs i f c at_f at_c =
    ap (λ (l : List NamedFile). have_images l (drop (i + 1) cs)) (drop_here fs i f at_f)
    ∙ ap (have_images (f ∷ drop (i + 1) fs)) (drop_here cs (i + 1) c at_c)

pub images_short : (fs : List NamedFile) (cs : List (List ℕ)) (i : ℕ) (f : NamedFile) → slice_get fs i ≡ Some f → length cs ≤ i + 1 → have_images (drop i fs) (drop (i + 1) cs) ≡ false
images_short fs cs i f at_f short =
    ap (λ (l : List NamedFile). have_images l (drop (i + 1) cs)) (drop_here fs i f at_f)
    ∙ ap (have_images (f ∷ drop (i + 1) fs)) (drop_all (i + 1) cs short)

le_tests : (n : ℕ) → (nat_le 0 n ≡ true) × (nat_le (suc n) 0 ≡ false)
le_tests n = (grind (arith, nat_tests), grind (arith, nat_tests))

pub images_end : (fs : List NamedFile) (cs : List (List ℕ)) (i : ℕ) → length fs ≤ i → have_images (drop i fs) (drop (i + 1) cs) ≡ nat_le (length cs) (i + 1)
images_end fs cs i end = ap (λ (l : List NamedFile). have_images l (drop (i + 1) cs)) (drop_all i fs end) ∙ go cs (i + 1)
  where
    go : (cs : List (List ℕ)) (n : ℕ) → have_images [] (drop n cs) ≡ nat_le (length cs) n
    go [] zero = refl
    go [] (suc n) = sym (le_tests (suc n)).0
    go (c ∷ cs) zero = sym (le_tests (length cs)).1
    go (c ∷ cs) (suc n) = go cs n ∙ up (length cs) n
      where
        up : (a b : ℕ) → nat_le a b ≡ nat_le (suc a) (suc b)
        up a b = grind (arith, nat_tests)

-- one file more is firm
pub firmed_step : (fs : List NamedFile) (cs : List (List ℕ)) (i : ℕ) (f : NamedFile) (c : List ℕ) → slice_get fs i ≡ Some f → slice_get cs (i + 1) ≡ Some c
    → firmed (drop i fs) (drop (i + 1) cs) ≡ record { name = f.name; file = firm_file c } ∷ firmed (drop (i + 1) fs) (drop (i + 1 + 1) cs)
firmed_step fs cs i f c at_f at_c =
    ap (λ (l : List NamedFile). firmed l (drop (i + 1) cs)) (drop_here fs i f at_f)
    ∙ ap (firmed (f ∷ drop (i + 1) fs)) (drop_here cs (i + 1) c at_c)

-- where nothing is loose, the test compares the bytes
pub settled_test : (f : File) (c : List ℕ) → length f.loose ≡ 0 → has_image f c ≡ same_bytes c f.firm
settled_test f c none = go f.loose none
  where
    go : (rs : List Range) → length rs ≡ 0 → (if are_none rs then same_bytes c f.firm else agrees_from 0 f f.firm c) ≡ same_bytes c f.firm
    go [] none = refl
    go (r ∷ rs) none = absurd (omega arith)

pub shorter : (n k : ℕ) → 0 < n → nat_le n (k + 1) ≡ nat_le (n - 1) k
shorter n k some = grind (arith, nat_tests, some)

-- there is something left for each file
pub left_for : (fs : List NamedFile) (cs : List (List ℕ)) (i : ℕ) → i < length fs → have_images (drop i fs) (drop (i + 1) cs) ≡ true → i + 1 < length cs
left_for fs cs i lt have = elim (split (length cs) (i + 1)) [
  | inl more ↦ more
  | inr short ↦ (
      let found = something fs i lt in
      let none = images_short fs cs i found.0 found.1 short in
      absurd (cc (have, none)))
]
  where
    split : (n k : ℕ) → (k < n) ⊎ (n ≤ k)
    split n k = grind (arith, nat_tests)

pub crash_done : (s : World) (left : List (List ℕ)) (x : List ℕ) (t : File) (fs : List NamedFile) (ws : List Writer) → s.down ≡ false → may_leave s left ≡ true → slice_get left 0 ≡ Some x → t ≡ firm_file x
    → fs ≡ firmed s.files (drop 1 left) → ws ≡ [] → record s { table = t; files = fs; writers = ws; owner = None; doubt = None; down = true } ≡ after s (Crash left)
crash_done s left x t fs ws up may first table files none =
    ap (λ (t : File). record s { table = t; files = fs; writers = ws; owner = None; doubt = None; down = true }) (table ∙ ap firm_file (first_is left first))
    ∙ ap (λ (fs : List NamedFile). record s { table = firm_file (first_of_left left); files = fs; writers = ws; owner = None; doubt = None; down = true }) files
    ∙ ap (λ (ws : List Writer). record s { table = firm_file (first_of_left left); files = firmed s.files (drop 1 left); writers = ws; owner = None; doubt = None; down = true }) none
    ∙ sym (done s (Crash left) (up_and s.down (may_leave s left) up may))
  where
    first_is : (left : List (List ℕ)) → slice_get left 0 ≡ Some x → x ≡ first_of_left left
    first_is [] at = absurd (cc at)
    first_is (c ∷ cs) at = let same : c ≡ x = cc at in sym same
