-- The test whether a crash may leave these bytes.
use Rattle.std.proofs.Common.{◌≡◌, ◌==◌, ◌&&◌, ◌||◌, if◌then◌else◌, ℕ, zero, suc, ◌+◌, ◌<◌, ◌≤◌, Bool, true, false, List, [], ◌∷◌, length, get_or, refl, sym, ap, subst, arith}
use Rattle.std.proofs.lemmas.Bool.Decides.{nat_tests}
use Rattle.fd_disk.specs.declared.file.File.{File}
use Rattle.fd_disk.specs.declared.file.Range.{Range}
use Rattle.fd_disk.specs.declared.folders.FileName.{FileName}
use Rattle.fd_disk.specs.Names.{same_name}
use Rattle.fd_disk.specs.Images.{is_in, IsImage, firm_file}
use Rattle.fd_machine.specs.declared.machine.NamedFile.{NamedFile}
use Rattle.fd_entries.specs.Batches.{same_bytes}
use Rattle.fd_machine.specs.Machine.{file_of, are_none, agrees_from, has_image, have_images, may_leave, firmed}
use Rattle.fd_machine.specs.World.{World}
use Rattle.fd_machine.specs.Laws.{AreImages, MayBeLeft}
use Rattle.fd_entries.proofs.BatchSums.{both, bytes_same}

agrees_long : (k : ℕ) (f : File) (firm c : List ℕ) → agrees_from k f firm c ≡ true → length firm ≤ length c
agrees_long k f [] c is = omega arith
agrees_long k f (x ∷ firm) [] is = absurd (cc is)
agrees_long k f (x ∷ firm) (y ∷ c) is =
    let t = both (is_in k f.loose || (x == y)) (agrees_from (k + 1) f firm c) is in
    let ih = agrees_long (k + 1) f firm c t.1 in omega (arith, ih)

agrees_at : (k : ℕ) (f : File) (firm c : List ℕ) (i : ℕ) → agrees_from k f firm c ≡ true → i < length firm → is_in (k + i) f.loose ≡ false → get_or c i 0 ≡ get_or firm i 0
agrees_at k f [] c i is lt out = absurd (omega arith)
agrees_at k f (x ∷ firm) [] i is lt out = absurd (cc is)
agrees_at k f (x ∷ firm) (y ∷ c) zero is lt out =
    let t = both (is_in k f.loose || (x == y)) (agrees_from (k + 1) f firm c) is in
    let here : k + 0 ≡ k = omega arith in
    let outside : is_in k f.loose ≡ false = subst (λ (n : ℕ). is_in n f.loose ≡ false) here out in
    same (is_in k f.loose) outside t.0
  where
    same : (b : Bool) → b ≡ false → (b || (x == y)) ≡ true → y ≡ x
    same b no_range is = grind (arith, nat_tests, no_range, is)
agrees_at k f (x ∷ firm) (y ∷ c) (suc i) is lt out =
    let t = both (is_in k f.loose || (x == y)) (agrees_from (k + 1) f firm c) is in
    let next : k + suc i ≡ (k + 1) + i = omega arith in
    agrees_at (k + 1) f firm c i t.1 (omega arith) (subst (λ (n : ℕ). is_in n f.loose ≡ false) next out)

-- the test says what the disk's model says
pub image_is : (f : File) (c : List ℕ) → has_image f c ≡ true → IsImage f c
image_is f c is = go f.loose refl is
  where
    go : (rs : List Range) → f.loose ≡ rs → (if are_none rs then same_bytes c f.firm else agrees_from 0 f f.firm c) ≡ true → IsImage f c
    go [] e t =
        let same : c ≡ f.firm = bytes_same c f.firm t in
        record { settled = λ e. same; no_shorter = omega (arith, ap length same); agrees = λ k lt out. ap (λ (l : List ℕ). get_or l k 0) same }
    go (r ∷ rs) e t = record {
      settled = λ none. absurd (cc (e, none));
      no_shorter = agrees_long 0 f f.firm c t;
      agrees = λ k lt out. agrees_at 0 f f.firm c k t lt (let here : 0 + k ≡ k = omega arith in subst (λ (n : ℕ). is_in n f.loose ≡ false) (sym here) out);
    }

same_refl : (xs : List ℕ) → same_bytes xs xs ≡ true
same_refl [] = refl
same_refl (x ∷ xs) = let ih = same_refl xs in grind (arith, nat_tests, ih)

agrees_by : (k : ℕ) (f : File) (firm c : List ℕ) → length firm ≤ length c → ((i : ℕ) → i < length firm → is_in (k + i) f.loose ≡ false → get_or c i 0 ≡ get_or firm i 0) → agrees_from k f firm c ≡ true
agrees_by k f [] c le at = refl
agrees_by k f (x ∷ firm) [] le at = absurd (omega arith)
agrees_by k f (x ∷ firm) (y ∷ c) le at =
    let ih = agrees_by (k + 1) f firm c (omega arith)
    (λ i lt out. let next : k + suc i ≡ (k + 1) + i = omega arith in at (suc i) (omega arith) (subst (λ (n : ℕ). is_in n f.loose ≡ false) (sym next) out)) in
    let here : k + 0 ≡ k = omega arith in
    go (is_in k f.loose) refl (λ out. at 0 (omega arith) (subst (λ (n : ℕ). is_in n f.loose ≡ false) (sym here) out)) ih
  where
    go : (b : Bool) → is_in k f.loose ≡ b → (is_in k f.loose ≡ false → y ≡ x) → agrees_from (k + 1) f firm c ≡ true → (is_in k f.loose || (x == y)) && agrees_from (k + 1) f firm c ≡ true
    go true is same ih = grind (arith, nat_tests, is, ih)
    go false is same ih = let e = same is in grind (arith, nat_tests, is, ih, e)

pub is_image : (f : File) (c : List ℕ) → IsImage f c → has_image f c ≡ true
is_image f c image = go f.loose refl
  where
    go : (rs : List Range) → f.loose ≡ rs → (if are_none rs then same_bytes c f.firm else agrees_from 0 f f.firm c) ≡ true
    go [] e = subst (λ (l : List ℕ). same_bytes l f.firm ≡ true) (sym (image.settled e)) (same_refl f.firm)
    go (r ∷ rs) e = agrees_by 0 f f.firm c image.no_shorter (λ k lt out. image.agrees k lt (let here : 0 + k ≡ k = omega arith in subst (λ (n : ℕ). is_in n f.loose ≡ false) here out))

firm_left : (f : File) (b c : List ℕ) → f ≡ firm_file b → has_image f c ≡ true → c ≡ b
firm_left f b c firm is = bytes_same c b (subst (λ (g : File). has_image g c ≡ true) firm is)

-- a firm file is left as it is
pub left_there : (fs : List NamedFile) (cs : List (List ℕ)) (n : FileName) (b : List ℕ) → have_images fs cs ≡ true → file_of fs n ≡ firm_file b → file_of (firmed fs cs) n ≡ firm_file b
left_there [] [] n b have is = is
left_there [] (c ∷ cs) n b have is = absurd (cc have)
left_there (f ∷ fs) [] n b have is = absurd (cc have)
left_there (f ∷ fs) (c ∷ cs) n b have is =
    let t = both (has_image f.file c) (have_images fs cs) have in
    go (same_name f.name n) t.0 is (left_there fs cs n b t.1)
  where
    go : (t : Bool) → has_image f.file c ≡ true → (if t then f.file else file_of fs n) ≡ firm_file b → (file_of fs n ≡ firm_file b → file_of (firmed fs cs) n ≡ firm_file b)
        → (if t then firm_file c else file_of (firmed fs cs) n) ≡ firm_file b
    go true image here ih = ap firm_file (firm_left f.file b c here image)
    go false image there ih = ih there

pub and_true : (a b : Bool) → a ≡ true → b ≡ true → (a && b) ≡ true
and_true true b is t = t
and_true false b is t = absurd (cc is)

all_images : (fs : List NamedFile) (cs : List (List ℕ)) → have_images fs cs ≡ true → AreImages fs cs
all_images [] [] is = tt
all_images (f ∷ fs) (c ∷ cs) is = let t = both (has_image f.file c) (have_images fs cs) is in (image_is f.file c t.0, all_images fs cs t.1)
all_images [] (c ∷ cs) is = absurd (cc is)
all_images (f ∷ fs) [] is = absurd (cc is)

images_all : (fs : List NamedFile) (cs : List (List ℕ)) → AreImages fs cs → have_images fs cs ≡ true
images_all [] [] t = refl
images_all (f ∷ fs) (c ∷ cs) t = and_true (has_image f.file c) (have_images fs cs) (is_image f.file c t.0) (images_all fs cs t.1)
images_all [] (c ∷ cs) t = absurd t
images_all (f ∷ fs) [] t = absurd t

pub left_images : (s : World) (left : List (List ℕ)) → may_leave s left ≡ true → MayBeLeft s left
left_images s [] is = absurd (cc is)
left_images s (c ∷ cs) is = let t = both (has_image s.table c) (have_images s.files cs) is in (image_is s.table c t.0, all_images s.files cs t.1)

pub images_left : (s : World) (left : List (List ℕ)) → MayBeLeft s left → may_leave s left ≡ true
images_left s [] t = absurd t
images_left s (c ∷ cs) t = and_true (has_image s.table c) (have_images s.files cs) (is_image s.table c t.0) (images_all s.files cs t.1)
