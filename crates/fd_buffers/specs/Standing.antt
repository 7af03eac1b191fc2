-- What stands of a file with gathered bytes whatever happens.
use Rattle.std.specs.Prelude.{◌≡◌, ◌<◌, ◌&&◌, ◌||◌, ◌==◌, ℕ, Bool, true, false, List, [], ◌∷◌, length, Option, Some, None}
use Rattle.std.specs.Option.{ForSome}
use Rattle.std.proofs.Common.{refl, ap, subst, arith}
use Rattle.std.proofs.lemmas.Bool.Decides.{nat_tests}
use Rattle.fd_disk.specs.declared.file.File.{File}
use Rattle.fd_disk.specs.declared.file.Range.{Range}
use Rattle.fd_disk.specs.Images.{IsImage, firm_file, is_in, written}
use Rattle.fd_disk.specs.Moments.{MayLeave}
use Rattle.fd_disk.proofs.ImageLemmas.{written_reads}
use Rattle.fd_buffers.specs.Gathered.{Covers, gathering, in_span, laid, told}

pub nothing : {A : Type 0} (l : List A) → length l ≡ 0 → l ≡ []
nothing [] e = refl
nothing (x ∷ xs) e = absurd (omega (arith, e))

-- what the file below may leave
pub still_image : (start : ℕ) (gathered : List ℕ) (loose : List Range) (f : File) (c : List ℕ) → Covers start (length gathered) loose f → IsImage f c → IsImage (gathering start gathered loose f) c
still_image start gathered loose f c covers image = record {
  settled = λ e. image.settled (nothing f.loose (covers.none (ap length e)).0);
  no_shorter = image.no_shorter;
  agrees = λ k lt out. let same = covers.same k in let before : is_in k f.loose ≡ false = grind (arith, nat_tests, out, same) in image.agrees k lt before;
}

-- what it may leave once they are written
pub after_image : (start : ℕ) (gathered : List ℕ) (loose : List Range) (f : File) (c : List ℕ) → 0 < length gathered → Covers start (length gathered) loose f → IsImage (written f start gathered) c → IsImage (gathering start gathered loose f) c
after_image start gathered loose f c some covers image = record {
  settled = λ e. absurd (omega (arith, some, (covers.none (ap length e)).1));
  no_shorter = image.no_shorter;
  agrees = λ k lt out.
      let same = covers.same k in
      let before : (in_span k start (length gathered) || is_in k f.loose) ≡ false = grind (arith, nat_tests, out, same) in
      image.agrees k lt before;
}

pub before_image : (start : ℕ) (gathered : List ℕ) (loose : List Range) (f : File) (c : List ℕ) → Covers start (length gathered) loose f → IsImage (gathering start gathered loose f) c → IsImage (written f start gathered) c
before_image start gathered loose f c covers image = record {
  settled = λ e. absurd (omega (arith, ap length e));
  no_shorter = image.no_shorter;
  agrees = λ k lt out.
      let same = covers.same k in
      let before : is_in k loose ≡ false = grind (arith, nat_tests, out, same) in
      image.agrees k lt before;
}

pub still_left : (o : Option File) (start : ℕ) (gathered : List ℕ) (loose : List Range) (c : List ℕ) → ForSome o (Covers start (length gathered) loose) → MayLeave o c → MayLeave (told o start gathered loose) c
still_left None start gathered loose c covers left = left
still_left (Some f) start gathered loose c covers left = still_image start gathered loose f c (covers f refl) left

-- a read gives one of the images
reads_one : (start : ℕ) (gathered : List ℕ) (loose : List Range) (f : File) → Covers start (length gathered) loose f → IsImage f f.reads → IsImage (gathering start gathered loose f) (laid f.reads start gathered)
reads_one start [] loose f covers image = still_image start [] loose f f.reads covers image
reads_one start (b ∷ bs) loose f covers image = after_image start (b ∷ bs) loose f (written f start (b ∷ bs)).reads (omega arith) covers (written_reads f start (b ∷ bs) image)

pub told_reads : (o : Option File) (start : ℕ) (gathered : List ℕ) (loose : List Range) (f : File) → ForSome o (Covers start (length gathered) loose)
    → ((g : File) → o ≡ Some g → IsImage g g.reads) → told o start gathered loose ≡ Some f → IsImage f f.reads
told_reads None start gathered loose f covers image is = absurd (cc is)
told_reads (Some g) start gathered loose f covers image is =
    let same : gathering start gathered loose g ≡ f = cc is in
    subst (λ (h : File). IsImage h h.reads) same (reads_one start gathered loose g (covers g refl) (image g refl))

-- nothing is loose where nothing is gathered and the file below is firm
firm_one : (start : ℕ) (gathered : List ℕ) (loose : List Range) (g : File) → Covers start (length gathered) loose g → length gathered ≡ 0 → g ≡ firm_file g.reads
    → gathering start gathered loose g ≡ firm_file (gathering start gathered loose g).reads
firm_one start [] loose g covers none firm =
    let few : loose ≡ [] = nothing loose (covers.all (ap (λ (h : File). length h.loose) firm) refl) in
    λ i. record { firm = (firm i).firm; reads = g.reads; loose = few i }
firm_one start (b ∷ bs) loose g covers none firm = absurd (omega (arith, none))

pub told_firm : (o : Option File) (synced : Bool) (start : ℕ) (gathered : List ℕ) (loose : List Range) (f : File) → ForSome o (Covers start (length gathered) loose)
    → ((g : File) → o ≡ Some g → synced ≡ true → g ≡ firm_file g.reads)
    → told o start gathered loose ≡ Some f → (synced && (length gathered == 0)) ≡ true → f ≡ firm_file f.reads
told_firm None synced start gathered loose f covers firm is both = absurd (cc is)
told_firm (Some g) synced start gathered loose f covers firm is both =
    let same : gathering start gathered loose g ≡ f = cc is in
    let none : length gathered ≡ 0 = grind (arith, nat_tests, both) in
    let below : synced ≡ true = grind (arith, nat_tests, both) in
    subst (λ (h : File). h ≡ firm_file h.reads) same (firm_one start gathered loose g (covers g refl) none (firm g refl below))
