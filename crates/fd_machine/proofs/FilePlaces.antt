-- A file's place in the list.
use Rattle.std.proofs.Common.{◌≡◌, if◌then◌else◌, ℕ, zero, suc, Bool, true, false, List, [], ◌∷◌, ◌++◌, take, drop, sym, ◌∙◌, ap, Some, slice_get, slice_set}
use Rattle.fd_disk.specs.declared.file.File.{File}
use Rattle.fd_disk.specs.declared.folders.FileName.{FileName}
use Rattle.fd_disk.specs.Names.{same_name}
use Rattle.fd_machine.specs.declared.machine.NamedFile.{NamedFile}
use Rattle.fd_machine.specs.Machine.{file_of, put_file}

here : (y : NamedFile) (ys : List NamedFile) (n : FileName) → same_name y.name n ≡ true → file_of (y ∷ ys) n ≡ y.file
here y ys n is = ap (λ (b : Bool). if b then y.file else file_of ys n) is

later : (y : NamedFile) (ys : List NamedFile) (n : FileName) → same_name y.name n ≡ false → file_of (y ∷ ys) n ≡ file_of ys n
later y ys n is = ap (λ (b : Bool). if b then y.file else file_of ys n) is

put_here : (y : NamedFile) (ys : List NamedFile) (n : FileName) (f : File) → same_name y.name n ≡ true → put_file (y ∷ ys) n f ≡ record { name = n; file = f } ∷ ys
put_here y ys n f is = ap (λ (b : Bool). if b then record { name = n; file = f } ∷ ys else y ∷ put_file ys n f) is

put_later : (y : NamedFile) (ys : List NamedFile) (n : FileName) (f : File) → same_name y.name n ≡ false → put_file (y ∷ ys) n f ≡ y ∷ put_file ys n f
put_later y ys n f is = ap (λ (b : Bool). if b then record { name = n; file = f } ∷ ys else y ∷ put_file ys n f) is

pub file_found : (xs : List NamedFile) (i : ℕ) (x : NamedFile) (n : FileName) → slice_get xs i ≡ Some x → same_name x.name n ≡ true → file_of (drop i xs) n ≡ x.file
file_found [] i x n at is = absurd (cc at)
file_found (y ∷ ys) zero x n at is = let same : y ≡ x = cc at in here y ys n (ap (λ (s : NamedFile). same_name s.name n) same ∙ is) ∙ ap (λ (s : NamedFile). s.file) same
file_found (y ∷ ys) (suc i) x n at is = file_found ys i x n at is

pub file_passed : (xs : List NamedFile) (i : ℕ) (x : NamedFile) (n : FileName) → slice_get xs i ≡ Some x → same_name x.name n ≡ false → file_of (drop (suc i) xs) n ≡ file_of (drop i xs) n
file_passed [] i x n at is = absurd (cc at)
file_passed (y ∷ ys) zero x n at is = let same : y ≡ x = cc at in sym (later y ys n (ap (λ (s : NamedFile). same_name s.name n) same ∙ is))
file_passed (y ∷ ys) (suc i) x n at is = file_passed ys i x n at is

pub put_found : (xs : List NamedFile) (i : ℕ) (x : NamedFile) (n : FileName) (f : File) → slice_get xs i ≡ Some x → same_name x.name n ≡ true → take i xs ++ put_file (drop i xs) n f ≡ slice_set xs i (record { name = n; file = f })
put_found [] i x n f at is = absurd (cc at)
put_found (y ∷ ys) zero x n f at is = let same : y ≡ x = cc at in put_here y ys n f (ap (λ (s : NamedFile). same_name s.name n) same ∙ is)
put_found (y ∷ ys) (suc i) x n f at is = ap (λ (l : List NamedFile). y ∷ l) (put_found ys i x n f at is)

pub put_passed : (xs : List NamedFile) (i : ℕ) (x : NamedFile) (n : FileName) (f : File) → slice_get xs i ≡ Some x → same_name x.name n ≡ false → take (suc i) xs ++ put_file (drop (suc i) xs) n f ≡ take i xs ++ put_file (drop i xs) n f
put_passed [] i x n f at is = absurd (cc at)
put_passed (y ∷ ys) zero x n f at is = let same : y ≡ x = cc at in sym (put_later y ys n f (ap (λ (s : NamedFile). same_name s.name n) same ∙ is))
put_passed (y ∷ ys) (suc i) x n f at is = ap (λ (l : List NamedFile). y ∷ l) (put_passed ys i x n f at is)
