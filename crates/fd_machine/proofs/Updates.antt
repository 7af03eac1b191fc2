-- What an update of a list leaves at each name.
use Rattle.std.proofs.Common.{◌≡◌, ◌≢◌, ◌⊎◌, inl, inr, ◌==◌, if◌then◌else◌, ℕ, Bool, true, false, List, [], ◌∷◌, refl, sym, ◌∙◌, ap, subst, arith}
use Rattle.std.proofs.lemmas.Bool.Decides.{nat_tests}
use Rattle.fd_disk.specs.declared.file.File.{File}
use Rattle.fd_disk.specs.declared.folders.FileName.{FileName}
use Rattle.fd_disk.specs.declared.folders.FileKind.{FileKind}
use Rattle.fd_disk.specs.declared.folders.FileKind.TheVariants.{Fields, Index}
use Rattle.fd_disk.specs.Names.{same_name, same_kind}
use Rattle.fd_machine.specs.declared.machine.Writer.{Writer}
use Rattle.fd_machine.specs.declared.machine.NamedFile.{NamedFile}
use Rattle.fd_machine.specs.Machine.{file_of, put_file, writer_in, put_writer}

kind_refl : (k : FileKind) → same_kind k k ≡ true
kind_refl Fields = refl
kind_refl Index = refl

kind_same : (a b : FileKind) → same_kind a b ≡ true → a ≡ b
kind_same Fields Fields is = refl
kind_same Index Index is = refl
kind_same Fields Index is = absurd (cc is)
kind_same Index Fields is = absurd (cc is)

pub name_refl : (n : FileName) → same_name n n ≡ true
name_refl n = let k = kind_refl n.kind in grind (arith, nat_tests, k)

name_parts : (a b : FileName) → same_name a b ≡ true → (a.writer ≡ b.writer) × (a.seq ≡ b.seq) × (same_kind a.kind b.kind ≡ true)
name_parts a b is = (grind (arith, nat_tests, is), grind (arith, nat_tests, is), grind (arith, nat_tests, is))

name_same : (a b : FileName) → same_name a b ≡ true → a ≡ b
name_same a b is =
    let p = name_parts a b is in
    let k = kind_same a.kind b.kind p.2 in
    λ j. record { writer = p.0 j; seq = p.1 j; kind = k j }

-- a test of names, and what it says
pub name_cases : (a b : FileName) → (a ≡ b) ⊎ (same_name a b ≡ false)
name_cases a b = go (same_name a b) refl
  where
    go : (t : Bool) → same_name a b ≡ t → (a ≡ b) ⊎ (same_name a b ≡ false)
    go true is = inl (name_same a b is)
    go false is = inr is

pub file_there : (fs : List NamedFile) (n : FileName) (f : File) → file_of (put_file fs n f) n ≡ f
file_there [] n f = ap (λ (t : Bool). if t then f else file_of [] n) (name_refl n)
file_there (x ∷ fs) n f = go (file_there fs n f) (same_name x.name n) refl
  where
    go : file_of (put_file fs n f) n ≡ f → (t : Bool) → same_name x.name n ≡ t → file_of (if t then record { name = n; file = f } ∷ fs else x ∷ put_file fs n f) n ≡ f
    go ih true is = ap (λ (t : Bool). if t then f else file_of fs n) (name_refl n)
    go ih false is = ap (λ (t : Bool). if t then x.file else file_of (put_file fs n f) n) is ∙ ih

pub file_elsewhere : (fs : List NamedFile) (n m : FileName) (f : File) → same_name n m ≡ false → file_of (put_file fs n f) m ≡ file_of fs m
file_elsewhere [] n m f other = ap (λ (t : Bool). if t then f else file_of [] m) other
file_elsewhere (x ∷ fs) n m f other = elim (name_cases x.name n) [
  | inl same ↦
      let yes_test : same_name x.name n ≡ true = subst (λ (a : FileName). same_name a n ≡ true) (sym same) (name_refl n) in
      let here : same_name x.name m ≡ false = subst (λ (a : FileName). same_name a m ≡ false) (sym same) other in
      ap (λ (t : Bool). file_of (if t then record { name = n; file = f } ∷ fs else x ∷ put_file fs n f) m) yes_test
      ∙ ap (λ (t : Bool). if t then f else file_of fs m) other
      ∙ sym (ap (λ (t : Bool). if t then x.file else file_of fs m) here)
  | inr differs ↦
      ap (λ (t : Bool). file_of (if t then record { name = n; file = f } ∷ fs else x ∷ put_file fs n f) m) differs
      ∙ ap (λ (l : File). if same_name x.name m then x.file else l) (file_elsewhere fs n m f other)
]

eq_true : (n : ℕ) → (n == n) ≡ true
eq_true n = grind (arith, nat_tests)

pub writer_there : (xs : List Writer) (x o : Writer) (w : ℕ) → x.id ≡ w → writer_in (put_writer xs x) w o ≡ x
writer_there [] x o w is = let t : (x.id == w) ≡ true = grind (arith, nat_tests, is) in ap (λ (t : Bool). if t then x else o) t
writer_there (y ∷ xs) x o w is = go (writer_there xs x o w is) (y.id == x.id) refl
  where
    t : (x.id == w) ≡ true
    t = grind (arith, nat_tests, is)

    go : writer_in (put_writer xs x) w o ≡ x → (b : Bool) → (y.id == x.id) ≡ b → writer_in (if b then x ∷ xs else y ∷ put_writer xs x) w o ≡ x
    go ih true same = ap (λ (t : Bool). if t then x else writer_in xs w o) t
    go ih false differs =
        let u : (y.id == w) ≡ false = subst (λ (n : ℕ). (y.id == n) ≡ false) is differs in
        ap (λ (t : Bool). if t then y else writer_in (put_writer xs x) w o) u ∙ ih

pub writer_elsewhere : (xs : List Writer) (x o : Writer) (w : ℕ) → x.id ≢ w → writer_in (put_writer xs x) w o ≡ writer_in xs w o
writer_elsewhere [] x o w other = let t : (x.id == w) ≡ false = grind (arith, nat_tests, other) in ap (λ (t : Bool). if t then x else o) t
writer_elsewhere (y ∷ xs) x o w other = go (writer_elsewhere xs x o w other) (y.id == x.id) refl
  where
    t : (x.id == w) ≡ false
    t = grind (arith, nat_tests, other)

    go : writer_in (put_writer xs x) w o ≡ writer_in xs w o → (b : Bool) → (y.id == x.id) ≡ b → writer_in (if b then x ∷ xs else y ∷ put_writer xs x) w o ≡ writer_in (y ∷ xs) w o
    go ih true same =
        let u : (y.id == w) ≡ false = grind (arith, nat_tests, same, other) in
        ap (λ (t : Bool). if t then x else writer_in xs w o) t ∙ sym (ap (λ (t : Bool). if t then y else writer_in xs w o) u)
    go ih false differs = ap (λ (l : Writer). if y.id == w then y else l) ih

pub writer_id : (xs : List Writer) (w : ℕ) (o : Writer) → o.id ≡ w → (writer_in xs w o).id ≡ w
writer_id [] w o is = is
writer_id (x ∷ xs) w o is = go (writer_id xs w o is) (x.id == w) refl
  where
    go : (writer_in xs w o).id ≡ w → (b : Bool) → (x.id == w) ≡ b → (if b then x else writer_in xs w o).id ≡ w
    go ih true same = grind (arith, nat_tests, same)
    go ih false differs = ih
