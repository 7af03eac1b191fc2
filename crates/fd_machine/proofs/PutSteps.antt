-- What the code of a put has tested, and what it has made of the state.
use Rattle.std.proofs.Common.{◌≡◌, inl, inr, ◌==◌, ◌&&◌, ◌-◌, ◌+◌, ◌^◌, ◌<◌, ◌≤◌, ℕ, zero, suc, Bool, true, false, if◌then◌else◌, nat_le, nat_lt, List, [], ◌∷◌, ◌++◌, length, Some, Result, Ok, Err, OnErr, slice_get, slice_set, sym, ◌∙◌, ap, subst, refl, arith}
use Rattle.std.proofs.lemmas.Bool.{cases_eq}
use Rattle.std.proofs.lemmas.Bool.Decides.{nat_tests}
use Rattle.fd_disk.specs.declared.folders.FileName.{FileName}
use Rattle.fd_disk.specs.Images.{written}
use Rattle.fd_entries.specs.declared.batch.Pair.{Pair}
use Rattle.fd_machine.specs.declared.machine.NamedFile.{NamedFile}
use Rattle.fd_machine.specs.declared.machine.Phase.TheVariants.{Filling}
use Rattle.fd_machine.specs.declared.machine.Step.TheVariants.{Put}
use Rattle.fd_machine.specs.declared.machine.Writer.{Writer}
use Rattle.fd_machine.specs.World.{World}
use Rattle.fd_entries.specs.Batches.{distinct, rows, total}
use Rattle.fd_machine.specs.Machine.{after, can_put, is_in_phase, fields_name, file_of, filled, fresh, put_file, put_writer, writer_in, writer_of}
use Rattle.fd_entries.specs.Batches.{with_pair}
use Rattle.fd_machine.specs.Took.{IsPlace}
use Rattle.fd_entries.proofs.BatchSums.{total_push}
use Rattle.fd_machine.proofs.Keeping.{id_is}
use Rattle.fd_machine.proofs.Reached.{done, place_is, place_put, up_and}

-- the test of a put, over plain numbers
abbrev pub puts : (f : Bool) (id k d t r : ℕ) → Bool
puts f id k d t r = f && nat_le 1 id && nat_le id 65536 && nat_le k 256 && nat_le d 65536 && nat_lt t (2 ^ 63) && nat_lt r (2 ^ 63)

pub many_bytes : (f : Bool) (id k d t r : ℕ) → 2 ^ 63 ≤ t → false ≡ puts f id k d t r
many_bytes f id k d t r is = grind (arith, nat_tests, is)

below_end : (a b : ℕ) → b < 2 ^ 63 → nat_lt a (2 ^ 63 - b) ≡ nat_lt (b + a) (2 ^ 63)
below_end a b small = grind (arith, nat_tests, small)

pub last_test : (f : Bool) (id k d t r : ℕ) → f ≡ true → 1 ≤ id → id ≤ 65536 → k ≤ 256 → d ≤ 65536 → t < 2 ^ 63 → nat_lt r (2 ^ 63) ≡ puts f id k d t r
last_test f id k d t r ef a b c e g = grind (arith, nat_tests, ef, a, b, c, e, g)

-- the last test as the code makes it
pub rows_test : (rows key all : ℕ) → rows < 2 ^ 63 → all ≡ rows + (18 + key) → nat_lt (18 + key) (2 ^ 63 - rows) ≡ nat_lt all (2 ^ 63)
rows_test rows key all small is = below_end (18 + key) rows small ∙ ap (λ (n : ℕ). nat_lt n (2 ^ 63)) (sym is)

-- what stands at a place inside a list
pub something : {A : Type 0} (xs : List A) (i : ℕ) → i < length xs → (x : A) × (slice_get xs i ≡ Some x)
something [] i lt = absurd (omega arith)
something (x ∷ xs) zero lt = (x, refl)
something (x ∷ xs) (suc i) lt = something xs i (omega arith)

get_put : {A : Type 0} (xs : List A) (i : ℕ) (y : A) → i < length xs → slice_get (slice_set xs i y) i ≡ Some y
get_put [] i y lt = absurd (omega arith)
get_put (x ∷ xs) zero y lt = refl
get_put (x ∷ xs) (suc i) y lt = get_put xs i y (omega arith)

put_put : {A : Type 0} (xs : List A) (i : ℕ) (y z : A) → slice_set (slice_set xs i y) i z ≡ slice_set xs i z
put_put [] i y z = refl
put_put (x ∷ xs) zero y z = refl
put_put {A} (x ∷ xs) (suc i) y z = ap (λ (l : List A). x ∷ l) (put_put xs i y z)

put_back : {A : Type 0} (xs : List A) (i : ℕ) (x : A) → slice_get xs i ≡ Some x → slice_set xs i x ≡ xs
put_back [] i x at = refl
put_back {A} (y ∷ ys) zero x at = let same : y ≡ x = cc at in ap (λ (z : A). z ∷ ys) (sym same)
put_back {A} (y ∷ ys) (suc i) x at = ap (λ (l : List A). y ∷ l) (put_back ys i x at)

length_put : {A : Type 0} (xs : List A) (i : ℕ) (y : A) → length (slice_set xs i y) ≡ length xs
length_put [] i y = refl
length_put (x ∷ xs) zero y = refl
length_put (x ∷ xs) (suc i) y = ap (λ (n : ℕ). suc n) (length_put xs i y)

pub still_inside : (ws more : List Writer) (i : ℕ) (p : Pair) → i < length ws → ((x : Writer) → slice_get ws i ≡ Some x → more ≡ slice_set ws i (filled x (x.pairs ++ p ∷ []))) → i < length more
still_inside ws more i p lt made =
    let found = something ws i lt in
    let same = ap length (made found.0 found.1) ∙ length_put ws i (filled found.0 (found.0.pairs ++ p ∷ [])) in
    omega (arith, lt, same)

-- a pair that is put and taken away again leaves the writers as they were
pub undone : {E : Type 0} (result : Result (Unit {0}) E) (ws more back : List Writer) (i : ℕ) (p : Pair) → i < length ws → ((x : Writer) → slice_get ws i ≡ Some x → more ≡ slice_set ws i (filled x (x.pairs ++ p ∷ [])))
    → ((x : Writer) (ps : List Pair) (p : Pair) → slice_get more i ≡ Some x → x.pairs ≡ ps ++ p ∷ [] → back ≡ slice_set more i (filled x ps)) → OnErr result (back ≡ ws)
undone (Ok u) ws more back i p lt made dropped = tt
undone (Err e) ws more back i p lt made dropped =
    let found = something ws i lt in
    let x = found.0 in
    let y = filled x (x.pairs ++ p ∷ []) in
    let is = made x found.1 in
    dropped y x.pairs p (ap (λ (l : List Writer). slice_get l i) is ∙ get_put ws i y lt) refl
    ∙ ap (λ (l : List Writer). slice_set l i x) is ∙ put_put ws i y x ∙ put_back ws i x found.1

-- a pair that wasn't put leaves the writers as they were
pub unput : {E : Type 0} (result : Result (Unit {0}) E) (ws : List Writer) (i : ℕ) (x : Writer) (ps : List Pair) → slice_get ws i ≡ Some x → OnErr result (ps ≡ x.pairs) → OnErr result (slice_set ws i (filled x ps) ≡ ws)
unput (Ok u) ws i x ps at same = tt
unput (Err e) ws i x ps at same = ap (λ (l : List Pair). slice_set ws i (filled x l)) same ∙ put_back ws i x at

put_new : (xs : List Writer) (y : Writer) → ((o : Writer) → writer_in xs y.id o ≡ o) → put_writer xs y ≡ xs ++ y ∷ []
put_new [] y unknown = refl
put_new (x ∷ xs) y unknown = elim (cases_eq x.id y.id) [
  | inl same ↦ (
      let t : (x.id == y.id) ≡ true = grind (arith, nat_tests, same) in
      let o : Writer = record { id = x.id + 1; pairs = x.pairs; phase = x.phase; seq = x.seq } in
      let is : x ≡ o = sym (ap (λ (b : Bool). if b then x else writer_in xs y.id o) t) ∙ unknown o in
      let n : x.id ≡ x.id + 1 = ap (λ (w : Writer). w.id) is in
      absurd (omega (arith, n)))
  | inr differs ↦ (
      let t : (x.id == y.id) ≡ false = grind (arith, nat_tests, differs) in
      ap (λ (b : Bool). if b then y ∷ xs else x ∷ put_writer xs y) t
      ∙ ap (λ (l : List Writer). x ∷ l) (put_new xs y (λ o. sym (ap (λ (b : Bool). if b then x else writer_in xs y.id o) t) ∙ unknown o)))
]

puts_total : (f : Bool) (id k d t r : ℕ) → puts f id k d t r ≡ true → t < 2 ^ 63
puts_total f id k d t r is = grind (arith, nat_tests, is)

-- a pair that may be put fits behind the others
pub put_fits : (x : Writer) (key bytes : List ℕ) → can_put x key bytes ≡ true → total x.pairs + length bytes < 2 ^ 63
put_fits x key bytes may =
    let more = with_pair x.pairs key bytes in
    let small = puts_total (is_in_phase x Filling) x.id (length key) (distinct more) (total more) (length (rows more)) may in
    let sum = total_push x.pairs (record { key = key; bytes = bytes }) in
    omega (arith, small, sum)

pub put_next_done : (s : World) (w i at : ℕ) (x : Writer) (n : FileName) (p : Pair) (fs : List NamedFile) (ws : List Writer) → s.down ≡ false → IsPlace s.writers w i → slice_get s.writers i ≡ Some x → can_put x p.key p.bytes ≡ true
    → n ≡ fields_name (writer_of s w) → at ≡ total (writer_of s w).pairs → fs ≡ put_file s.files n (written (file_of s.files n) at p.bytes)
    → ((x : Writer) → slice_get s.writers i ≡ Some x → ws ≡ slice_set s.writers i (filled x (x.pairs ++ p ∷ []))) → record s { files = fs; writers = ws } ≡ after s (Put w p.key p.bytes)
put_next_done s w i at x n p fs ws up place here may name sum is made =
    let y = writer_of s w in
    ap (λ (fs : List NamedFile). record s { files = fs; writers = ws })
    (is ∙ ap (λ (n : FileName). put_file s.files n (written (file_of s.files n) at p.bytes)) name ∙ ap (λ (k : ℕ). put_file s.files (fields_name y) (written (file_of s.files (fields_name y)) k p.bytes)) sum)
    ∙ ap (λ (ws : List Writer). record s { files = put_file s.files (fields_name y) (written (file_of s.files (fields_name y)) (total y.pairs) p.bytes); writers = ws })
    (place_put s w i ws (λ x. filled x (x.pairs ++ p ∷ [])) place (id_is s w) made)
    ∙ sym (done s (Put w p.key p.bytes) (up_and s.down (can_put y p.key p.bytes) up (subst (λ (z : Writer). can_put z p.key p.bytes ≡ true) (place_is s w i x place here) may)))

pub put_first_done : (s : World) (w : ℕ) (x more : Writer) (n : FileName) (p : Pair) (fs : List NamedFile) (ws : List Writer) → s.down ≡ false → ((o : Writer) → writer_in s.writers w o ≡ o)
    → x ≡ record { id = w; pairs = []; phase = Filling; seq = (writer_of s w).seq } → can_put x p.key p.bytes ≡ true → n ≡ fields_name x → fs ≡ put_file s.files n (written (file_of s.files n) 0 p.bytes)
    → more ≡ filled x ([] ++ p ∷ []) → ws ≡ s.writers ++ more ∷ [] → record s { files = fs; writers = ws } ≡ after s (Put w p.key p.bytes)
put_first_done s w x more n p fs ws up unknown first may name is full pushed =
    let y = writer_of s w in
    let z = fresh s.table w in
    let known : y ≡ z = unknown z in
    let same : x ≡ y = first ∙ ap (λ (q : ℕ). record { id = w; pairs = []; phase = Filling; seq = q }) (ap (λ (u : Writer). u.seq) known) ∙ sym known in
    let more_is : more ≡ filled y (with_pair y.pairs p.key p.bytes) = full ∙ ap (λ (u : Writer). filled u ([] ++ p ∷ [])) same ∙ ap (λ (l : List Pair). filled y (l ++ p ∷ [])) (ap (λ (u : Writer). u.pairs) (sym known)) in
    let sum : 0 ≡ total y.pairs = ap (λ (u : Writer). total u.pairs) (sym known) in
    ap (λ (fs : List NamedFile). record s { files = fs; writers = ws })
    (is ∙ ap (λ (n : FileName). put_file s.files n (written (file_of s.files n) 0 p.bytes)) (name ∙ ap fields_name same) ∙ ap (λ (k : ℕ). put_file s.files (fields_name y) (written (file_of s.files (fields_name y)) k p.bytes)) sum)
    ∙ ap (λ (ws : List Writer). record s { files = put_file s.files (fields_name y) (written (file_of s.files (fields_name y)) (total y.pairs) p.bytes); writers = ws })
    (pushed ∙ ap (λ (u : Writer). s.writers ++ u ∷ []) more_is
    ∙ sym (put_new s.writers (filled y (with_pair y.pairs p.key p.bytes)) (λ o. ap (λ (v : ℕ). writer_in s.writers v o) (id_is s w) ∙ unknown o)))
    ∙ sym (done s (Put w p.key p.bytes) (up_and s.down (can_put y p.key p.bytes) up (subst (λ (z : Writer). can_put z p.key p.bytes ≡ true) same may)))
