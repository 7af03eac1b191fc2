-- Each step keeps what holds.
use Rattle.std.proofs.Common.{◌≡◌, ◌≢◌, inl, inr, ◌==◌, if◌then◌else◌, ℕ, ◌+◌, ◌<◌, ◌≤◌, Bool, true, false, List, [], ◌∷◌, length, refl, sym, ◌∙◌, ap, subst, arith, Option, Some, None}
use Rattle.std.proofs.lemmas.Bool.{cases_eq}
use Rattle.std.proofs.lemmas.Bool.Decides.{nat_tests}
use Rattle.fd_disk.specs.declared.file.File.{File}
use Rattle.fd_disk.specs.declared.folders.FileName.{FileName}
use Rattle.fd_disk.specs.declared.folders.FileKind.{FileKind}
use Rattle.fd_disk.specs.declared.folders.FileKind.TheVariants.{Fields, Index}
use Rattle.fd_disk.specs.Names.{same_name}
use Rattle.fd_disk.specs.Images.{firm_file}
use Rattle.fd_entries.specs.declared.table.Entry.{Entry}
use Rattle.fd_entries.specs.Table.{AllFit}
use Rattle.fd_entries.specs.declared.batch.Pair.{Pair}
use Rattle.fd_machine.specs.declared.machine.Phase.{Phase}
use Rattle.fd_machine.specs.declared.machine.Phase.TheVariants.{Filling, Synced, Written, Sealed, Holding, BodyLoose, BodyFirm, GateLoose, Listed, Posted, Closing}
use Rattle.fd_machine.specs.declared.machine.Writer.{Writer}
use Rattle.fd_machine.specs.declared.machine.NamedFile.{NamedFile}
use Rattle.fd_machine.specs.World.{World}
use Rattle.fd_machine.specs.Machine.{file_of, put_file, fields_name, index_name, writer_of, writer_in, put_writer, fresh, code, length_of}
use Rattle.fd_machine.proofs.Updates.{file_elsewhere, name_cases, writer_there, writer_elsewhere, writer_id}
use Rattle.fd_machine.proofs.Holds.{name_of, AllStand, ByPhase, WriterHolds, Owned, Mending, OwnedOrMending, TableHolds, MayWait, IsWriters, DoubtHolds, AllOlder, bound, HoldsUp}

other_writer : (a b : FileName) → a.writer ≢ b.writer → same_name a b ≡ false
other_writer a b differs = grind (arith, nat_tests, differs)

pub other_seq : (a b : FileName) → a.seq ≢ b.seq → same_name a b ≡ false
other_seq a b differs = grind (arith, nat_tests, differs)

-- no file but those of this batch has changed
abbrev pub ChangesOnly : ℕ → ℕ → List NamedFile → List NamedFile → Type 0
ChangesOnly w q fs fs' = (m : FileName) → (m.writer ≡ w → m.seq ≢ q) → file_of fs' m ≡ file_of fs m

-- one file of the batch was put
pub changes_one : (fs : List NamedFile) (n : FileName) (f : File) → ChangesOnly n.writer n.seq fs (put_file fs n f)
changes_one fs n f m other = file_elsewhere fs n m f (elim (name_cases n m) [
  | inl same ↦ absurd (other (ap (λ (a : FileName). a.writer) (sym same)) (ap (λ (a : FileName). a.seq) (sym same)))
  | inr differs ↦ differs
])

stands_kept : (fs fs' : List NamedFile) (w q : ℕ) (es : List Entry) (bs : List (List Pair)) → ChangesOnly w q fs fs' → AllOlder w q es → AllStand fs es bs → AllStand fs' es bs
stands_kept fs fs' w q [] [] only older all = tt
stands_kept fs fs' w q (e ∷ es) (b ∷ bs) only older all =
    let other : e.writer ≡ w → e.seq ≢ q = λ is eq. let lt = older.0 is in absurd (omega (arith, lt, eq)) in (
      record { fields = only (name_of e Fields) other ∙ all.0.fields; index = only (name_of e Index) other ∙ all.0.index; keys = all.0.keys; small = all.0.small; seq = all.0.seq },
      stands_kept fs fs' w q es bs only older.1 all.1,
    )
stands_kept fs fs' w q [] (b ∷ bs) only older all = absurd all
stands_kept fs fs' w q (e ∷ es) [] only older all = absurd all

phase_kept : (f f' i i' : File) (x : Writer) (p : Phase) → f' ≡ f → i' ≡ i → ByPhase f i x p → ByPhase f' i' x p
phase_kept f f' i i' x p ef ei h = subst (λ (g : File). ByPhase g i' x p) (sym ef) (subst (λ (g : File). ByPhase f g x p) (sym ei) h)

-- another writer's files
writer_kept : (fs fs' : List NamedFile) (w q : ℕ) (x : Writer) → ChangesOnly w q fs fs' → x.id ≢ w → WriterHolds fs x → WriterHolds fs' x
writer_kept fs fs' w q x only differs h = record {
  pairs = h.pairs;
  phase = phase_kept (file_of fs (fields_name x)) (file_of fs' (fields_name x)) (file_of fs (index_name x)) (file_of fs' (index_name x)) x x.phase
      (only (fields_name x) (λ is. absurd (differs is))) (only (index_name x) (λ is. absurd (differs is))) h.phase;
}

owned_busy : (f : File) (es : List Entry) (x : Writer) (p : Phase) → Owned f es x p → 4 ≤ code p
owned_busy f es x Holding h = omega arith
owned_busy f es x BodyLoose h = omega arith
owned_busy f es x BodyFirm h = omega arith
owned_busy f es x GateLoose h = omega arith
owned_busy f es x Listed h = omega arith
owned_busy f es x Posted h = omega arith
owned_busy f es x Filling h = absurd h
owned_busy f es x Synced h = absurd h
owned_busy f es x Written h = absurd h
owned_busy f es x Sealed h = absurd h
owned_busy f es x Closing h = absurd h

mending_busy : (f : File) (es : List Entry) (e : Entry) (p : Phase) → Mending f es e p → 4 ≤ code p
mending_busy f es e Holding h = omega arith
mending_busy f es e Closing h = omega arith
mending_busy f es e BodyLoose h = absurd h
mending_busy f es e BodyFirm h = absurd h
mending_busy f es e GateLoose h = absurd h
mending_busy f es e Listed h = absurd h
mending_busy f es e Posted h = absurd h
mending_busy f es e Filling h = absurd h
mending_busy f es e Synced h = absurd h
mending_busy f es e Written h = absurd h
mending_busy f es e Sealed h = absurd h

-- an owner is busy with the table
pub owner_busy : (f : File) (es : List Entry) (x : Writer) (p : Phase) (d : Option Entry) → OwnedOrMending f es x p d → 4 ≤ code p
owner_busy f es x p None h = owned_busy f es x p h
owner_busy f es x p (Some e) h = mending_busy f es e p h

pub waits_code : (p : Phase) → MayWait p → 3 ≤ code p
waits_code p waits = elim waits [
  | inl a ↦ omega (arith, ap code a)
  | inr b ↦ elim b [ inl c ↦ omega (arith, ap code c) | inr d ↦ omega (arith, ap code d) ]
]

pub bound_idle : (x : Writer) → code x.phase ≢ 9 → bound x ≡ x.seq
bound_idle x lt = let t : (code x.phase == 9) ≡ false = grind (arith, nat_tests, lt) in ap (λ (b : Bool). if b then x.seq + 1 else x.seq) t

pub id_is : (s : World) (w : ℕ) → (writer_of s w).id ≡ w
id_is s w = writer_id s.writers w (fresh s.table w) refl

-- a writer that is not filling is listed in `writers`, so that what is new has no say
pub known_writer : (xs : List Writer) (v : ℕ) (o o' : Writer) → code o.phase ≡ 0 → code (writer_in xs v o).phase ≢ 0 → writer_in xs v o' ≡ writer_in xs v o
known_writer [] v o o' new known = absurd (known new)
known_writer (x ∷ xs) v o o' new known = go (known_writer xs v o o' new) (x.id == v) refl known
  where
    go : (code (writer_in xs v o).phase ≢ 0 → writer_in xs v o' ≡ writer_in xs v o) → (b : Bool) → (x.id == v) ≡ b
        → code (if b then x else writer_in xs v o).phase ≢ 0 → (if b then x else writer_in xs v o') ≡ (if b then x else writer_in xs v o)
    go ih true is k = refl
    go ih false is k = ih k

-- A step of a writer that is not busy with the table, and has no entry in doubt: its batch and the files of its
-- batch may change.
module _ (s : World) (h : HoldsUp s) (w : ℕ) (x' : Writer) (fs' : List NamedFile) (xs' : List Writer)
    (there : writer_in xs' w (fresh s.table w) ≡ x') (elsewhere : (v : ℕ) → v ≢ w → writer_in xs' v (fresh s.table v) ≡ writer_of s v)
    (only : ChangesOnly w (writer_of s w).seq s.files fs') where
  abbrev x : Writer
  x = writer_of s w

  abbrev s' : World
  s' = record s { files = fs'; writers = xs' }

  -- what holds of each writer's record, by whether it is this one
  at_each : (P : ℕ → Writer → Type 0) → P w x' → ((v : ℕ) → v ≢ w → P v (writer_of s v)) → (v : ℕ) → P v (writer_of s' v)
  at_each P here others v = elim (cases_eq v w) [
    | inl same ↦ subst (λ (u : ℕ). P u (writer_of s' u)) (sym same) (subst (P w) (sym there) here)
    | inr differs ↦ subst (P v) (sym (elsewhere v differs)) (others v differs)
  ]

  not_owner : code x.phase < 4 → s.owner ≢ Some w
  not_owner idle is = let o : TableHolds s h.entries (Some w) = subst (λ (o : Option ℕ). TableHolds s h.entries o) is h.table in
      let b = owner_busy s.table h.entries x x.phase s.doubt o in omega (arith, idle, b)

  table_kept : code x.phase < 4 → TableHolds s' h.entries s.owner
  table_kept idle = go s.owner refl h.table
    where
      go : (o : Option ℕ) → s.owner ≡ o → TableHolds s h.entries o → TableHolds s' h.entries o
      go None e t = t
      go (Some v) e t = subst (λ (y : Writer). OwnedOrMending s.table h.entries y y.phase s.doubt) (sym (elsewhere v (λ same. not_owner idle (e ∙ ap Some same)))) t

  doubt_kept : code x.phase < 3 → DoubtHolds s' s.doubt
  doubt_kept idle = go s.doubt h.doubted
    where
      go : (d : Option Entry) → DoubtHolds s d → DoubtHolds s' d
      go None t = tt
      go (Some e) t = subst (λ (y : Writer). IsWriters y e)
          (sym (elsewhere e.writer (λ same. let b = waits_code (writer_of s e.writer).phase t.waits in absurd (omega (arith, b, idle, ap (λ (u : ℕ). code (writer_of s u).phase) same))))) t

  pub batch_step : x'.seq ≡ x.seq → code x.phase < 3 → code x'.phase < 4 → WriterHolds fs' x' → HoldsUp s'
  batch_step seq idle idle' mine = record {
    entries = h.entries;
    fit = h.fit;
    few = h.few;
    stands = stands_kept s.files fs' w x.seq h.entries s.history only (subst (λ (q : ℕ). AllOlder w q h.entries) (bound_idle x (omega (arith, idle))) (h.older w)) h.stands;
    table = table_kept (omega (arith, idle));
    doubted = doubt_kept idle;
    writers = at_each (λ v y. WriterHolds fs' y) mine (λ v differs. writer_kept s.files fs' w x.seq (writer_of s v) only (λ e. differs (sym (id_is s v) ∙ e)) (h.writers v));
    older = at_each (λ v y. AllOlder v (bound y) h.entries)
        (subst (λ (q : ℕ). AllOlder w q h.entries) (bound_idle x (omega (arith, idle)) ∙ sym seq ∙ sym (bound_idle x' (omega (arith, idle')))) (h.older w)) (λ v differs. h.older v);
    busy = at_each (λ v y. 4 ≤ code y.phase → s.owner ≡ Some v) (λ le. absurd (omega (arith, le, idle'))) (λ v differs. h.busy v);
    unused = λ v q kind. at_each (λ v y. y.seq < q → file_of fs' (record { writer = v; seq = q; kind = kind }) ≡ firm_file [])
        (λ lt. only (record { writer = w; seq = q; kind = kind }) (λ is e. let c : q ≡ x.seq = e in absurd (omega (arith, lt, seq, c))) ∙ h.unused w q kind (omega (arith, lt, seq)))
        (λ v differs lt. only (record { writer = v; seq = q; kind = kind }) (λ is. absurd (differs is)) ∙ h.unused v q kind lt) v;
    sees = h.sees;
  }

-- the same where one of its files is put
pub files_step : (s : World) (h : HoldsUp s) (w : ℕ) (k : FileKind) (f : File) (x' : Writer) → x'.id ≡ w → x'.seq ≡ (writer_of s w).seq → code (writer_of s w).phase < 3 → code x'.phase < 4
    → WriterHolds (put_file s.files (record { writer = (writer_of s w).id; seq = (writer_of s w).seq; kind = k }) f) x'
    → HoldsUp (record s { files = put_file s.files (record { writer = (writer_of s w).id; seq = (writer_of s w).seq; kind = k }) f; writers = put_writer s.writers x' })
files_step s h w k f x' is seq idle idle' mine =
    let x = writer_of s w in
    let n : FileName = record { writer = x.id; seq = x.seq; kind = k } in
    batch_step s h w x' (put_file s.files n f) (put_writer s.writers x')
    (writer_there s.writers x' (fresh s.table w) w is) (λ v differs. writer_elsewhere s.writers x' (fresh s.table v) v (λ e. differs (sym e ∙ is)))
    (subst (λ (u : ℕ). ChangesOnly u x.seq s.files (put_file s.files n f)) (id_is s w) (changes_one s.files n f))
    seq idle idle' mine

-- a step of the table's owner, or of one that becomes it
module _ (s : World) (h : HoldsUp s) (w : ℕ) (t' : File) (o' : Option ℕ) (d' : Option Entry) (hs' : List (List Pair)) (es' : List Entry) (x' : Writer) where
  abbrev s2 : World
  s2 = record s { table = t'; history = hs'; owner = o'; doubt = d'; writers = put_writer s.writers x' }

  -- the table's new bytes change no other writer's record
  abbrev pub SameOthers : Type 0
  SameOthers = (v : ℕ) → v ≢ w → writer_in s.writers v (fresh t' v) ≡ writer_of s v

  pub there2 : x'.id ≡ w → writer_of s2 w ≡ x'
  there2 is = writer_there s.writers x' (fresh t' w) w is

  pub elsewhere2 : x'.id ≡ w → SameOthers → (v : ℕ) → v ≢ w → writer_of s2 v ≡ writer_of s v
  elsewhere2 is same v differs = writer_elsewhere s.writers x' (fresh t' v) v (λ e. differs (sym e ∙ is)) ∙ same v differs

  at_each2 : (P : ℕ → Writer → Type 0) → x'.id ≡ w → SameOthers → P w x' → ((v : ℕ) → v ≢ w → P v (writer_of s v)) → (v : ℕ) → P v (writer_of s2 v)
  at_each2 P is others_same here others v = elim (cases_eq v w) [
    | inl same ↦ subst (λ (u : ℕ). P u (writer_of s2 u)) (sym same) (subst (P w) (sym (there2 is)) here)
    | inr differs ↦ subst (P v) (sym (elsewhere2 is others_same v differs)) (others v differs)
  ]

  pub owner_step : x'.id ≡ w → SameOthers → AllFit 0 es' → length es' ≤ 65535 → AllStand s.files es' hs' → TableHolds s2 es' o' → DoubtHolds s2 d' → WriterHolds s.files x'
      → AllOlder w (bound x') es' → ((v : ℕ) → v ≢ w → AllOlder v (bound (writer_of s v)) es')
      → (4 ≤ code x'.phase → o' ≡ Some w) → ((v : ℕ) → v ≢ w → 4 ≤ code (writer_of s v).phase → o' ≡ Some v)
      → (writer_of s w).seq ≤ x'.seq → ((r : ℕ) → length_of s r ≤ length hs') → HoldsUp s2
  owner_step is same fit few stands table doubted mine older olders busy busies seq sees = record {
    entries = es';
    fit = fit;
    few = few;
    stands = stands;
    table = table;
    doubted = doubted;
    writers = at_each2 (λ v y. WriterHolds s.files y) is same mine (λ v differs. h.writers v);
    older = at_each2 (λ v y. AllOlder v (bound y) es') is same older olders;
    busy = at_each2 (λ v y. 4 ≤ code y.phase → o' ≡ Some v) is same busy busies;
    unused = λ v q kind. at_each2 (λ v y. y.seq < q → file_of s.files (record { writer = v; seq = q; kind = kind }) ≡ firm_file []) is same
        (λ lt. h.unused w q kind (omega (arith, lt, seq))) (λ v differs lt. h.unused v q kind lt) v;
    sees = sees;
  }

decode : ℕ → Phase
decode n = if n == 0 then Filling else if n == 1 then Synced else if n == 2 then Written else if n == 3 then Sealed else if n == 4 then Holding else if n == 5 then BodyLoose else if n == 6 then BodyFirm else if n == 7 then GateLoose else if n == 8 then Listed else if n == 9 then Posted else Closing

decode-code : (p : Phase) → decode (code p) ≡ p
unfolding decode
decode-code Filling = refl
decode-code Synced = refl
decode-code Written = refl
decode-code Sealed = refl
decode-code Holding = refl
decode-code BodyLoose = refl
decode-code BodyFirm = refl
decode-code GateLoose = refl
decode-code Listed = refl
decode-code Posted = refl
decode-code Closing = refl

pub phase_is : (p q : Phase) → (code p == code q) ≡ true → p ≡ q
phase_is p q is = let same : code p ≡ code q = grind (arith, nat_tests, is) in sym (decode-code p) ∙ ap decode same ∙ decode-code q
