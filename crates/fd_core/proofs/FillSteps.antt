-- What the code of a step that fills or seals a batch has made of the state.
use Rattle.std.proofs.Common.{◌≡◌, ◌&&◌, ◌^◌, ◌-◌, ◌<◌, ◌≤◌, ℕ, Bool, true, false, not, nat_lt, List, [], ◌∷◌, ◌++◌, length, Option, Some, None, is_some, is_none, ◌+◌, slice_get, slice_set, sym, ◌∙◌, ap, subst, refl, arith}
use Rattle.std.specs.Prelude.{IsTrue, ◌↔◌}
use Rattle.std.proofs.lemmas.Bool.Decides.{nat_tests}
use Rattle.fd_disk.specs.declared.file.File.{File}
use Rattle.fd_disk.specs.Images.{synced, written}
use Rattle.fd_entries.specs.declared.batch.Pair.{Pair}
use Rattle.fd_entries.specs.declared.table.Entry.{Entry}
use Rattle.fd_entries.specs.Table.{body_of, gate_at, with_body}
use Rattle.fd_machine.specs.declared.machine.NamedFile.{NamedFile}
use Rattle.fd_machine.specs.declared.machine.Phase.{Phase}
use Rattle.fd_machine.specs.declared.machine.Phase.TheVariants.{Filling, Synced, Written, Sealed, Holding, BodyLoose}
use Rattle.fd_machine.specs.declared.machine.Step.{Step}
use Rattle.fd_machine.specs.declared.machine.Step.TheVariants.{SyncData, WriteIndex, SyncIndex, Body}
use Rattle.fd_machine.specs.declared.machine.Writer.{Writer}
use Rattle.fd_machine.specs.World.{World}
use Rattle.fd_entries.specs.Batches.{IsBounded, rows}
use Rattle.fd_machine.specs.Machine.{after, effect, entry_of, fields_name, file_of, index_name, is_in_phase, possible, put_file, put_writer, writer_of}
use Rattle.fd_entries.specs.Batches.{is_empty}
use Rattle.fd_machine.specs.Took.{IsPlace, IsReached}
use Rattle.fd_machine.proofs.Images.{and_true}
use Rattle.fd_machine.proofs.Steps.{in_other}
use Rattle.fd_machine.proofs.Reached.{done, phase_put, place_is, reached_few, reached_up, up_and}

-- a batch of which a test tells that it isn't empty has a pair
pub not_empty : (b : Bool) (ps : List Pair) → IsTrue b ↔ (ps ≡ []) → b ≡ false → is_empty ps ≡ false
not_empty b [] told is = let so : false ≡ true = sym is ∙ told.1 refl in absurd (cc so)
not_empty b (p ∷ ps) told is = refl

-- the batch of a writer is one that a table may list
pub reached_bounded : (s : World) (w : ℕ) → IsReached s → s.down ≡ false → IsBounded (writer_of s w).pairs
reached_bounded s w r up = let fits = ((reached_up s r up).writers w).pairs in record { keys = fits.keys; few = fits.few; sum = fits.small; index = fits.index_small }

-- the same, of the writer at a place
pub place_bounded : (s : World) (w i : ℕ) (x : Writer) → IsReached s → s.down ≡ false → IsPlace s.writers w i → slice_get s.writers i ≡ Some x → IsBounded x.pairs
place_bounded s w i x r up place at = subst (λ (y : Writer). IsBounded y.pairs) (sym (place_is s w i x place at)) (reached_bounded s w r up)

-- a step that changes a file of the writer's batch and moves the writer from one phase to another
files_done : (s : World) (w i : ℕ) (x : Writer) (fs : List NamedFile) (ws : List Writer) (p q : Phase) (F : Writer → List NamedFile) (step : Step) → IsPlace s.writers w i → slice_get s.writers i ≡ Some x → is_in_phase x p ≡ true
    → fs ≡ F x → ((x : Writer) → slice_get s.writers i ≡ Some x → ws ≡ slice_set s.writers i (in_other x q)) → possible s step ≡ true
    → effect s step ≡ record s { files = F (writer_of s w); writers = put_writer s.writers (in_other (writer_of s w) q) } → record s { files = fs; writers = ws } ≡ after s step
files_done s w i x fs ws p q F step place at phase is made may does =
    let put = phase_put s w i x ws p q place at phase made in
    ap (λ (fs : List NamedFile). record s { files = fs; writers = ws }) (is ∙ ap F (place_is s w i x place at))
    ∙ ap (λ (ws : List Writer). record s { files = F (writer_of s w); writers = ws }) put.1
    ∙ sym does ∙ sym (done s step may)

pub sync_data_done : (s : World) (w i : ℕ) (x : Writer) (fs : List NamedFile) (ws : List Writer) → s.down ≡ false → IsPlace s.writers w i → slice_get s.writers i ≡ Some x → is_in_phase x Filling ≡ true
    → is_empty x.pairs ≡ false → x.seq < 2 ^ 32 - 1 → fs ≡ put_file s.files (fields_name x) (synced (file_of s.files (fields_name x)))
    → ((x : Writer) → slice_get s.writers i ≡ Some x → ws ≡ slice_set s.writers i (in_other x Synced)) → record s { files = fs; writers = ws } ≡ after s (SyncData w)
sync_data_done s w i x fs ws up place at phase full small is made =
    files_done s w i x fs ws Filling Synced (λ y. put_file s.files (fields_name y) (synced (file_of s.files (fields_name y)))) (SyncData w) place at phase is made
    (subst (λ (y : Writer). (not s.down && (is_in_phase y Filling && not (is_empty y.pairs) && nat_lt y.seq (2 ^ 32 - 1))) ≡ true) (place_is s w i x place at)
    (up_and s.down (is_in_phase x Filling && not (is_empty x.pairs) && nat_lt x.seq (2 ^ 32 - 1)) up
    (and_true (is_in_phase x Filling && not (is_empty x.pairs)) (nat_lt x.seq (2 ^ 32 - 1)) (and_true (is_in_phase x Filling) (not (is_empty x.pairs)) phase (ap (λ (b : Bool). not b) full)) (grind (arith, nat_tests, small)))))
    refl

pub write_index_done : (s : World) (w i : ℕ) (x : Writer) (bytes : List ℕ) (fs : List NamedFile) (ws : List Writer) → s.down ≡ false → IsPlace s.writers w i → slice_get s.writers i ≡ Some x → is_in_phase x Synced ≡ true
    → bytes ≡ rows x.pairs → fs ≡ put_file s.files (index_name x) (written (file_of s.files (index_name x)) 0 bytes)
    → ((x : Writer) → slice_get s.writers i ≡ Some x → ws ≡ slice_set s.writers i (in_other x Written)) → record s { files = fs; writers = ws } ≡ after s (WriteIndex w)
write_index_done s w i x bytes fs ws up place at phase rows_are is made =
    files_done s w i x fs ws Synced Written (λ y. put_file s.files (index_name y) (written (file_of s.files (index_name y)) 0 (rows y.pairs))) (WriteIndex w) place at phase
    (is ∙ ap (λ (l : List ℕ). put_file s.files (index_name x) (written (file_of s.files (index_name x)) 0 l)) rows_are) made
    (up_and s.down (is_in_phase (writer_of s w) Synced) up (phase_put s w i x ws Synced Written place at phase made).0)
    refl

pub sync_index_done : (s : World) (w i : ℕ) (x : Writer) (fs : List NamedFile) (ws : List Writer) → s.down ≡ false → IsPlace s.writers w i → slice_get s.writers i ≡ Some x → is_in_phase x Written ≡ true
    → fs ≡ put_file s.files (index_name x) (synced (file_of s.files (index_name x)))
    → ((x : Writer) → slice_get s.writers i ≡ Some x → ws ≡ slice_set s.writers i (in_other x Sealed)) → record s { files = fs; writers = ws } ≡ after s (SyncIndex w)
sync_index_done s w i x fs ws up place at phase is made =
    files_done s w i x fs ws Written Sealed (λ y. put_file s.files (index_name y) (synced (file_of s.files (index_name y)))) (SyncIndex w) place at phase is made
    (up_and s.down (is_in_phase (writer_of s w) Written) up (phase_put s w i x ws Written Sealed place at phase made).0)
    refl

-- the batches can be counted in 16 bits, by the length that the code takes
pub count_few : (s : World) (n : ℕ) → IsReached s → n ≡ length s.history → n ≤ 65535
count_few s n r is = let few = reached_few s r in omega (arith, few, is)

-- a step that writes into the table and moves the writer from one phase to another
table_done : (s : World) (w i : ℕ) (x : Writer) (t : File) (ws : List Writer) (p q : Phase) (F : Writer → File) (step : Step) → IsPlace s.writers w i → slice_get s.writers i ≡ Some x → is_in_phase x p ≡ true
    → t ≡ F x → ((x : Writer) → slice_get s.writers i ≡ Some x → ws ≡ slice_set s.writers i (in_other x q)) → possible s step ≡ true
    → effect s step ≡ record s { table = F (writer_of s w); writers = put_writer s.writers (in_other (writer_of s w) q) } → record s { table = t; writers = ws } ≡ after s step
table_done s w i x t ws p q F step place at phase is made may does =
    let put = phase_put s w i x ws p q place at phase made in
    ap (λ (t : File). record s { table = t; writers = ws }) (is ∙ ap F (place_is s w i x place at))
    ∙ ap (λ (ws : List Writer). record s { table = F (writer_of s w); writers = ws }) put.1
    ∙ sym does ∙ sym (done s step may)

none_of : (o : Option Entry) → is_some o ≡ false → is_none o ≡ true
none_of None e = refl
none_of (Some v) e = absurd (cc e)

-- what the code wrote of an entry at a gate is the body that the definition writes
pub body_written : (f : File) (n : ℕ) (x : Writer) (gate : ℕ) (e : Entry) (bytes : List ℕ) (g : File) → gate ≡ gate_at n → e ≡ entry_of x → bytes ≡ body_of e ++ 0 ∷ [] → g ≡ written f (gate + 1) bytes → g ≡ with_body f n (entry_of x)
body_written f n x gate e bytes g place entry body is =
    is ∙ ap (λ (p : ℕ). written f (p + 1) bytes) place ∙ ap (written f (gate_at n + 1)) (body ∙ ap (λ (e : Entry). body_of e ++ 0 ∷ []) entry)

pub body_done : (s : World) (w i : ℕ) (x : Writer) (t : File) (ws : List Writer) → s.down ≡ false → is_some s.doubt ≡ false → IsPlace s.writers w i → slice_get s.writers i ≡ Some x → is_in_phase x Holding ≡ true
    → t ≡ with_body s.table (length s.history) (entry_of x)
    → ((x : Writer) → slice_get s.writers i ≡ Some x → ws ≡ slice_set s.writers i (in_other x BodyLoose)) → record s { table = t; writers = ws } ≡ after s (Body w)
body_done s w i x t ws up doubt place at phase is made =
    table_done s w i x t ws Holding BodyLoose (λ y. with_body s.table (length s.history) (entry_of y)) (Body w) place at phase is made
    (up_and s.down (is_in_phase (writer_of s w) Holding && is_none s.doubt) up
    (and_true (is_in_phase (writer_of s w) Holding) (is_none s.doubt) (phase_put s w i x ws Holding BodyLoose place at phase made).0 (none_of s.doubt doubt)))
    refl
