-- What the code of a failing call has made of the state.
use Rattle.std.proofs.Common.{◌≡◌, ◌⊎◌, inl, inr, ◌^◌, ◌+◌, ◌<◌, if◌then◌else◌, ℕ, Bool, true, false, List, [], length, Option, Some, None, is_some, IsSome, IsNone, slice_get, slice_set, sym, ◌∙◌, ap, subst, refl}
use Rattle.fd_disk.specs.declared.file.File.{File}
use Rattle.fd_disk.specs.declared.folders.FileName.{FileName}
use Rattle.fd_disk.specs.Images.{loosened, written}
use Rattle.fd_entries.specs.declared.table.Entry.{Entry}
use Rattle.fd_entries.specs.Table.{listed, with_body, with_closed, with_gate}
use Rattle.fd_machine.specs.declared.machine.NamedFile.{NamedFile}
use Rattle.fd_machine.specs.declared.machine.Phase.{Phase}
use Rattle.fd_machine.specs.declared.machine.Phase.TheVariants.{Filling, Synced, Written, Sealed, Holding, BodyLoose, BodyFirm, GateLoose, Closing}
use Rattle.fd_machine.specs.declared.machine.Step.TheVariants.{Fail}
use Rattle.fd_machine.specs.declared.machine.Writer.{Writer}
use Rattle.fd_machine.specs.World.{World}
use Rattle.fd_entries.specs.Batches.{rows, total}
use Rattle.fd_machine.specs.Machine.{after, back, can_fail, entry_of, failed, fields_name, file_of, fresh, index_name, put_file, put_writer, writer_in, writer_of}
use Rattle.fd_entries.specs.Numbers.{entries_or_none, greatest_seq}
use Rattle.fd_machine.specs.Took.{IsAt, IsPlace, IsReached}
use Rattle.fd_machine.proofs.Keeping.{id_is}
use Rattle.fd_machine.proofs.Steps.{in_other}
use Rattle.fd_machine.proofs.Reached.{done, place_is, place_put, reached_seq, up_and}

pub fails : (s : World) (w : ℕ) (p : Phase) → s.down ≡ false → (writer_of s w).phase ≡ p → can_fail p ≡ true → after s (Fail w) ≡ failed s (writer_of s w) p
fails s w p up is may = done s (Fail w) (up_and s.down (can_fail (writer_of s w).phase) up (ap can_fail is ∙ may)) ∙ ap (failed s (writer_of s w)) is

moved_put : (s : World) (w i : ℕ) (ws : List Writer) (q : Phase) → IsPlace s.writers w i → ((x : Writer) → slice_get s.writers i ≡ Some x → ws ≡ slice_set s.writers i (in_other x q)) → ws ≡ put_writer s.writers (in_other (writer_of s w) q)
moved_put s w i ws q place made = place_put s w i ws (λ x. in_other x q) place (id_is s w) made

-- the number of a writer's first batch fits 32 bits
pub first_fits : (s : World) (w : ℕ) → IsReached s → s.down ≡ false → ((o : Writer) → writer_in s.writers w o ≡ o) → greatest_seq w (entries_or_none (listed [] s.table.reads)) + 1 < 2 ^ 32
first_fits s w r up unknown = subst (λ (n : ℕ). n < 2 ^ 32) (ap (λ (x : Writer). x.seq) (unknown (fresh s.table w))) (reached_seq s w r up)

pub fail_put_done : (s : World) (w at : ℕ) (n : FileName) (fs : List NamedFile) → s.down ≡ false → (writer_of s w).phase ≡ Filling → n ≡ fields_name (writer_of s w) → at ≡ total (writer_of s w).pairs
    → fs ≡ put_file s.files n (loosened (file_of s.files n) at (2 ^ 63) (file_of s.files n).reads) → record s { files = fs } ≡ after s (Fail w)
fail_put_done s w at n fs up phase name place is =
    ap (λ (fs : List NamedFile). record s { files = fs })
    (is ∙ ap (λ (n : FileName). put_file s.files n (loosened (file_of s.files n) at (2 ^ 63) (file_of s.files n).reads)) name
    ∙ ap (λ (k : ℕ). put_file s.files (fields_name (writer_of s w)) (loosened (file_of s.files (fields_name (writer_of s w))) k (2 ^ 63) (file_of s.files (fields_name (writer_of s w))).reads)) place)
    ∙ sym (fails s w Filling up phase refl)

pub fail_index_done : (s : World) (w i : ℕ) (x : Writer) (bytes : List ℕ) (fs : List NamedFile) (ws : List Writer) → IsAt s w i Synced → slice_get s.writers i ≡ Some x → bytes ≡ rows x.pairs
    → fs ≡ put_file s.files (index_name x) (written (file_of s.files (index_name x)) 0 bytes) → ((x : Writer) → slice_get s.writers i ≡ Some x → ws ≡ slice_set s.writers i (in_other x Filling))
    → record s { files = fs; writers = ws } ≡ after s (Fail w)
fail_index_done s w i x bytes fs ws a at rows_are is made =
    ap (λ (fs : List NamedFile). record s { files = fs; writers = ws })
    (is ∙ ap (λ (l : List ℕ). put_file s.files (index_name x) (written (file_of s.files (index_name x)) 0 l)) rows_are
    ∙ ap (λ (y : Writer). put_file s.files (index_name y) (written (file_of s.files (index_name y)) 0 (rows y.pairs))) (place_is s w i x a.place at))
    ∙ ap (λ (ws : List Writer). record s { files = put_file s.files (index_name (writer_of s w)) (written (file_of s.files (index_name (writer_of s w))) 0 (rows (writer_of s w).pairs)); writers = ws }) (moved_put s w i ws Filling a.place made)
    ∙ sym (fails s w Synced a.up a.phase refl)

pub fail_index_sync_done : (s : World) (w i : ℕ) (ws : List Writer) → IsAt s w i Written → ((x : Writer) → slice_get s.writers i ≡ Some x → ws ≡ slice_set s.writers i (in_other x Filling)) → record s { writers = ws } ≡ after s (Fail w)
fail_index_sync_done s w i ws a made = ap (λ (ws : List Writer). record s { writers = ws }) (moved_put s w i ws Filling a.place made) ∙ sym (fails s w Written a.up a.phase refl)

-- the owner gives the table back
back_done : (s : World) (w i : ℕ) (p : Phase) (t : File) (d : Option Entry) (ws : List Writer) → IsAt s w i p → can_fail p ≡ true → ((x : Writer) → slice_get s.writers i ≡ Some x → ws ≡ slice_set s.writers i (in_other x Sealed))
    → back s (writer_of s w) t d ≡ failed s (writer_of s w) p → record s { table = t; doubt = d; owner = None; writers = ws } ≡ after s (Fail w)
back_done s w i p t d ws a may made does =
    ap (λ (ws : List Writer). record s { table = t; doubt = d; owner = None; writers = ws }) (moved_put s w i ws Sealed a.place made)
    ∙ does ∙ sym (fails s w p a.up a.phase may)

some_is : {A : Type 0} (o : Option A) → IsSome o → is_some o ≡ true
some_is (Some x) is = refl
some_is None is = absurd (cc is)

none_is : {A : Type 0} (o : Option A) → IsNone o → is_some o ≡ false
none_is None is = refl
none_is (Some x) is = absurd (cc is)

pub fail_close_done : (s : World) (w i : ℕ) (t : File) (ws : List Writer) → IsAt s w i Holding → IsSome s.doubt → t ≡ with_closed s.table (length s.history)
    → ((x : Writer) → slice_get s.writers i ≡ Some x → ws ≡ slice_set s.writers i (in_other x Sealed)) → record s { table = t; owner = None; writers = ws } ≡ after s (Fail w)
fail_close_done s w i t ws a doubt is made =
    back_done s w i Holding t s.doubt ws a refl made
    (ap (λ (t : File). back s (writer_of s w) t s.doubt) is
    ∙ sym (ap (λ (b : Bool). back s (writer_of s w) (if b then with_closed s.table (length s.history) else with_body s.table (length s.history) (entry_of (writer_of s w))) s.doubt) (some_is s.doubt doubt)))

pub fail_body_done : (s : World) (w i : ℕ) (x : Writer) (t : File) (ws : List Writer) → IsAt s w i Holding → IsNone s.doubt → slice_get s.writers i ≡ Some x → t ≡ with_body s.table (length s.history) (entry_of x)
    → ((x : Writer) → slice_get s.writers i ≡ Some x → ws ≡ slice_set s.writers i (in_other x Sealed)) → record s { table = t; owner = None; writers = ws } ≡ after s (Fail w)
fail_body_done s w i x t ws a none at is made =
    back_done s w i Holding t s.doubt ws a refl made
    (ap (λ (t : File). back s (writer_of s w) t s.doubt) (is ∙ ap (λ (y : Writer). with_body s.table (length s.history) (entry_of y)) (place_is s w i x a.place at))
    ∙ sym (ap (λ (b : Bool). back s (writer_of s w) (if b then with_closed s.table (length s.history) else with_body s.table (length s.history) (entry_of (writer_of s w))) s.doubt) (none_is s.doubt none)))

pub fail_table_sync_done : (s : World) (w i : ℕ) (ws : List Writer) → (IsAt s w i Closing) ⊎ (IsAt s w i BodyLoose)
    → ((x : Writer) → slice_get s.writers i ≡ Some x → ws ≡ slice_set s.writers i (in_other x Sealed)) → record s { owner = None; writers = ws } ≡ after s (Fail w)
fail_table_sync_done s w i ws (inl a) made = back_done s w i Closing s.table s.doubt ws a refl made refl
fail_table_sync_done s w i ws (inr a) made = back_done s w i BodyLoose s.table s.doubt ws a refl made refl

pub fail_gate_done : (s : World) (w i n : ℕ) (x : Writer) (e : Entry) (t : File) (ws : List Writer) → IsAt s w i BodyFirm → slice_get s.writers i ≡ Some x → e ≡ entry_of x → n ≡ length s.history → t ≡ with_gate s.table n
    → ((x : Writer) → slice_get s.writers i ≡ Some x → ws ≡ slice_set s.writers i (in_other x Sealed)) → record s { table = t; doubt = Some e; owner = None; writers = ws } ≡ after s (Fail w)
fail_gate_done s w i n x e t ws a at entry count is made =
    back_done s w i BodyFirm t (Some e) ws a refl made
    (ap (λ (t : File). back s (writer_of s w) t (Some e)) (is ∙ ap (with_gate s.table) count)
    ∙ ap (λ (e : Entry). back s (writer_of s w) (with_gate s.table (length s.history)) (Some e)) (entry ∙ ap entry_of (place_is s w i x a.place at)))

pub fail_gate_sync_done : (s : World) (w i : ℕ) (x : Writer) (e : Entry) (ws : List Writer) → IsAt s w i GateLoose → slice_get s.writers i ≡ Some x → e ≡ entry_of x
    → ((x : Writer) → slice_get s.writers i ≡ Some x → ws ≡ slice_set s.writers i (in_other x Sealed)) → record s { doubt = Some e; owner = None; writers = ws } ≡ after s (Fail w)
fail_gate_sync_done s w i x e ws a at entry made =
    back_done s w i GateLoose s.table (Some e) ws a refl made
    (ap (λ (e : Entry). back s (writer_of s w) s.table (Some e)) (entry ∙ ap entry_of (place_is s w i x a.place at)))
