-- A disk call that fails keeps what holds.
use Rattle.std.proofs.Common.{◌≡◌, ◌≢◌, inl, if◌then◌else◌, ℕ, ◌^◌, ◌≤◌, true, [], ◌∷◌, ◌++◌, length, refl, sym, ◌∙◌, ap, subst, arith, Option, Some, None, is_some}
use Rattle.fd_disk.specs.declared.file.File.{File}
use Rattle.fd_disk.specs.declared.folders.FileKind.TheVariants.{Index}
use Rattle.fd_disk.specs.Images.{firm_file, written, loosened}
use Rattle.fd_entries.specs.declared.table.Entry.{Entry}
use Rattle.fd_entries.specs.Table.{body_of, with_body, with_gate, with_closed}
use Rattle.fd_entries.specs.Standing.{IsSettled}
use Rattle.fd_entries.proofs.StandingLemmas.{written_settled, closed_table}
use Rattle.fd_machine.specs.declared.machine.Phase.{Phase}
use Rattle.fd_machine.specs.declared.machine.Phase.TheVariants.{Filling, Synced, Written, Sealed, Holding, BodyLoose, BodyFirm, GateLoose, Listed, Posted, Closing}
use Rattle.fd_machine.specs.declared.machine.Writer.{Writer}
use Rattle.fd_machine.specs.World.{World}
use Rattle.fd_entries.specs.Batches.{total, joined, rows}
use Rattle.fd_machine.specs.Machine.{file_of, put_file, fields_name, index_name, entry_of, writer_of, put_writer, fresh, code, can_fail, failed, back}
use Rattle.fd_machine.proofs.Updates.{file_there, file_elsewhere, writer_there, writer_elsewhere}
use Rattle.fd_machine.proofs.Holds.{IsReady, ByPhase, OwnedOrMending, FreeOrInDoubt, IsWriters, DoubtHolds, HoldsUp}
use Rattle.fd_machine.proofs.Keeping.{ChangesOnly, batch_step, files_step, changes_one, SameOthers, id_is}
use Rattle.fd_machine.proofs.Fetching.{same_count}
use Rattle.fd_machine.proofs.Steps.{in_phase, in_other, at_table, no_doubt, owned, moved_holds, ready, pairs_moved, fields_index, index_fields, over_all, stays, doubt_stays, doubt_none, there3, s3, gate_doubtful, gate_numbers, closed_doubtful, closed_numbers, same_numbers}

-- the field file may hold anything behind the last pair
fail_filling : (s : World) (h : HoldsUp s) (w : ℕ) → (writer_of s w).phase ≡ Filling → HoldsUp (failed s (writer_of s w) Filling)
fail_filling s h w is =
    let x = writer_of s w in
    let holds = in_phase s h w Filling is in
    let old = file_of s.files (fields_name x) in
    let new = loosened old (total x.pairs) (2 ^ 63) old.reads in
    let files = put_file s.files (fields_name x) new in
    let phase : ByPhase (file_of files (fields_name x)) (file_of files (index_name x)) x Filling = (
      ap (λ (f : File). f.reads) (file_there s.files (fields_name x) new) ∙ holds.0,
      subst (λ (f : File). length f.reads ≤ length (rows x.pairs)) (sym (file_elsewhere s.files (fields_name x) (index_name x) new (fields_index x.id x.seq))) holds.1,
    ) in
    batch_step s h w x files s.writers refl (λ v differs. refl)
    (subst (λ (u : ℕ). ChangesOnly u x.seq s.files files) (id_is s w) (changes_one s.files (fields_name x) new))
    refl (omega (arith, ap code is)) (omega (arith, ap code is))
    (record { pairs = (h.writers w).pairs; phase = subst (λ (q : Phase). ByPhase (file_of files (fields_name x)) (file_of files (index_name x)) x q) (sym is) phase })

-- the index may hold anything, and reads as it was to be
fail_synced : (s : World) (h : HoldsUp s) (w : ℕ) → (writer_of s w).phase ≡ Synced → HoldsUp (failed s (writer_of s w) Synced)
fail_synced s h w is =
    let x = writer_of s w in
    let holds = in_phase s h w Synced is in
    let new = written (file_of s.files (index_name x)) 0 (rows x.pairs) in
    let reads : new.reads ≡ rows x.pairs = over_all (file_of s.files (index_name x)).reads (rows x.pairs) holds.1 in
    let fields : (file_of (put_file s.files (index_name x) new) (fields_name x)).reads ≡ joined x.pairs =
    ap (λ (f : File). f.reads) (file_elsewhere s.files (index_name x) (fields_name x) new (index_fields x.id x.seq) ∙ holds.0.fields_is) in
    files_step s h w Index new (in_other x Filling) (id_is s w) refl (omega (arith, ap code is)) (omega arith)
    (record {
      pairs = pairs_moved x Filling (h.writers w).pairs;
      phase = (fields, omega (arith, ap length (ap (λ (f : File). f.reads) (file_there s.files (index_name x) new) ∙ reads)));
    })

-- the index that was written isn't firm
fail_written : (s : World) (h : HoldsUp s) (w : ℕ) → (writer_of s w).phase ≡ Written → HoldsUp (failed s (writer_of s w) Written)
fail_written s h w is =
    let x = writer_of s w in
    let holds = in_phase s h w Written is in
    batch_step s h w (in_other x Filling) s.files (put_writer s.writers (in_other x Filling))
    (writer_there s.writers (in_other x Filling) (fresh s.table w) w (id_is s w))
    (λ v differs. writer_elsewhere s.writers (in_other x Filling) (fresh s.table v) v (λ e. differs (sym e ∙ id_is s w)))
    (λ m other. refl) refl (omega (arith, ap code is)) (omega arith)
    (record {
      pairs = pairs_moved x Filling (h.writers w).pairs;
      phase = (ap (λ (f : File). f.reads) holds.0.fields_is, omega (arith, ap length holds.1));
    })

-- the owner gives the table back
module _ (s : World) (h : HoldsUp s) (w : ℕ) (p : Phase) (is : (writer_of s w).phase ≡ p) (t' : File) (d' : Option Entry) where
  abbrev Sealing : Type 0
  Sealing = SameOthers s h w t' None d' s.history h.entries (in_other (writer_of s w) Sealed)

  goes_back : 4 ≤ code p → code p ≢ 9 → Sealing → IsReady (file_of s.files (fields_name (writer_of s w))) (writer_of s w)
      → file_of s.files (index_name (writer_of s w)) ≡ firm_file (rows (writer_of s w).pairs)
      → FreeOrInDoubt t' h.entries d' → DoubtHolds (s3 s h w t' None d' Sealed) d' → HoldsUp (back s (writer_of s w) t' d')
  goes_back le not_posted same is_ready index table doubted =
      let x = writer_of s w in
      let mine : s.owner ≡ Some w = h.busy w (omega (arith, le, ap code is)) in
      stays s h w t' None d' Sealed same (omega arith) (omega (arith, not_posted, ap code is)) (λ four. absurd (omega (arith, four)))
      (λ v differs busy. let taken : s.owner ≡ Some v = h.busy v busy in let same_one : v ≡ w = cc (taken, mine) in absurd (differs same_one))
      (moved_holds s h w Sealed (ready (file_of s.files (fields_name x)) x Sealed is_ready, index))
      table doubted

-- its own entry is in doubt
own_doubt : (s : World) (h : HoldsUp s) (w : ℕ) (t' : File) → DoubtHolds (s3 s h w t' None (Some (entry_of (writer_of s w))) Sealed) (Some (entry_of (writer_of s w)))
own_doubt s h w t' =
    let x = writer_of s w in
    let d' = Some (entry_of x) in
    subst (λ (y : Writer). IsWriters y (entry_of x)) (sym (ap (λ (u : ℕ). writer_of (s3 s h w t' None d' Sealed) u) (id_is s w) ∙ there3 s h w t' None d' Sealed))
    (record { own = refl; waits = inl refl })

fail_holding : (s : World) (h : HoldsUp s) (w : ℕ) → (writer_of s w).phase ≡ Holding → HoldsUp (failed s (writer_of s w) Holding)
fail_holding s h w is =
    let x = writer_of s w in
    let holds = in_phase s h w Holding is in
    let count = same_count s.files h.entries s.history h.stands in
    subst (λ (n : ℕ). HoldsUp (back s x (if is_some s.doubt then with_closed s.table n else with_body s.table n (entry_of x)) s.doubt)) count
    (go s.doubt refl (at_table s h w Holding is (omega arith)) h.doubted)
  where
    go : (d : Option Entry) → s.doubt ≡ d → OwnedOrMending s.table h.entries (writer_of s w) Holding d → DoubtHolds s d
        → HoldsUp (back s (writer_of s w) (if is_some d then with_closed s.table (length h.entries) else with_body s.table (length h.entries) (entry_of (writer_of s w))) d)
    go None there t b =
        let x = writer_of s w in
        let holds = in_phase s h w Holding is in
        let t' = with_body s.table (length h.entries) (entry_of x) in
        let settled : IsSettled [] h.entries t' = written_settled [] h.entries s.table (body_of (entry_of x) ++ 0 ∷ []) t.0 in
        goes_back s h w Holding is t' None (omega arith) (omega arith) (λ v differs. same_numbers s h.entries t' t.0.reads settled.reads v) holds.0 holds.1 settled tt
    go (Some e) there t b =
        let x = writer_of s w in
        let holds = in_phase s h w Holding is in
        let t' = with_closed s.table (length h.entries) in
        let same = λ (v : ℕ) (differs : v ≢ w). closed_numbers s h e t' t b (closed_table [] h.entries s.table e t.0 t.1) v in
        goes_back s h w Holding is t' (Some e) (omega arith) (omega arith) same holds.0 holds.1 (closed_doubtful h.entries s.table e t)
        (doubt_stays s h w t' None (Some e) Sealed same (inl refl) (Some e) b)

fail_closing : (s : World) (h : HoldsUp s) (w : ℕ) → (writer_of s w).phase ≡ Closing → HoldsUp (failed s (writer_of s w) Closing)
fail_closing s h w is =
    let x = writer_of s w in
    let holds = in_phase s h w Closing is in
    goes_back s h w Closing is s.table s.doubt (omega arith) (omega arith) (λ v differs. refl) holds.0 holds.1
    (go s.doubt (at_table s h w Closing is (omega arith)))
    (doubt_stays s h w s.table None s.doubt Sealed (λ v differs. refl) (inl refl) s.doubt h.doubted)
  where
    go : (d : Option Entry) → OwnedOrMending s.table h.entries (writer_of s w) Closing d → FreeOrInDoubt s.table h.entries d
    go None t = absurd t
    go (Some e) t = t.0

fail_body_loose : (s : World) (h : HoldsUp s) (w : ℕ) → (writer_of s w).phase ≡ BodyLoose → HoldsUp (failed s (writer_of s w) BodyLoose)
fail_body_loose s h w is =
    let x = writer_of s w in
    let holds = in_phase s h w BodyLoose is in
    let none = no_doubt s h w BodyLoose is (omega arith) (λ e m. m) in
    let table = owned s h w BodyLoose is (omega arith) none in
    goes_back s h w BodyLoose is s.table s.doubt (omega arith) (omega arith) (λ v differs. refl) holds.0 holds.1
    (subst (λ (d : Option Entry). FreeOrInDoubt s.table h.entries d) (sym none) table.0)
    (doubt_none s h w s.table None s.doubt Sealed none)

fail_body_firm : (s : World) (h : HoldsUp s) (w : ℕ) → (writer_of s w).phase ≡ BodyFirm → HoldsUp (failed s (writer_of s w) BodyFirm)
fail_body_firm s h w is =
    let x = writer_of s w in
    let holds = in_phase s h w BodyFirm is in
    let none = no_doubt s h w BodyFirm is (omega arith) (λ e m. m) in
    let table = owned s h w BodyFirm is (omega arith) none in
    let count = same_count s.files h.entries s.history h.stands in
    let t' = with_gate s.table (length h.entries) in
    subst (λ (n : ℕ). HoldsUp (back s x (with_gate s.table n) (Some (entry_of x)))) count
    (goes_back s h w BodyFirm is t' (Some (entry_of x)) (omega arith) (omega arith) (gate_numbers s h w table) holds.0 holds.1
    (gate_doubtful h.entries s.table (entry_of x) table) (own_doubt s h w t'))

fail_gate_loose : (s : World) (h : HoldsUp s) (w : ℕ) → (writer_of s w).phase ≡ GateLoose → HoldsUp (failed s (writer_of s w) GateLoose)
fail_gate_loose s h w is =
    let x = writer_of s w in
    let holds = in_phase s h w GateLoose is in
    let none = no_doubt s h w GateLoose is (omega arith) (λ e m. m) in
    let table = owned s h w GateLoose is (omega arith) none in
    goes_back s h w GateLoose is s.table (Some (entry_of x)) (omega arith) (omega arith) (λ v differs. refl) holds.0 holds.1 table.0 (own_doubt s h w s.table)

fails : (s : World) (h : HoldsUp s) (w : ℕ) (p : Phase) → (writer_of s w).phase ≡ p → can_fail p ≡ true → HoldsUp (failed s (writer_of s w) p)
fails s h w Filling is may = fail_filling s h w is
fails s h w Synced is may = fail_synced s h w is
fails s h w Written is may = fail_written s h w is
fails s h w Holding is may = fail_holding s h w is
fails s h w Closing is may = fail_closing s h w is
fails s h w BodyLoose is may = fail_body_loose s h w is
fails s h w BodyFirm is may = fail_body_firm s h w is
fails s h w GateLoose is may = fail_gate_loose s h w is
fails s h w Sealed is may = absurd (cc may)
fails s h w Listed is may = absurd (cc may)
fails s h w Posted is may = absurd (cc may)

pub keeps_fail : (s : World) (w : ℕ) → can_fail (writer_of s w).phase ≡ true → HoldsUp s → HoldsUp (failed s (writer_of s w) (writer_of s w).phase)
keeps_fail s w may h = fails s h w (writer_of s w).phase refl may

-- none of them brings the machine down or touches the history
pub failed_down : (s : World) (x : Writer) (p : Phase) → (failed s x p).down ≡ s.down
failed_down s x Filling = refl
failed_down s x Synced = refl
failed_down s x Written = refl
failed_down s x Holding = refl
failed_down s x Closing = refl
failed_down s x BodyLoose = refl
failed_down s x BodyFirm = refl
failed_down s x GateLoose = refl
failed_down s x Sealed = refl
failed_down s x Listed = refl
failed_down s x Posted = refl

pub failed_history : (s : World) (x : Writer) (p : Phase) → (failed s x p).history ≡ s.history
failed_history s x Filling = refl
failed_history s x Synced = refl
failed_history s x Written = refl
failed_history s x Holding = refl
failed_history s x Closing = refl
failed_history s x BodyLoose = refl
failed_history s x BodyFirm = refl
failed_history s x GateLoose = refl
failed_history s x Sealed = refl
failed_history s x Listed = refl
failed_history s x Posted = refl
