-- The calls of the disk are steps of the machine.
use Rattle.std.proofs.Common.{◌≡◌, inl, inr, ◌+◌, ◌-◌, ◌<◌, ◌≤◌, ◌^◌, ◌&&◌, ◌||◌, if◌then◌else◌, ℕ, Bool, true, false, not, nat_le, nat_lt, List, [], ◌∷◌, ◌++◌, length, Option, Some, None, is_some, is_none, refl, sym, ◌∙◌, ap, subst, arith}
use Rattle.std.proofs.lemmas.Bool.Decides.{nat_tests}
use Rattle.fd_disk.specs.declared.file.File.{File}
use Rattle.fd_disk.specs.declared.folders.FileName.{FileName}
use Rattle.fd_disk.specs.Images.{IsAfterFailedWrite, IsImage, is_in, loosened, overwritten, synced, written}
use Rattle.fd_entries.proofs.BatchSums.{both}
use Rattle.fd_entries.specs.Batches.{distinct, is_empty, rows, total, with_pair}
use Rattle.fd_entries.specs.Table.{body_of, gate_at, with_body, with_closed}
use Rattle.fd_machine.specs.World.{World}
use Rattle.fd_machine.specs.declared.machine.Phase.{Phase}
use Rattle.fd_machine.specs.declared.machine.Phase.TheVariants.{Filling, Synced, Written, Holding, BodyLoose, BodyFirm, GateLoose, Closing}
use Rattle.fd_machine.specs.declared.machine.Step.{Step}
use Rattle.fd_machine.specs.declared.machine.Step.TheVariants.{Put, SyncData, WriteIndex, SyncIndex, Body, SyncBody, Gate, SyncGate, CloseGate, SyncClose}
use Rattle.fd_machine.specs.declared.machine.Writer.{Writer}
use Rattle.fd_machine.specs.Machine.{can, can_fail, can_put, effect, entry_of, failed, fields_name, file_of, index_name, is_in_phase, possible, writer_of}
use Rattle.fd_core.specs.Calls.{CallsAreSteps, IsSync, IsWrite, LeavesAmong, the_file, the_table}
use Rattle.fd_machine.proofs.Updates.{file_there}
use Rattle.fd_machine.proofs.Keeping.{phase_is}
use Rattle.fd_machine.proofs.Reached.{done}
use Rattle.fd_machine.proofs.PutSteps.{put_fits, puts}
use Rattle.fd_core.proofs.FailSteps.{fails}

-- a file that has a range loose more
among : (f : File) (at len : ℕ) (reads : List ℕ) → LeavesAmong f (loosened f at len reads)
among f at len reads c image = record {
  settled = λ e. absurd (cc e);
  no_shorter = image.no_shorter;
  agrees = λ k lt out. let before : is_in k f.loose ≡ false = grind (arith, nat_tests, out) in image.agrees k lt before;
}

narrow : (k at len more : ℕ) (b : Bool) → len ≤ more → ((nat_le at k && nat_lt k (at + more)) || b) ≡ false → ((nat_le at k && nat_lt k (at + len)) || b) ≡ false
narrow k at len more b le out = grind (arith, nat_tests, le, out)

-- one whose loose range is longer
wider : (f : File) (at len more : ℕ) (reads now : List ℕ) → len ≤ more → LeavesAmong (loosened f at len reads) (loosened f at more now)
wider f at len more reads now le c image = record {
  settled = λ e. absurd (cc e);
  no_shorter = image.no_shorter;
  agrees = λ k lt out. image.agrees k lt (narrow k at len more (is_in k f.loose) le out);
}

-- a write that failed
broken : (f g : File) (at len more : ℕ) (reads : List ℕ) → len ≤ more → IsAfterFailedWrite f at len g → LeavesAmong g (loosened f at more reads)
broken f g at len more reads le (inl same) c image = among f at more reads c (subst (λ (h : File). IsImage h c) same image)
broken f g at len more reads le (inr disturbed) c image = wider f at len more g.reads reads le c (subst (λ (h : File). IsImage h c) disturbed.file image)

is_up : (d b : Bool) → (not d && b) ≡ true → d ≡ false
is_up true b is = absurd (cc is)
is_up false b is = refl

is_so : (d b : Bool) → (not d && b) ≡ true → b ≡ true
is_so d b is = (both (not d) b is).1

puts_filling : (f : Bool) (id k d t r : ℕ) → puts f id k d t r ≡ true → f ≡ true
puts_filling true id k d t r is = refl
puts_filling false id k d t r is = absurd (cc is)

filling_of : (x : Writer) (key bytes : List ℕ) → can_put x key bytes ≡ true → x.phase ≡ Filling
filling_of x key bytes may =
    let more = with_pair x.pairs key bytes in
    phase_is x.phase Filling (puts_filling (is_in_phase x Filling) x.id (length key) (distinct more) (total more) (length (rows more)) may)

none_is : {A : Type 0} (o : Option A) → is_none o ≡ true → is_some o ≡ false
none_is None is = refl
none_is (Some x) is = absurd (cc is)

module _ (s : World) (w : ℕ) (step : Step) (p : Phase) (may : possible s step ≡ true) (up : s.down ≡ false) (phase : (writer_of s w).phase ≡ p) (able : can_fail p ≡ true) where
  write_is : (file : World → File) (at more : ℕ) (bytes reads : List ℕ) → length bytes ≤ more → file (effect s step) ≡ written (file s) at bytes → file (failed s (writer_of s w) p) ≡ loosened (file s) at more reads → IsWrite file s w step at bytes
  write_is file at more bytes reads le does breaks = record {
    well = ap file (done s step may) ∙ does;
    fails = λ f failing c image. subst (λ (g : File). IsImage g c) (sym (ap file (fails s w p up phase able) ∙ breaks)) (broken (file s) f at (length bytes) more reads le failing c image);
  }

  sync_is : (file : World → File) → file (effect s step) ≡ synced (file s) → LeavesAmong (file s) (file (failed s (writer_of s w) p)) → IsSync file s w step
  sync_is file does breaks = record {
    well = ap file (done s step may) ∙ does;
    fails = λ c image. subst (λ (g : File). IsImage g c) (sym (ap file (fails s w p up phase able))) (breaks c image);
  }

module _ (s : World) (w : ℕ) where
  put_is : (key bytes : List ℕ) → possible s (Put w key bytes) ≡ true → IsWrite (the_file (fields_name (writer_of s w))) s w (Put w key bytes) (total (writer_of s w).pairs) bytes
  put_is key bytes may =
      let x = writer_of s w in
      let name = fields_name x in
      let fits = put_fits x key bytes (is_so s.down (can_put x key bytes) may) in
      write_is s w (Put w key bytes) Filling may (is_up s.down (can_put x key bytes) may) (filling_of x key bytes (is_so s.down (can_put x key bytes) may)) refl (the_file name) (total x.pairs) (2 ^ 63) bytes (file_of s.files name).reads
      (omega (arith, fits))
      (file_there s.files name (written (file_of s.files name) (total x.pairs) bytes))
      (file_there s.files name (loosened (file_of s.files name) (total x.pairs) (2 ^ 63) (file_of s.files name).reads))

  data_is : possible s (SyncData w) ≡ true → IsSync (the_file (fields_name (writer_of s w))) s w (SyncData w)
  data_is may =
      let x = writer_of s w in
      let name = fields_name x in
      let here = can s (SyncData w) in
      let so = both (is_in_phase x Filling && not (is_empty x.pairs)) (nat_lt x.seq (2 ^ 32 - 1)) (is_so s.down here may) in
      let filling = phase_is x.phase Filling (both (is_in_phase x Filling) (not (is_empty x.pairs)) so.0).0 in
      sync_is s w (SyncData w) Filling may (is_up s.down here may) filling refl (the_file name)
      (file_there s.files name (synced (file_of s.files name)))
      (λ c image. subst (λ (g : File). IsImage g c) (sym (file_there s.files name (loosened (file_of s.files name) (total x.pairs) (2 ^ 63) (file_of s.files name).reads)))
      (among (file_of s.files name) (total x.pairs) (2 ^ 63) (file_of s.files name).reads c image))

  index_is : possible s (WriteIndex w) ≡ true → IsWrite (the_file (index_name (writer_of s w))) s w (WriteIndex w) 0 (rows (writer_of s w).pairs)
  index_is may =
      let x = writer_of s w in
      let name = index_name x in
      let here = is_in_phase x Synced in
      let new = file_there s.files name (written (file_of s.files name) 0 (rows x.pairs)) in
      write_is s w (WriteIndex w) Synced may (is_up s.down here may) (phase_is x.phase Synced (is_so s.down here may)) refl (the_file name) 0 (length (rows x.pairs)) (rows x.pairs) (overwritten (file_of s.files name).reads 0 (rows x.pairs))
      (omega arith) new new

  index_sync_is : possible s (SyncIndex w) ≡ true → IsSync (the_file (index_name (writer_of s w))) s w (SyncIndex w)
  index_sync_is may =
      let x = writer_of s w in
      let name = index_name x in
      let here = is_in_phase x Written in
      sync_is s w (SyncIndex w) Written may (is_up s.down here may) (phase_is x.phase Written (is_so s.down here may)) refl (the_file name)
      (file_there s.files name (synced (file_of s.files name))) (λ c image. image)

  closing_is : possible s (CloseGate w) ≡ true → IsWrite the_table s w (CloseGate w) (gate_at (length s.history)) (0 ∷ [])
  closing_is may =
      let x = writer_of s w in
      let n = length s.history in
      let bytes : List ℕ = 0 ∷ [] in
      let here = is_in_phase x Holding && is_some s.doubt in
      let so = both (is_in_phase x Holding) (is_some s.doubt) (is_so s.down here may) in
      write_is s w (CloseGate w) Holding may (is_up s.down here may) (phase_is x.phase Holding so.0) refl the_table (gate_at n) (length bytes) bytes (overwritten s.table.reads (gate_at n) bytes)
      (omega arith) refl (ap (λ (b : Bool). if b then with_closed s.table n else with_body s.table n (entry_of x)) so.1)

  body_is : possible s (Body w) ≡ true → IsWrite the_table s w (Body w) (gate_at (length s.history) + 1) (body_of (entry_of (writer_of s w)) ++ 0 ∷ [])
  body_is may =
      let x = writer_of s w in
      let n = length s.history in
      let bytes : List ℕ = body_of (entry_of x) ++ 0 ∷ [] in
      let here = is_in_phase x Holding && is_none s.doubt in
      let so = both (is_in_phase x Holding) (is_none s.doubt) (is_so s.down here may) in
      write_is s w (Body w) Holding may (is_up s.down here may) (phase_is x.phase Holding so.0) refl the_table (gate_at n + 1) (length bytes) bytes (overwritten s.table.reads (gate_at n + 1) bytes)
      (omega arith) refl (ap (λ (b : Bool). if b then with_closed s.table n else with_body s.table n (entry_of x)) (none_is s.doubt so.1))

  gate_is : possible s (Gate w) ≡ true → IsWrite the_table s w (Gate w) (gate_at (length s.history)) (79 ∷ [])
  gate_is may =
      let x = writer_of s w in
      let n = length s.history in
      let bytes : List ℕ = 79 ∷ [] in
      let here = is_in_phase x BodyFirm in
      write_is s w (Gate w) BodyFirm may (is_up s.down here may) (phase_is x.phase BodyFirm (is_so s.down here may)) refl the_table (gate_at n) (length bytes) bytes (overwritten s.table.reads (gate_at n) bytes)
      (omega arith) refl refl

  -- a sync of the table, behind whose fault the table is as it was
  table_sync_is : (step : Step) (p : Phase) → possible s step ≡ true → (not s.down && is_in_phase (writer_of s w) p) ≡ true → can_fail p ≡ true → (effect s step).table ≡ synced s.table → (failed s (writer_of s w) p).table ≡ s.table → IsSync the_table s w step
  table_sync_is step p may here able does same =
      let x = writer_of s w in
      let in_phase = is_in_phase x p in
      sync_is s w step p may (is_up s.down in_phase here) (phase_is x.phase p (is_so s.down in_phase here)) able the_table does (λ c image. subst (λ (g : File). IsImage g c) (sym same) image)

  pub calls_are_steps : CallsAreSteps s w
  calls_are_steps = record {
    put = put_is;
    put_sync = data_is;
    index = index_is;
    index_sync = index_sync_is;
    closing = closing_is;
    closing_sync = λ may. table_sync_is (SyncClose w) Closing may may refl refl refl;
    body = body_is;
    body_sync = λ may. table_sync_is (SyncBody w) BodyLoose may may refl refl refl;
    gate = gate_is;
    gate_sync = λ may. table_sync_is (SyncGate w) GateLoose may may refl refl refl;
  }
