-- What holds of a state that some list of steps has led to.
use Rattle.std.proofs.Common.{◌≡◌, Option, Some, None, is_some, is_none, nat_lt, slice_get, slice_set, ℕ, ◌+◌, ◌^◌, ◌<◌, ◌≤◌, length-append, List, [], ◌∷◌, ◌++◌, length, Bool, true, false, not, ◌&&◌, cond, refl, sym, ◌∙◌, ap, subst, arith}
use Rattle.fd_machine.specs.World.{World}
use Rattle.fd_machine.specs.declared.machine.Step.{Step}
use Rattle.fd_machine.specs.declared.machine.Phase.TheVariants.{Filling, Sealed, Holding, BodyLoose, BodyFirm, GateLoose, Listed, Posted, Closing}
use Rattle.fd_machine.specs.declared.machine.Phase.{Phase}
use Rattle.fd_disk.specs.declared.file.File.{File}
use Rattle.fd_disk.specs.Images.{synced}
use Rattle.fd_machine.specs.declared.machine.Writer.{Writer}
use Rattle.fd_machine.proofs.Keeping.{id_is, phase_is}
use Rattle.std.proofs.lemmas.Bool.Decides.{nat_tests}
use Rattle.fd_machine.proofs.Steps.{in_phase, in_other}
use Rattle.fd_machine.specs.Machine.{writer_of, put_writer, fresh, is_in_phase, possible, run, after, effect, start, put_seen}
use Rattle.fd_machine.specs.declared.machine.Seen.{Seen}
use Rattle.fd_machine.specs.declared.machine.Step.TheVariants.{Look, Take, Post, Release, SyncBody, SyncGate, SyncClose, Gate, CloseGate}
use Rattle.fd_entries.specs.Table.{with_gate, with_closed}
use Rattle.fd_machine.proofs.Images.{and_true}
use Rattle.fd_entries.specs.declared.batch.Pair.{Pair}
use Rattle.fd_machine.specs.Took.{IsAt, IsReached, IsPlace}
use Rattle.fd_machine.proofs.Holds.{HoldsUp, HoldsIf, Holds}
use Rattle.fd_machine.proofs.Fetching.{same_count}
use Rattle.fd_machine.proofs.EveryRun.{holds}

run-push : (steps : List Step) (step : Step) (s : World) → run (steps ++ step ∷ []) s ≡ after (run steps s) step
run-push [] step s = refl
run-push (x ∷ steps) step s = run-push steps step (after s x)

pub reached_step : (s : World) (step : Step) → IsReached s → IsReached (after s step)
reached_step s step r = record { steps = r.steps ++ step ∷ []; is = run-push r.steps step start ∙ ap (λ (t : World). after t step) r.is }

pub looked : (s : World) (r : ℕ) → s.down ≡ false → after s (Look r) ≡ effect s (Look r)
looked s r up = ap (λ (b : Bool). cond (not b && true) (effect s (Look r)) s) up

few_of : (s : World) (d : Bool) → HoldsIf d s → length s.history ≤ 65535
few_of s false h = omega (arith, h.few, same_count s.files h.entries s.history h.stands)
few_of s true h = omega (arith, h.table.reads.few, same_count s.files h.entries h.found h.stands, ap length h.begins.1, length-append s.history h.begins.0)

-- the batches can be counted in 16 bits
pub reached_few : (s : World) → IsReached s → length s.history ≤ 65535
reached_few s r = few_of s s.down (subst Holds r.is (holds r.steps))

pub reached_up : (s : World) → IsReached s → s.down ≡ false → HoldsUp s
reached_up s r up = subst (λ (d : Bool). HoldsIf d s) up (subst Holds r.is (holds r.steps))

-- a writer's number fits 32 bits, also after the next release
pub reached_seq : (s : World) (w : ℕ) → IsReached s → s.down ≡ false → (writer_of s w).seq < 2 ^ 32
reached_seq s w r up = ((reached_up s r up).writers w).pairs.seq

pub reached_posted : (s : World) (w : ℕ) → IsReached s → s.down ≡ false → (writer_of s w).phase ≡ Posted → (writer_of s w).seq + 1 < 2 ^ 32
reached_posted s w r up is = let h = reached_up s r up in omega (arith, (in_phase s h w Posted is).0.seq)

pub look_done : (s : World) (r n : ℕ) (readers : List Seen) → s.down ≡ false → n ≡ length s.history → readers ≡ put_seen s.readers r n → record s { readers = readers } ≡ after s (Look r)
look_done s r n readers up count is = ap (λ (rs : List Seen). record s { readers = rs }) (is ∙ ap (λ (k : ℕ). put_seen s.readers r k) count) ∙ sym (looked s r up)

pub done : (s : World) (step : Step) → possible s step ≡ true → after s step ≡ effect s step
done s step is = ap (λ (b : Bool). cond b (effect s step) s) is

-- the writer at a place is the one of that number
pub place_is : (s : World) (w i : ℕ) (x : Writer) → IsPlace s.writers w i → slice_get s.writers i ≡ Some x → x ≡ writer_of s w
place_is s w i x place at = let here = place.writer (fresh s.table w) in cc (here, at)

-- what a step that writes this writer's record at its place has made of the list
pub place_put : (s : World) (w i : ℕ) (ws : List Writer) (f : Writer → Writer) → IsPlace s.writers w i → (f (writer_of s w)).id ≡ w
    → ((x : Writer) → slice_get s.writers i ≡ Some x → ws ≡ slice_set s.writers i (f x)) → ws ≡ put_writer s.writers (f (writer_of s w))
place_put s w i ws f place id made = made (writer_of s w) (place.writer (fresh s.table w)) ∙ sym (place.put (f (writer_of s w)) id)

-- the writer that stands there has come that far
pub phase_at : (s : World) (w i : ℕ) (p : Phase) (x : Writer) → IsAt s w i p → slice_get s.writers i ≡ Some x → x.phase ≡ p
phase_at s w i p x a at = ap (λ (y : Writer). y.phase) (place_is s w i x a.place at) ∙ a.phase

pub take_done : (s : World) (w i : ℕ) (x : Writer) (ws : List Writer) → s.down ≡ false → is_some s.owner ≡ false → length s.history < 65535 → IsPlace s.writers w i → slice_get s.writers i ≡ Some x
    → is_in_phase x Sealed ≡ true → ((x : Writer) → slice_get s.writers i ≡ Some x → ws ≡ slice_set s.writers i (in_other x Holding)) → record s { owner = Some w; writers = ws } ≡ after s (Take w)
take_done s w i x ws up free few place at sealed made =
    let phase : is_in_phase (writer_of s w) Sealed ≡ true = subst (λ (y : Writer). is_in_phase y Sealed ≡ true) (place_is s w i x place at) sealed in
    let may : possible s (Take w) ≡ true = all_true s.down (is_in_phase (writer_of s w) Sealed) (is_none s.owner) (nat_lt (length s.history) 65535) up phase (none_of s.owner free) (grind (arith, nat_tests, few)) in
    ap (λ (ws : List Writer). record s { owner = Some w; writers = ws }) (place_put s w i ws (λ x. in_other x Holding) place (id_is s w) made) ∙ sym (done s (Take w) may)
  where
    none_of : (o : Option ℕ) → is_some o ≡ false → is_none o ≡ true
    none_of None e = refl
    none_of (Some v) e = absurd (cc e)

    all_true : (d a b c : Bool) → d ≡ false → a ≡ true → b ≡ true → c ≡ true → (not d && (a && b && c)) ≡ true
    all_true d a b c ed ea eb ec = grind (arith, ed, ea, eb, ec)

pub release_done : (s : World) (w i : ℕ) (x : Writer) (ws : List Writer) → s.down ≡ false → IsPlace s.writers w i → slice_get s.writers i ≡ Some x
    → is_in_phase x Posted ≡ true → ((x : Writer) → slice_get s.writers i ≡ Some x → ws ≡ slice_set s.writers i (record { id = x.id; pairs = []; phase = Filling; seq = x.seq + 1 })) → record s { owner = None; writers = ws } ≡ after s (Release w)
release_done s w i x ws up place at posted made =
    let phase : is_in_phase (writer_of s w) Posted ≡ true = subst (λ (y : Writer). is_in_phase y Posted ≡ true) (place_is s w i x place at) posted in
    let may : possible s (Release w) ≡ true = both_true s.down (is_in_phase (writer_of s w) Posted) up phase in
    ap (λ (ws : List Writer). record s { owner = None; writers = ws }) (place_put s w i ws (λ x. record { id = x.id; pairs = []; phase = Filling; seq = x.seq + 1 }) place (id_is s w) made)
    ∙ ap (λ (v : ℕ). record s { owner = None; writers = put_writer s.writers (record { id = v; pairs = []; phase = Filling; seq = (writer_of s w).seq + 1 }) }) (id_is s w)
    ∙ sym (done s (Release w) may)
  where
    both_true : (d a : Bool) → d ≡ false → a ≡ true → (not d && a) ≡ true
    both_true d a ed ea = grind (arith, ed, ea)

-- the next number of a writer that has posted fits 32 bits
pub release_fits : (s : World) (w i : ℕ) (x y : Writer) → IsReached s → s.down ≡ false → IsPlace s.writers w i → slice_get s.writers i ≡ Some x → is_in_phase x Posted ≡ true → slice_get s.writers i ≡ Some y → y.seq + 1 < 2 ^ 32
release_fits s w i x y r up place at posted at_y =
    let same : x ≡ writer_of s w = place_is s w i x place at in
    let same_y : y ≡ writer_of s w = place_is s w i y place at_y in
    let fits = reached_posted s w r up (phase_is (writer_of s w).phase Posted (subst (λ (z : Writer). is_in_phase z Posted ≡ true) same posted)) in
    omega (arith, fits, ap (λ (z : Writer). z.seq) same_y)

pub post_done : (s : World) (w i : ℕ) (x : Writer) (b : List Pair) (hs : List (List Pair)) (ws : List Writer) → s.down ≡ false → IsPlace s.writers w i → slice_get s.writers i ≡ Some x
    → is_in_phase x Listed ≡ true → b ≡ x.pairs → hs ≡ s.history ++ b ∷ [] → ((x : Writer) → slice_get s.writers i ≡ Some x → ws ≡ slice_set s.writers i (in_other x Posted)) → record s { history = hs; writers = ws } ≡ after s (Post w)
post_done s w i x b hs ws up place at listed copied pushed made =
    let same : x ≡ writer_of s w = place_is s w i x place at in
    let phase : is_in_phase (writer_of s w) Listed ≡ true = subst (λ (y : Writer). is_in_phase y Listed ≡ true) same listed in
    let may : possible s (Post w) ≡ true = both_true s.down (is_in_phase (writer_of s w) Listed) up phase in
    let batch : hs ≡ s.history ++ (writer_of s w).pairs ∷ [] = pushed ∙ ap (λ (p : List Pair). s.history ++ p ∷ []) (copied ∙ ap (λ (y : Writer). y.pairs) same) in
    ap (λ (ws : List Writer). record s { history = hs; writers = ws }) (place_put s w i ws (λ x. in_other x Posted) place (id_is s w) made)
    ∙ ap (λ (h : List (List Pair)). record s { history = h; writers = put_writer s.writers (in_other (writer_of s w) Posted) }) batch
    ∙ sym (done s (Post w) may)
  where
    both_true : (d a : Bool) → d ≡ false → a ≡ true → (not d && a) ≡ true
    both_true d a ed ea = grind (arith, ed, ea)

-- what a step has made of the list that moves this writer from one phase to another
pub phase_put : (s : World) (w i : ℕ) (x : Writer) (ws : List Writer) (p q : Phase) → IsPlace s.writers w i → slice_get s.writers i ≡ Some x → is_in_phase x p ≡ true
    → ((x : Writer) → slice_get s.writers i ≡ Some x → ws ≡ slice_set s.writers i (in_other x q)) → (is_in_phase (writer_of s w) p ≡ true) × (ws ≡ put_writer s.writers (in_other (writer_of s w) q))
phase_put s w i x ws p q place at phase made = (
  subst (λ (y : Writer). is_in_phase y p ≡ true) (place_is s w i x place at) phase,
  place_put s w i ws (λ x. in_other x q) place (id_is s w) made,
)

pub up_and : (d a : Bool) → d ≡ false → a ≡ true → (not d && a) ≡ true
up_and d a ed ea = grind (arith, ed, ea)

pub sync_body_done : (s : World) (w i : ℕ) (x : Writer) (t : File) (ws : List Writer) → s.down ≡ false → IsPlace s.writers w i → slice_get s.writers i ≡ Some x → is_in_phase x BodyLoose ≡ true → t ≡ synced s.table
    → ((x : Writer) → slice_get s.writers i ≡ Some x → ws ≡ slice_set s.writers i (in_other x BodyFirm)) → record s { table = t; writers = ws } ≡ after s (SyncBody w)
sync_body_done s w i x t ws up place at phase is made =
    let put = phase_put s w i x ws BodyLoose BodyFirm place at phase made in
    ap (λ (t : File). record s { table = t; writers = ws }) is
    ∙ ap (λ (ws : List Writer). record s { table = synced s.table; writers = ws }) put.1
    ∙ sym (done s (SyncBody w) (up_and s.down (is_in_phase (writer_of s w) BodyLoose) up put.0))

pub sync_gate_done : (s : World) (w i : ℕ) (x : Writer) (t : File) (ws : List Writer) → s.down ≡ false → IsPlace s.writers w i → slice_get s.writers i ≡ Some x → is_in_phase x GateLoose ≡ true → t ≡ synced s.table
    → ((x : Writer) → slice_get s.writers i ≡ Some x → ws ≡ slice_set s.writers i (in_other x Listed)) → record s { table = t; writers = ws } ≡ after s (SyncGate w)
sync_gate_done s w i x t ws up place at phase is made =
    let put = phase_put s w i x ws GateLoose Listed place at phase made in
    ap (λ (t : File). record s { table = t; writers = ws }) is
    ∙ ap (λ (ws : List Writer). record s { table = synced s.table; writers = ws }) put.1
    ∙ sym (done s (SyncGate w) (up_and s.down (is_in_phase (writer_of s w) GateLoose) up put.0))

pub sync_close_done : (s : World) (w i : ℕ) (x : Writer) (t : File) (ws : List Writer) → s.down ≡ false → IsPlace s.writers w i → slice_get s.writers i ≡ Some x → is_in_phase x Closing ≡ true → t ≡ synced s.table
    → ((x : Writer) → slice_get s.writers i ≡ Some x → ws ≡ slice_set s.writers i (in_other x Holding)) → record s { table = t; doubt = None; writers = ws } ≡ after s (SyncClose w)
sync_close_done s w i x t ws up place at phase is made =
    let put = phase_put s w i x ws Closing Holding place at phase made in
    ap (λ (t : File). record s { table = t; doubt = None; writers = ws }) is
    ∙ ap (λ (ws : List Writer). record s { table = synced s.table; doubt = None; writers = ws }) put.1
    ∙ sym (done s (SyncClose w) (up_and s.down (is_in_phase (writer_of s w) Closing) up put.0))

pub gate_done : (s : World) (w i n : ℕ) (x : Writer) (t : File) (ws : List Writer) → s.down ≡ false → IsPlace s.writers w i → slice_get s.writers i ≡ Some x → is_in_phase x BodyFirm ≡ true → n ≡ length s.history → t ≡ with_gate s.table n
    → ((x : Writer) → slice_get s.writers i ≡ Some x → ws ≡ slice_set s.writers i (in_other x GateLoose)) → record s { table = t; writers = ws } ≡ after s (Gate w)
gate_done s w i n x t ws up place at phase count is made =
    let put = phase_put s w i x ws BodyFirm GateLoose place at phase made in
    ap (λ (t : File). record s { table = t; writers = ws }) (is ∙ ap (λ (n : ℕ). with_gate s.table n) count)
    ∙ ap (λ (ws : List Writer). record s { table = with_gate s.table (length s.history); writers = ws }) put.1
    ∙ sym (done s (Gate w) (up_and s.down (is_in_phase (writer_of s w) BodyFirm) up put.0))

pub close_gate_done : (s : World) (w i n : ℕ) (x : Writer) (t : File) (ws : List Writer) → s.down ≡ false → is_some s.doubt ≡ true → IsPlace s.writers w i → slice_get s.writers i ≡ Some x → is_in_phase x Holding ≡ true → n ≡ length s.history → t ≡ with_closed s.table n
    → ((x : Writer) → slice_get s.writers i ≡ Some x → ws ≡ slice_set s.writers i (in_other x Closing)) → record s { table = t; writers = ws } ≡ after s (CloseGate w)
close_gate_done s w i n x t ws up doubt place at phase count is made =
    let put = phase_put s w i x ws Holding Closing place at phase made in
    ap (λ (t : File). record s { table = t; writers = ws }) (is ∙ ap (λ (n : ℕ). with_closed s.table n) count)
    ∙ ap (λ (ws : List Writer). record s { table = with_closed s.table (length s.history); writers = ws }) put.1
    ∙ sym (done s (CloseGate w) (up_and s.down (is_in_phase (writer_of s w) Holding && is_some s.doubt) up (and_true (is_in_phase (writer_of s w) Holding) (is_some s.doubt) put.0 doubt)))
