use Rattle.std.proofs.Common.{◌≡◌, ◌+◌, ◌<◌, ◌≤◌, false, ℕ, List, length, drop, sym, ◌∙◌, ap, subst}
use Rattle.fd_disk.specs.declared.folders.FileName.{FileName}
use Rattle.fd_disk.specs.declared.folders.FileKind.{FileKind}
use Rattle.fd_disk.specs.declared.folders.FileKind.TheVariants.{Fields, Index}
use Rattle.fd_entries.specs.declared.table.Entry.{Entry}
use Rattle.fd_entries.specs.Table.{entry_in, gate_at}
use Rattle.fd_entries.specs.Batches.{HoldBatch}
use Rattle.fd_machine.specs.World.{World}
use Rattle.fd_machine.specs.Machine.{file_of}
use Rattle.fd_machine.proofs.Reached.{reached_up}
use Rattle.fd_machine.proofs.OpenSteps.{slot_held, slot_small, slot_whole}
use Rattle.fd_core.proofs.fetch_step.of_slot.Goals as goal

pub entry_at-entry-requires-clause-number : goal.entry_at-entry-requires-clause-number
entry_at-entry-requires-clause-number c =
    let s : World = record { table = c.state.inside.table; files = c.state.inside.files; history = c.state.inside.history; writers = c.state.inside.writers; owner = c.state.inside.owner; doubt = c.state.inside.doubt; readers = c.state.inside.readers; down = c.state.inside.down } in
    let up : s.down ≡ false = ap (λ (t : World). t.down) c.state.view_is ∙ c.requires.up in
    let lt : c.args.slot < length s.history = subst (λ (t : World). c.args.slot < length t.history) (sym c.state.view_is) c.requires.listed in
    slot_small s (reached_up s c.state.invariant up) c.args.slot lt

pub entry_at-entry-requires-clause-whole : goal.entry_at-entry-requires-clause-whole
entry_at-entry-requires-clause-whole c =
    let s : World = record { table = c.state.inside.table; files = c.state.inside.files; history = c.state.inside.history; writers = c.state.inside.writers; owner = c.state.inside.owner; doubt = c.state.inside.doubt; readers = c.state.inside.readers; down = c.state.inside.down } in
    let up : s.down ≡ false = ap (λ (t : World). t.down) c.state.view_is ∙ c.requires.up in
    let lt : c.args.slot < length s.history = subst (λ (t : World). c.args.slot < length t.history) (sym c.state.view_is) c.requires.listed in
    subst (λ (l : List ℕ). gate_at c.args.slot + 64 ≤ length l) (sym c.as_slice.ensures) (slot_whole s (reached_up s c.state.invariant up) c.args.slot lt)

pub newest_in-requires : goal.newest_in-requires
newest_in-requires c =
    let s : World = record { table = c.state.inside.table; files = c.state.inside.files; history = c.state.inside.history; writers = c.state.inside.writers; owner = c.state.inside.owner; doubt = c.state.inside.doubt; readers = c.state.inside.readers; down = c.state.inside.down } in
    let up : s.down ≡ false = ap (λ (t : World). t.down) c.state.view_is ∙ c.requires.up in
    let lt : c.args.slot < length s.history = subst (λ (t : World). c.args.slot < length t.history) (sym c.state.view_is) c.requires.listed in
    let held = slot_held s (reached_up s c.state.invariant up) c.args.slot lt in
    let e : entry_in (drop (gate_at c.args.slot + 1) s.table.reads) ≡ c.entry_at-entry.result = ap (λ (l : List ℕ). entry_in (drop (gate_at c.args.slot + 1) l)) (sym c.as_slice.ensures) ∙ sym c.entry_at-entry.ensures in
    let name : FileKind → Entry → FileName = λ k e. record { writer = e.writer; seq = e.seq; kind = k } in
    let index = ap (λ (e : Entry). (file_of s.files (name Index e)).reads) e ∙ ap (λ (n : FileName). (file_of s.files n).reads) (sym c.file_name.ensures) ∙ sym c.reads_of-index.ensures in
    let fields = ap (λ (e : Entry). (file_of s.files (name Fields e)).reads) e ∙ ap (λ (n : FileName). (file_of s.files n).reads) (sym c.file_name-2.ensures) ∙ sym c.reads_of-fields.ensures in
    subst (λ (l : List ℕ). HoldBatch c.reads_of-index.result.now l) fields (subst (λ (l : List ℕ). HoldBatch l (file_of s.files (name Fields (entry_in (drop (gate_at c.args.slot + 1) s.table.reads)))).reads) index held)
