use Rattle.std.proofs.Common.{◌≡◌, ℕ, List, true, false, sym, ◌∙◌, ap, subst, [], ◌∷◌, ◌++◌}
use Rattle.fd_machine.specs.World.{World}
use Rattle.fd_machine.specs.Took.{IsReached}
use Rattle.fd_machine.specs.Machine.{after}
use Rattle.fd_machine.specs.declared.machine.Step.TheVariants.{Put}
use Rattle.fd_machine.proofs.Reached.{reached_step}
use Rattle.fd_machine.proofs.PutSteps.{put_first_done}
use Rattle.fd_machine.specs.Machine.{can_put, file_of, filled, put_file, writer_in, writer_of}
use Rattle.fd_entries.specs.declared.batch.Pair.{Pair}
use Rattle.fd_machine.specs.declared.machine.Phase.TheVariants.{Filling}
use Rattle.fd_machine.specs.declared.machine.Writer.{Writer}
use Rattle.fd_disk.specs.Images.{written}
use Rattle.fd_core.proofs.put_step.put_first.Goals as goal

pub returns-clause-ok : goal.returns-clause-ok
returns-clause-ok c =
    let s : World = record { table = c.state.inside.table; files = c.state.inside.files; history = c.state.inside.history; writers = c.state.inside.writers; owner = c.state.inside.owner; doubt = c.state.inside.doubt; readers = c.state.inside.readers; down = c.state.inside.down } in
    let p : Pair = c.args.pair in
    let up : s.down ≡ false = ap (λ (t : World). t.down) c.state.view_is ∙ c.requires.up in
    let unknown = subst (λ (t : World). (o : Writer) → writer_in t.writers c.args.w o ≡ o) (sym c.state.view_is) c.requires.unknown in
    let x : Writer = record { id = c.args.w; pairs = c.new.result; phase = Filling; seq = c.first_seq.result } in
    let may : can_put x p.key p.bytes ≡ true = (ap (λ (l : List ℕ). can_put x l p.bytes) (sym c.as_slice.ensures) ∙ ap (λ (l : List ℕ). can_put x c.as_slice.result.now l) (sym c.as_slice-2.ensures) ∙ sym c.can_put.ensures ∙ c.if-not-can_put.false) in
    let first : x ≡ record { id = c.args.w; pairs = []; phase = Filling; seq = (writer_of s c.args.w).seq } = ap (λ (l : List Pair). record { id = c.args.w; pairs = l; phase = Filling; seq = c.first_seq.result }) c.new.ensures ∙ ap (λ (q : ℕ). record { id = c.args.w; pairs = []; phase = Filling; seq = q }) (c.first_seq.ensures ∙ ap (λ (t : World). (writer_of t c.args.w).seq) (sym c.state.view_is)) in
    put_first_done s c.args.w x (filled x c.push.new.self) c.file-name.result p c.add_writer.new.files c.add_writer.new.writers up unknown first may c.file-name.ensures
    (c.in_ok-add_writer.ensures.files ∙ ap (put_file s.files c.file-name.result) (c.in_ok-file.ensures ∙ ap (written (file_of s.files c.file-name.result) 0) c.as_slice-3.ensures))
    (ap (filled x) (c.in_ok-push.ensures.ok ∙ ap (λ (l : List Pair). l ++ p ∷ []) c.new.ensures)) c.in_ok-add_writer.ensures.writers
    ∙ ap (λ (t : World). after t (Put c.args.w c.args.pair.key c.args.pair.bytes)) c.state.view_is

pub invariant_of-state-2 : goal.invariant_of-state-2
invariant_of-state-2 c = subst IsReached (sym (returns-clause-ok c)) (subst (λ (t : World). IsReached (after t (Put c.args.w c.args.pair.key c.args.pair.bytes))) c.state.view_is (reached_step _ (Put c.args.w c.args.pair.key c.args.pair.bytes) c.state.invariant))
