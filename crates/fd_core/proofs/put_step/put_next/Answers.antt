use Rattle.std.proofs.Common.{◌≡◌, ℕ, List, true, false, sym, ◌∙◌, ap, subst, arith, length}
use Rattle.fd_machine.specs.World.{World}
use Rattle.fd_machine.specs.Took.{IsReached}
use Rattle.fd_machine.specs.Machine.{after}
use Rattle.fd_machine.specs.declared.machine.Step.TheVariants.{Put}
use Rattle.fd_machine.proofs.Reached.{reached_step, place_is}
use Rattle.fd_machine.proofs.PutSteps.{put_fits, put_next_done}
use Rattle.fd_entries.specs.Batches.{total}
use Rattle.fd_machine.specs.Machine.{can_put, fields_name, file_of, put_file, writer_of}
use Rattle.fd_machine.specs.Took.{IsPlace}
use Rattle.fd_entries.specs.declared.batch.Pair.{Pair}
use Rattle.fd_machine.specs.declared.machine.Writer.{Writer}
use Rattle.fd_disk.specs.Images.{written}
use Rattle.fd_core.proofs.FillSteps.{place_bounded}
use Rattle.fd_core.proofs.put_step.put_next.Goals as goal

pub can_put-requires : goal.can_put-requires
can_put-requires c =
    let s : World = record { table = c.state.inside.table; files = c.state.inside.files; history = c.state.inside.history; writers = c.state.inside.writers; owner = c.state.inside.owner; doubt = c.state.inside.doubt; readers = c.state.inside.readers; down = c.state.inside.down } in
    let up : s.down ≡ false = ap (λ (t : World). t.down) c.state.view_is ∙ c.requires.up in
    let place = subst (λ (t : World). IsPlace t.writers c.args.w c.args.i) (sym c.state.view_is) c.requires.place in
    place_bounded s c.args.w c.args.i c.at-writer.result.now c.state.invariant up place c.at-writer.ensures

pub written-requires : goal.written-requires
written-requires c =
    let s : World = record { table = c.state.inside.table; files = c.state.inside.files; history = c.state.inside.history; writers = c.state.inside.writers; owner = c.state.inside.owner; doubt = c.state.inside.doubt; readers = c.state.inside.readers; down = c.state.inside.down } in
    let p : Pair = c.args.pair in
    let place = subst (λ (t : World). IsPlace t.writers c.args.w c.args.i) (sym c.state.view_is) c.requires.place in
    let may : can_put c.at-writer.result.now p.key p.bytes ≡ true = (ap (λ (l : List ℕ). can_put c.at-writer.result.now l p.bytes) (sym c.as_slice.ensures) ∙ ap (λ (l : List ℕ). can_put c.at-writer.result.now c.as_slice.result.now l) (sym c.as_slice-2.ensures) ∙ sym c.can_put.ensures ∙ c.if-not-can_put.false) in
    let fits = put_fits c.at-writer.result.now p.key p.bytes may in
    let sum : c.next_place-at.result.1 ≡ total c.at-writer.result.now.pairs = c.next_place-at.ensures.at ∙ ap (λ (t : World). total (writer_of t c.args.w).pairs) (sym c.state.view_is) ∙ ap (λ (y : Writer). total y.pairs) (sym (place_is s c.args.w c.args.i c.at-writer.result.now place c.at-writer.ensures)) in
    omega (arith, fits, sum, ap length c.as_slice-3.ensures)

pub returns-clause-ok : goal.returns-clause-ok
returns-clause-ok c =
    let s : World = record { table = c.state.inside.table; files = c.state.inside.files; history = c.state.inside.history; writers = c.state.inside.writers; owner = c.state.inside.owner; doubt = c.state.inside.doubt; readers = c.state.inside.readers; down = c.state.inside.down } in
    let p : Pair = c.args.pair in
    let up : s.down ≡ false = ap (λ (t : World). t.down) c.state.view_is ∙ c.requires.up in
    let place = subst (λ (t : World). IsPlace t.writers c.args.w c.args.i) (sym c.state.view_is) c.requires.place in
    let may : can_put c.at-writer.result.now p.key p.bytes ≡ true = (ap (λ (l : List ℕ). can_put c.at-writer.result.now l p.bytes) (sym c.as_slice.ensures) ∙ ap (λ (l : List ℕ). can_put c.at-writer.result.now c.as_slice.result.now l) (sym c.as_slice-2.ensures) ∙ sym c.can_put.ensures ∙ c.if-not-can_put.false) in
    put_next_done s c.args.w c.args.i c.next_place-at.result.1 c.at-writer.result.now c.next_place-at.result.0 p c.add_pair.new.files c.add_pair.new.writers up place c.at-writer.ensures may
    (c.next_place-at.ensures.name ∙ ap (λ (t : World). fields_name (writer_of t c.args.w)) (sym c.state.view_is)) (c.next_place-at.ensures.at ∙ ap (λ (t : World). total (writer_of t c.args.w).pairs) (sym c.state.view_is))
    (c.in_ok-add_pair.ensures.files ∙ ap (put_file s.files c.next_place-at.result.0) (c.in_ok-file.ensures ∙ ap (written (file_of s.files c.next_place-at.result.0) c.next_place-at.result.1) c.as_slice-3.ensures)) c.in_ok-add_pair.ensures.writers
    ∙ ap (λ (t : World). after t (Put c.args.w c.args.pair.key c.args.pair.bytes)) c.state.view_is

pub invariant_of-state-2 : goal.invariant_of-state-2
invariant_of-state-2 c = subst IsReached (sym (returns-clause-ok c)) (subst (λ (t : World). IsReached (after t (Put c.args.w c.args.pair.key c.args.pair.bytes))) c.state.view_is (reached_step _ (Put c.args.w c.args.pair.key c.args.pair.bytes) c.state.invariant))
