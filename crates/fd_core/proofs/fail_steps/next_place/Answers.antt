use Rattle.std.proofs.Common.{◌≡◌, false, ◌∙◌, ap, arith}
use Rattle.fd_machine.specs.World.{World}
use Rattle.fd_core.proofs.FillSteps.{place_bounded}
use Rattle.fd_core.proofs.fail_steps.next_place.Goals as goal

pub total_of-requires : goal.total_of-requires
total_of-requires c =
    let s : World = record { table = c.state.inside.table; files = c.state.inside.files; history = c.state.inside.history; writers = c.state.inside.writers; owner = c.state.inside.owner; doubt = c.state.inside.doubt; readers = c.state.inside.readers; down = c.state.inside.down } in
    let up : s.down ≡ false = ap (λ (t : World). t.down) c.state.view_is ∙ c.requires in
    (place_bounded s c.args.w c.in-Some.i c.at-writer.result.now c.state.invariant up c.in-Some.ensures.some c.at-writer.ensures).sum

pub returns-in-Some-clause-fits : goal.returns-in-Some-clause-fits
returns-in-Some-clause-fits c =
    let s : World = record { table = c.state.inside.table; files = c.state.inside.files; history = c.state.inside.history; writers = c.state.inside.writers; owner = c.state.inside.owner; doubt = c.state.inside.doubt; readers = c.state.inside.readers; down = c.state.inside.down } in
    let up : s.down ≡ false = ap (λ (t : World). t.down) c.state.view_is ∙ c.requires in
    let sum = (place_bounded s c.args.w c.in-Some.i c.at-writer.result.now c.state.invariant up c.in-Some.ensures.some c.at-writer.ensures).sum in
    omega (arith, sum, c.total_of.ensures)
