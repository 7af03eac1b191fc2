use Rattle.std.proofs.Common.{rules, ◌≡◌, refl}
use Rattle.fd_bytes.specs.Causes.{Rose}
use Rattle.fd_contents.specs.Told.{AreStarved, AreUnwritten, AreWritten}
use Rattle.fd_contents.proofs.telling.print_lines.Goals as goal

pub returns-in-Ok : goal.returns-in-Ok
returns-in-Ok g c =
    let calm : g.K.Sink.faults c.write_lines.new.sink ≡ g.K.Sink.faults c.args.output.now = search rules in
    AreWritten refl c.in-Ok.ensures.took calm refl

pub returns-in-Err-Write : goal.returns-in-Err-Write
returns-in-Err-Write g c =
    let failed : Rose (g.K.Sink.faults c.args.output.now) (g.K.Sink.faults c.write_lines.new.sink) = search rules in
    AreUnwritten c.in-Err-Write.ensures.front failed c.tell_output_failed.ensures

pub returns : goal.returns
returns g c =
    let calm : g.K.Sink.faults c.write_lines.new.sink ≡ g.K.Sink.faults c.args.output.now = search rules in
    AreStarved c.in-Err-NoMemory.ensures.front calm c.tell_no_memory.ensures
