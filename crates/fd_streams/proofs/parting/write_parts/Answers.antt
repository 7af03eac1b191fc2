use Rattle.fd_split.specs.Reading.{reading_fields}
use Rattle.fd_streams.proofs.PartSteps.{unsplit_halts}
use Rattle.fd_streams.proofs.parting.write_parts.Goals as goal

pub returns-in-Err-clause-halted : goal.returns-in-Err-clause-halted
returns-in-Err-clause-halted g c = unsplit_halts c.in-Err.fault (reading_fields c.args.octets.now) c.args.number (g.K.Sink.taken c.args.output.now) c.unsplit.result c.in-Err.ensures.opened c.unsplit.ensures.halted c.unsplit.ensures.starved

pub returns-in-Err-clause-cause : goal.returns-in-Err-clause-cause
returns-in-Err-clause-cause g c = c.unsplit.ensures.calm _
