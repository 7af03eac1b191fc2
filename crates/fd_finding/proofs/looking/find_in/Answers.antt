use Rattle.std.proofs.Common.{map}
use Rattle.fd_finding.proofs.Keys.{stands_at_opening, untold_opened}
use Rattle.fd_finding.specs.Searching.{key_of}
use Rattle.fd_finding.proofs.looking.find_in.Goals as goal

pub returns-in-Err-clause-damaged : goal.returns-in-Err-clause-damaged
returns-in-Err-clause-damaged g c = stands_at_opening c.in-Err.fault c.args.segment.now.files (map key_of c.args.sought.now) c.in-Err.ensures.damaged c.in-Err.ensures.part

pub returns-in-Err-clause-sound : goal.returns-in-Err-clause-sound
returns-in-Err-clause-sound g c = untold_opened c.in-Err.fault c.args.segment.now.files c.in-Err.ensures.damaged
