use Rattle.fd_trial.proofs.Giving.{given_so, never}
use Rattle.fd_trial.proofs.command.given.Goals as goal

pub returns-in-Ok : goal.returns-in-Ok
returns-in-Ok c = given_so _ c.in-Ok.ensures

pub unreachable-requires : goal.unreachable-requires
unreachable-requires c = never _ _ _ c.in-Err-Pair.field-0-is c.in-Err-Pair.ensures (λ r. r)

pub unreachable-requires-in-Err-Clash : goal.unreachable-requires-in-Err-Clash
unreachable-requires-in-Err-Clash c = never _ _ _ c.in-Err-Clash.field-0-is c.in-Err-Clash.ensures (λ r. r)

pub unreachable-requires-in-Err-Twice : goal.unreachable-requires-in-Err-Twice
unreachable-requires-in-Err-Twice c = never _ _ _ c.in-Err-Twice.field-0-is c.in-Err-Twice.ensures (λ r. r)
