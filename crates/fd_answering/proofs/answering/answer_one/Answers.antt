use Rattle.std.proofs.Common.{subst}
use Rattle.fd_retriever.specs.Answers.{IsAnswer}
use Rattle.fd_answering.proofs.AnsweringLemmas.{found_one, front_one, missed_one, untold_one}
use Rattle.fd_answering.proofs.DamageLemmas.{told_at}
use Rattle.fd_answering.proofs.answering.answer_one.Goals as goal

pub returns-in-Err-clause-halted : goal.returns-in-Err-clause-halted
returns-in-Err-clause-halted g c = λ bytes key there at. untold_one _ key _ _ _ _ (subst (λ got. IsAnswer bytes (g.K.Sink.taken c.args.output.now) (g.K.Sink.taken c.write_found.new.sink) got) c.in-Ok-Miss.field-0-is (c.in-Ok-Miss.ensures.answer bytes there)) (c.in-Err.ensures.front key at)

pub returns-in-Err-Disk-clause-halted : goal.returns-in-Err-Disk-clause-halted
returns-in-Err-Disk-clause-halted g c = λ bytes key there at. front_one _ key _ _ _ (c.in-Err-Disk.ensures.err bytes there)

pub returns-in-Err-Write-clause-halted : goal.returns-in-Err-Write-clause-halted
returns-in-Err-Write-clause-halted g c = λ bytes key there at. front_one _ key _ _ _ (c.in-Err-Write.ensures.err bytes there)

pub returns-in-Err-Damaged-clause-halted : goal.returns-in-Err-Damaged-clause-halted
returns-in-Err-Damaged-clause-halted g c = λ bytes key there at. front_one _ key _ _ _ (c.in-Err-Damaged.ensures.err bytes there)

pub returns-in-Err-NoMemory-clause-halted : goal.returns-in-Err-NoMemory-clause-halted
returns-in-Err-NoMemory-clause-halted g c = λ bytes key there at. front_one _ key _ _ _ (c.in-Err-NoMemory.ensures.err bytes there)

pub returns-in-Err-Damaged-clause-damaged : goal.returns-in-Err-Damaged-clause-damaged
returns-in-Err-Damaged-clause-damaged g c = told_at c.damaged_at.result c.args.opened.now c.args.located c.in-Err-Damaged.damage (rw c.in-Err-Damaged.field-0-is at c.damaged_at.ensures.damaged) (rw c.in-Err-Damaged.field-0-is at c.in-Err-Damaged.ensures.damaged)

pub returns-in-Ok-Found-clause-one : goal.returns-in-Ok-Found-clause-one
returns-in-Ok-Found-clause-one g c = λ bytes key there at. found_one bytes key _ _ _ _ (subst (λ got. IsAnswer bytes (g.K.Sink.taken c.args.output.now) (g.K.Sink.taken c.write_found.new.sink) got) c.in-Ok-Found.field-0-is (c.in-Ok-Found.ensures.answer bytes there))

pub returns-in-Ok-clause-one : goal.returns-in-Ok-clause-one
returns-in-Ok-clause-one g c = λ bytes key there at. missed_one bytes key _ _ _ _ (subst (λ got. IsAnswer bytes (g.K.Sink.taken c.args.output.now) (g.K.Sink.taken c.write_found.new.sink) got) c.in-Ok-Miss.field-0-is (c.in-Ok-Miss.ensures.answer bytes there)) (c.in-Ok.ensures.took key at)
