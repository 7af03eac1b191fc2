use Rattle.std.proofs.Common.{subst}
use Rattle.fd_retriever.specs.Answers.{IsAnswer}
use Rattle.fd_retrieve.proofs.CountingLemmas.{found_length, missed_length}
use Rattle.fd_retrieve.proofs.counting.count_one.Goals as goal

pub returns-in-Ok-Found-clause-one : goal.returns-in-Ok-Found-clause-one
returns-in-Ok-Found-clause-one g c = λ bytes there. rw c.in-Ok-Found.field-0-is (found_length bytes c.in-Ok-Found.len _ _ (subst (IsAnswer bytes _ _) c.in-Ok-Found.field-0-is (c.in-Ok-Found.ensures.answer bytes there)))

pub returns-in-Ok-Miss-clause-one : goal.returns-in-Ok-Miss-clause-one
returns-in-Ok-Miss-clause-one g c = λ bytes there. missed_length bytes _ _ (subst (IsAnswer bytes _ _) c.in-Ok-Miss.field-0-is (c.in-Ok-Miss.ensures.answer bytes there))
