use Rattle.fd_sections.proofs.Joins.{all_ended, all_refused}
use Rattle.fd_sections.proofs.law.every_splitting.Goals as goal

pub returns-clause-whole : goal.returns-clause-whole
returns-clause-whole c = all_ended

pub returns-clause-refused : goal.returns-clause-refused
returns-clause-refused c = all_refused
