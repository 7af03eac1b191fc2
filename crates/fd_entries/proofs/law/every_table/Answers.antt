use Rattle.fd_entries.proofs.Faults.{fault_named, named_fault}
use Rattle.fd_entries.proofs.Inverse.{table_listed}
use Rattle.fd_entries.proofs.Octets.{first_of, of_first}
use Rattle.fd_entries.proofs.Slots.{listed_table}
use Rattle.fd_entries.proofs.TableVectors.{examples}
use Rattle.fd_entries.proofs.law.every_table.Goals as goal

pub returns-clause-entries : goal.returns-clause-entries
returns-clause-entries c = λ dataset bytes es short octets. ((λ is. table_listed dataset bytes es short octets is), (λ t. listed_table dataset es bytes t))

pub returns-clause-examples : goal.returns-clause-examples
returns-clause-examples c = examples

pub returns-clause-faults : goal.returns-clause-faults
returns-clause-faults c = λ dataset bytes f short octets. ((λ is. fault_named dataset bytes f short octets is), (λ t. named_fault dataset bytes f short t))

pub returns-clause-octets : goal.returns-clause-octets
returns-clause-octets c = λ at pattern bytes f. ((λ is. first_of at pattern bytes f is), (λ r. of_first at pattern bytes f r))
