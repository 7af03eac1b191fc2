use Rattle.fd_bulk.proofs.Tables.{are_tables}
use Rattle.fd_bulk.proofs.laws.every_table.Goals as goal

pub returns : goal.returns
returns c = are_tables
