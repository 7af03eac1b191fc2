use Rattle.std.proofs.Common.{rules}
use Rattle.fd_store_tests.specs.Rows.{untold}
use Rattle.fd_store_tests.proofs.turn.list_one.Goals as goal

pub post-requires-clause-next : goal.post-requires-clause-next
post-requires-clause-next g c = (untold c.entry.result, search rules)
