use Rattle.std.proofs.Common.{Some, ap}
use Rattle.fd_file_mem.specs.Calls.{Synced}
use Rattle.fd_file_mem.proofs.CallLemmas.{file_called, synced_called, extent_called, elapses_called}
use Rattle.fd_file_mem.proofs.disk.MemDiskDiskMemFault.sync.Goals as goal

pub returns-clause-ok : goal.returns-clause-ok
returns-clause-ok c = ap Some (file_called c.args.self.now.file c.sync.new.self Synced c.sync.ensures)

pub returns-clause-synced : goal.returns-clause-synced
returns-clause-synced c = synced_called c.args.self.now.file c.sync.new.self Synced c.sync.ensures

pub returns-clause-extent : goal.returns-clause-extent
returns-clause-extent c = extent_called c.args.self.now.file c.sync.new.self Synced c.sync.ensures

pub returns-clause-time : goal.returns-clause-time
returns-clause-time c = elapses_called c.args.self.now.file c.sync.new.self Synced c.sync.ensures
