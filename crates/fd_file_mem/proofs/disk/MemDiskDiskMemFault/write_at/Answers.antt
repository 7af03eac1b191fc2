use Rattle.std.proofs.Common.{inr, Some, length, ap}
use Rattle.fd_file_mem.specs.Calls.{Wrote, Failed, file_of}
use Rattle.fd_file_mem.proofs.CallLemmas.{disturbed, file_called, synced_called, extent_called, elapses_called}
use Rattle.fd_file_mem.proofs.disk.MemDiskDiskMemFault.write_at.Goals as goal

pub returns-clause-ok : goal.returns-clause-ok
returns-clause-ok c = ap Some (file_called c.args.self.now.file c.write.new.self (Wrote c.args.at c.args.bytes.now) c.write.ensures)

pub returns-clause-synced : goal.returns-clause-synced
returns-clause-synced c = synced_called c.args.self.now.file c.write.new.self (Wrote c.args.at c.args.bytes.now) c.write.ensures

pub returns-clause-extent : goal.returns-clause-extent
returns-clause-extent c = extent_called c.args.self.now.file c.write.new.self (Wrote c.args.at c.args.bytes.now) c.write.ensures

pub returns-clause-time : goal.returns-clause-time
returns-clause-time c = elapses_called c.args.self.now.file c.write.new.self (Wrote c.args.at c.args.bytes.now) c.write.ensures

pub returns-then-is_to_fail-clause-err : goal.returns-then-is_to_fail-clause-err
returns-then-is_to_fail-clause-err c =
    let f = file_of c.args.self.now.file in
    let is = file_called c.args.self.now.file c.fail_write.new.self (Failed c.args.at (length c.args.bytes.now)) c.fail_write.ensures in
    inr (disturbed f c.args.at (length c.args.bytes.now) (file_of c.fail_write.new.self) is)

pub returns-then-is_to_fail-clause-synced_err : goal.returns-then-is_to_fail-clause-synced_err
returns-then-is_to_fail-clause-synced_err c is = absurd (cc (is, synced_called c.args.self.now.file c.fail_write.new.self (Failed c.args.at (length c.args.bytes.now)) c.fail_write.ensures))

pub returns-then-is_to_fail-clause-extent_err : goal.returns-then-is_to_fail-clause-extent_err
returns-then-is_to_fail-clause-extent_err c = extent_called c.args.self.now.file c.fail_write.new.self (Failed c.args.at (length c.args.bytes.now)) c.fail_write.ensures

pub returns-then-is_to_fail-clause-loose : goal.returns-then-is_to_fail-clause-loose
returns-then-is_to_fail-clause-loose c _ = file_called c.args.self.now.file c.fail_write.new.self (Failed c.args.at (length c.args.bytes.now)) c.fail_write.ensures
