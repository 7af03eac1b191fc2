use Rattle.std.proofs.Common.{arith}
use Rattle.fd_io.proofs.Bytes.{read_front}
use Rattle.fd_io.proofs.memory.MemSourceSourceMemIoFault.read.Goals as goal

pub returns-clause-given : goal.returns-clause-given
returns-clause-given c =
    let s = c.args.self.now in
    read_front s.at c.min-n.result s.bytes.items c.copy_from_slice.new.self c.args.into.now (omega arith) (cc c.copy_from_slice.ensures.after)
