use Rattle.std.proofs.Common.{rules}
use Rattle.fd_segment.specs.Causes.{IsBadFrame, OnDamaged}
use Rattle.fd_segment.proofs.Looking.{frame_index}
use Rattle.fd_segment.proofs.segment.Segment.lens.Goals as goal

pub returns-in-Err-clause-damaged : goal.returns-in-Err-clause-damaged
returns-in-Err-clause-damaged g c =
    let part : OnDamaged c.lens_fault.result (IsBadFrame c.args.self.now.files.entry c.args.self.now.files.index) = search rules in
    frame_index c.args.self.now.files c.lens_fault.result part
