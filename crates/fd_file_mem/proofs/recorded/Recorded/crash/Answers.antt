use Rattle.std.proofs.Common.{subst}
use Rattle.fd_disk.specs.declared.file.File.{File}
use Rattle.fd_disk.specs.Images.{IsImage}
use Rattle.fd_file_mem.specs.Calls.{with_bytes}
use Rattle.fd_file_mem.specs.Past.{reads_image}
use Rattle.fd_file_mem.proofs.recorded.Recorded.crash.Goals as goal

pub leave-requires-clause-image : goal.leave-requires-clause-image
leave-requires-clause-image c =
    let old = c.self.inside in
    subst (λ (f : File). IsImage f f.reads) c.self.invariant.file (reads_image old.start.items (with_bytes old.marks.items old.written.items))
