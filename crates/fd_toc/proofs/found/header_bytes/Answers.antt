use Rattle.fd_toc.proofs.Filled.{filled}
use Rattle.fd_toc.proofs.found.header_bytes.Goals as goal

pub returns-clause-bytes : goal.returns-clause-bytes
returns-clause-bytes c = filled c.args.dataset.now c.in_ok-bytes.bytes.items c.resize.new.self.items c.in_ok-bytes.bytes.len c.requires c.in_ok-bytes.ensures (c.in_ok-bytes.bytes.ok.0) c.in_ok-resize.ensures.items
