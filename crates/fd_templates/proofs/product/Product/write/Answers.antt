use Rattle.std.proofs.Common.{sym}
use Rattle.fd_templates.proofs.Based.{octets_alone}
use Rattle.fd_templates.proofs.product.Product.write.Goals as goal

pub returns-clause-ok : goal.returns-clause-ok
returns-clause-ok c = rw (sym (octets_alone c.args.self.now)) c.write.ensures.ok
