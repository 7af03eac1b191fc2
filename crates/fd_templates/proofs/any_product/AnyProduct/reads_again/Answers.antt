use Rattle.fd_templates.proofs.AnyAgain.{any_again, any_section}
use Rattle.fd_templates.proofs.any_product.AnyProduct.reads_again.Goals as goal

pub returns-clause-section : goal.returns-clause-section
returns-clause-section c = any_section c.args.self.now c.in_range.ensures

pub returns-clause-again : goal.returns-clause-again
returns-clause-again c = any_again c.args.self.now c.requires c.in_range.ensures
