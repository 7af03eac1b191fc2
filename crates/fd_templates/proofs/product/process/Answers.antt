use Rattle.std.proofs.Common.{◌≡◌, refl, ◌%◌, arith}
use Rattle.fd_templates.specs.Octets.{octets_of}
use Rattle.fd_templates.specs.Product.{process_octets}
use Rattle.fd_templates.proofs.product.process.Goals as goal

pub returns : goal.returns
unfolding octets_of process_octets
returns c =
    let o1 : c.args.product.category % 256 ≡ c.args.product.category = omega arith in
    let o2 : c.args.product.parameter % 256 ≡ c.args.product.parameter = omega arith in
    let o3 : c.args.product.generating_process_type % 256 ≡ c.args.product.generating_process_type = omega arith in
    let o4 : c.args.product.background_process % 256 ≡ c.args.product.background_process = omega arith in
    let o5 : c.args.product.process_identifier % 256 ≡ c.args.product.process_identifier = omega arith in
    rw (o1, o2, o3, o4, o5) refl
