use Rattle.std.proofs.Common.{◌≡◌, refl, ◌%◌, arith}
use Rattle.fd_templates.specs.Octets.{octets_of}
use Rattle.fd_templates.specs.Ensemble.{member_octets}
use Rattle.fd_templates.proofs.ensemble.octets.Goals as goal

pub returns : goal.returns
unfolding octets_of member_octets
returns c =
    let o1 : c.args.ensemble.kind % 256 ≡ c.args.ensemble.kind = omega arith in
    let o2 : c.args.ensemble.number % 256 ≡ c.args.ensemble.number = omega arith in
    let o3 : c.args.ensemble.size % 256 ≡ c.args.ensemble.size = omega arith in
    rw (o1, o2, o3) refl
