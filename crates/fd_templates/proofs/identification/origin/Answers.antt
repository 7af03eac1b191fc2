use Rattle.std.proofs.Common.{◌≡◌, refl, ◌%◌, arith}
use Rattle.fd_templates.specs.Octets.{octets_of}
use Rattle.fd_templates.specs.Identification.{origin_octets}
use Rattle.fd_templates.proofs.identification.origin.Goals as goal

pub returns : goal.returns
unfolding octets_of origin_octets
returns c =
    let o1 : c.args.ident.master_tables_version % 256 ≡ c.args.ident.master_tables_version = omega arith in
    let o2 : c.args.ident.local_tables_version % 256 ≡ c.args.ident.local_tables_version = omega arith in
    let o3 : c.args.ident.reference_time_significance % 256 ≡ c.args.ident.reference_time_significance = omega arith in
    rw (c.to_be_bytes-centre.ensures, c.to_be_bytes-sub_centre.ensures, o1, o2, o3) refl
