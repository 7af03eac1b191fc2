use Rattle.std.proofs.Common.{◌≡◌, refl, ◌%◌, arith}
use Rattle.fd_templates.specs.Octets.{octets_of}
use Rattle.fd_templates.specs.Identification.{identification_octets, origin_octets}
use Rattle.fd_templates.specs.DateTime.{date_time_octets}
use Rattle.fd_templates.proofs.identification.section.Goals as goal

pub returns : goal.returns
unfolding octets_of identification_octets origin_octets date_time_octets
returns c =
    let o1 : c.args.ident.production_status % 256 ≡ c.args.ident.production_status = omega arith in
    let o2 : c.args.ident.data_type % 256 ≡ c.args.ident.data_type = omega arith in
    rw (c.copy_from_slice-3.ensures.after, c.date_time_octets.ensures, c.copy_from_slice-2.ensures.after, c.origin.ensures, c.copy_from_slice.ensures.after, o1, o2) refl
