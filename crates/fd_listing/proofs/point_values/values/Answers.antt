use Rattle.std.proofs.Common.{◌∙◌, sym, ap, Result, Err}
use Rattle.fd_sections.specs.Parts.{sections_of}
use Rattle.fd_packing.specs.declared.fault.FieldFault.{FieldFault}
use Rattle.fd_packing.specs.Packed.{Packed}
use Rattle.fd_listing.proofs.FieldLaws.{no_want}
use Rattle.fd_listing.proofs.point_values.values.Goals as goal

pub returns-in-Err-clause-memory : goal.returns-in-Err-clause-memory
returns-in-Err-clause-memory g c = λ e.
    let refused : FieldFault → Result Packed FieldFault = λ f. Err f in
    no_want (sections_of c.args.message.now) (sym c.in-Err.ensures ∙ ap refused e)
