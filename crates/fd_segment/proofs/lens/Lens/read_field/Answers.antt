use Rattle.std.proofs.Common.{rules}
use Rattle.fd_segment.specs.declared.fault.Damage.TheVariants.{FieldDigest}
use Rattle.fd_segment.specs.Causes.{IsFieldDamage}
use Rattle.fd_segment.proofs.Looking.{digest_none}
use Rattle.fd_segment.proofs.lens.Lens.read_field.Goals as goal

pub returns-clause-sound : goal.returns-clause-sound
returns-clause-sound g c = λ key place.
    let bad : IsFieldDamage c.args.self.now.files.entry c.args.self.now.files.fields c.args.at c.args.len (FieldDigest c.file_name.result c.args.at c.take_digest-want.result c.field_digest-got.result) = search rules in
    digest_none c.args.self.now.files key c.args.at c.args.len (FieldDigest c.file_name.result c.args.at c.take_digest-want.result c.field_digest-got.result) c.requires.inside bad place
