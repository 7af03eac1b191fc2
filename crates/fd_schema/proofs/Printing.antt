-- A kind that names what is wrong has its text.
use Rattle.std.proofs.Common.{◌≡◌, ℕ, ap, sym, ◌∙◌}
use Rattle.fd_schema.specs.declared.fault.SchemaKind.{SchemaKind}
use Rattle.fd_schema.specs.declared.fault.SchemaKind.TheVariants as kinds
use Rattle.fd_schema.specs.Grammar.{Wrong, Byte}
use Rattle.fd_schema.specs.Reading.{Names}
use Rattle.fd_schema.specs.FaultTexts.{schema_kind_text, schema_wrong_text}

pub named_text : (kind : SchemaKind) (byte : ℕ) (wrong : Wrong) → Names kind byte wrong → schema_kind_text kind ≡ schema_wrong_text byte wrong
named_text kinds.TooLong byte wrong names = ap (schema_wrong_text byte) (sym names)
named_text (kinds.Byte b) byte wrong names = ap (λ n. schema_wrong_text n Byte) names.1 ∙ ap (schema_wrong_text byte) (sym names.0)
named_text kinds.Name byte wrong names = ap (schema_wrong_text byte) (sym names)
named_text kinds.Value byte wrong names = ap (schema_wrong_text byte) (sym names)
named_text (kinds.Twice name) byte wrong names = ap (schema_wrong_text byte) (sym names)
named_text kinds.Depth byte wrong names = ap (schema_wrong_text byte) (sym names)
named_text kinds.Level byte wrong names = ap (schema_wrong_text byte) (sym names)
named_text (kinds.TooMany count) byte wrong names = ap (schema_wrong_text byte) (sym names)
named_text kinds.Version byte wrong names = ap (schema_wrong_text byte) (sym names)
named_text kinds.End byte wrong names = ap (schema_wrong_text byte) (sym names)
named_text kinds.Empty byte wrong names = ap (schema_wrong_text byte) (sym names)
