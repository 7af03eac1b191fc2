use Rattle.std.proofs.Common.{◌≡◌, true}
use Rattle.fd_spelling.proofs.AsciiLaws.{value_is_ascii}
use Rattle.fd_spelling.specs.Texts.{is_ascii}
use Rattle.fd_schema.proofs.values.value_text.Goals as goal

pub returns-in-None : goal.returns-in-None
returns-in-None c =
    let ascii : is_ascii c.args.value.now ≡ true = value_is_ascii c.args.value.now c.requires in
    let none = rw ascii at c.in-None.ensures in
    absurd (cc none)
