use Rattle.std.proofs.Common.{◌≡◌, true}
use Rattle.fd_spelling.specs.Texts.{is_ascii}
use Rattle.fd_spelling.proofs.AsciiLaws.{name_is_ascii}
use Rattle.fd_spelling.proofs.texts.name_text.Goals as goal

pub returns-in-None : goal.returns-in-None
returns-in-None c =
    let ascii : is_ascii c.args.name.now ≡ true = name_is_ascii c.args.name.now c.requires in
    let none = rw ascii at c.in-None.ensures in
    absurd (cc none)
