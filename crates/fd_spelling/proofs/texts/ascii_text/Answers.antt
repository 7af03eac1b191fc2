use Rattle.std.proofs.Common.{◌≡◌, true, sym, ◌∙◌}
use Rattle.fd_spelling.specs.Texts.{is_ascii}
use Rattle.fd_spelling.proofs.AsciiTexts.{is_utf8}
use Rattle.fd_spelling.proofs.texts.ascii_text.Goals as goal

pub returns-in-Err : goal.returns-in-Err
returns-in-Err c =
    let ascii : is_ascii c.args.bytes.now ≡ true = sym c.is_ascii.ensures ∙ c.if-not-is_ascii.false in
    absurd (c.in-Err.ensures.cases.0 (is_utf8 c.args.bytes.now ascii))
