use Rattle.std.proofs.Common.{rules, ◌≡◌, ◌∙◌, ap, sym, true, Some}
use Rattle.std.specs.Str.{bytes_eq}
use Rattle.fd_library.proofs.Named.{is_at, same_text}
use Rattle.fd_library.proofs.library.noted.Goals as goal

pub returns-then-is : goal.returns-then-is
returns-then-is g c =
    let h = c.index-held-i.result in
    let found : true ≡ bytes_eq c.args.name.now h.name = search rules in
    (h, is_at c.args.held.now c.in-Some.number.now h c.if-i-held.true ∙ ap Some (sym c.index-held-i.is), same_text c.args.name.now h.name found)
