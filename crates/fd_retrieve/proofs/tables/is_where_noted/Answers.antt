use Rattle.std.proofs.Common.{rules, ◌≡◌, ◌∙◌, ◌||◌, true, false, ap, arith, string_bytes}
use Rattle.std.specs.Str.{bytes_eq}
use Rattle.fd_retrieve.proofs.PrepareLemmas.{among_one_of}
use Rattle.fd_retrieve.proofs.tables.is_where_noted.Goals as goal

pub returns-then-place-names : goal.returns-then-place-names
returns-then-place-names c = λ is.
    let name = c.index-names-place.result in
    let same : bytes_eq c.args.text.now (string_bytes name) ≡ true = search rules in
    among_one_of string_bytes c.args.names.now c.in-Some.place.now name (omega (arith, c.if-place-names.true)) c.index-names-place.is c.args.text.now (ap (λ b. b || false) same)
