use Rattle.std.proofs.Common.{arith, length, ap}
use Rattle.std.proofs.lemmas.List.{length-map}
use Rattle.std.proofs.lemmas.Result.{IfOk-weaker}
use Rattle.std.specs.Char.{to_ascii_lowercase}
use Rattle.fd_tokens.specs.Tokens.{view}
use Rattle.fd_tokens.proofs.Places.{tokens_few}
use Rattle.fd_request.proofs.reading.keywords_of.Goals as goal

pub returns-clause-few : goal.returns-clause-few
returns-clause-few c =
    let number = length-map c.in_ok-tokens.tokens.items view in
    let same = ap length c.in_ok-tokens.ensures in
    let bytes = ap length c.in_ok-lowered.ensures in
    let folded = length-map c.args.text.now to_ascii_lowercase in
    IfOk-weaker c.request_in.result _ _
    (λ v e. omega (arith, e, number, same, bytes, folded, ap length c.deref-2.ensures.value, ap length c.deref.ensures.value, tokens_few c.marks.result.now 0 c.deref.result.now)) c.request_in.ensures.few
