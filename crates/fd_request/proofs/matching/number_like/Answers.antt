use Rattle.std.proofs.Common.{◌≡◌, Some, ap, ◌∙◌, w64, to_z, of_z, ℤ}
use Rattle.std.proofs.lemmas.Fmt.{parse-signed_decimal}
use Rattle.std.proofs.lemmas.Int.{to_z-of_z}
use Rattle.fd_request.proofs.ReadAgain.{number_kept, number_small}
use Rattle.fd_request.proofs.matching.number_like.Goals as goal

pub returns-in-Ok : goal.returns-in-Ok
returns-in-Ok c = λ z low high is.
    let kept = number_kept z low high in
    let read = parse-signed_decimal w64 z c.args.text.now c.parse.result kept (number_small z low high) is c.parse.ensures.value.0 in
    let same : c.in-Ok.number ≡ z = cc in
    ap (λ (y : ℤ). Some (to_z w64 (of_z w64 y))) same ∙ ap (λ (y : ℤ). Some y) (to_z-of_z w64 z kept)

pub returns-in-Err : goal.returns-in-Err
returns-in-Err c = λ z low high is.
    let read = parse-signed_decimal w64 z c.args.text.now c.parse.result (number_kept z low high) (number_small z low high) is c.parse.ensures.value.0 in cc
