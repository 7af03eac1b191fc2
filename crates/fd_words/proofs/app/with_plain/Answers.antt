use Rattle.std.proofs.Common.{rules, ◌≡◌, ◌∙◌, arith, ◌<◌, length, map, []}
use Rattle.clap.specs.Words.{app_of}
use Rattle.fd_words.proofs.AppLemmas.{plain_step}
use Rattle.fd_words.proofs.app.with_plain.Goals as goal

pub loop-name-preserved : goal.loop-name-preserved
loop-name-preserved c =
    let lt : c.loop-name.name-index < length c.args.names.now = omega arith in
    let none : map (λ s. s.now) c.as_slice.result.now ≡ [] = search rules in
    plain_step (app_of c.loop-name.grown) (app_of c.in_ok-grown.grown) c.args.names.now c.loop-name.name-index _ _ lt none c.in_ok-grown.ensures ∙ c.loop-name.invariant
