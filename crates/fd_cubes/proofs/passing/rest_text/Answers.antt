use Rattle.std.proofs.Common.{[], ap, ◌∙◌, cond, eqb}
use Rattle.fd_spelling.specs.Texts.{texts}
use Rattle.fd_cubes.specs.declared.axis.Axis as code_axis
use Rattle.fd_cubes.proofs.Seen.{code_more}
use Rattle.fd_cubes.proofs.passing.rest_text.Goals as goal

pub loop-i-preserved : goal.loop-i-preserved
loop-i-preserved c =
    code_more c.args.place c.loop-i.i c.args.axes.now c.index-axes-i.result c.index-axes-i-in-loop-i.result _ _ _ _ c.loop-i-test.true c.loop-i.invariant c.in_ok-push_axis.ensures c.as_str.ensures.value (c.values_unless-values.ensures ∙ ap (λ (a : code_axis.Axis). cond (eqb c.args.place c.loop-i.i) [] (texts a.values.items)) c.index-axes-i.is)
