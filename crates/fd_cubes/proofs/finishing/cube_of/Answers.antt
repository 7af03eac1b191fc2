use Rattle.std.proofs.Common.{◌∙◌, List, length, ap}
use Rattle.fd_request.specs.Expansion.{expand}
use Rattle.fd_cubes.specs.declared.axis.Axis as code_axis
use Rattle.fd_cubes.specs.Cubes.{cube_text}
use Rattle.fd_cubes.specs.Axes.{seen_axes}
use Rattle.fd_cubes.proofs.Finished.{finished}
use Rattle.fd_cubes.proofs.finishing.cube_of.Goals as goal

pub invariant_of-result : goal.invariant_of-result
invariant_of-result c = record {
  is = finished c.args.grid c.requires.grid c.requires.keys;
  printed = c.in_ok-text.ensures ∙ ap (λ (l : List code_axis.Axis). cube_text (seen_axes l)) c.deref.ensures.value;
  counted = c.count_of-count.ensures ∙ ap (λ (l : List code_axis.Axis). length (expand (seen_axes l))) c.deref-2.ensures.value;
}
