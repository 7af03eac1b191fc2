use Rattle.std.proofs.Common.{◌≡◌, ◌≤◌, ◌+◌, ◌-◌, ◌^◌, drop, min}
use Rattle.fd_spelling.specs.Texts.{texts}
use Rattle.fd_cubes.specs.Axes.{width}
use Rattle.fd_cubes.proofs.axis.width.Given as goal

abbrev pub invariant-loop-value : goal.invariant-loop-value
invariant-loop-value l = record { small : l.total ≤ 2 ^ 64 - 1; so_far : min (l.total + width (texts (drop l.value-index l.values))) (2 ^ 64 - 1) ≡ min (width (texts l.values)) (2 ^ 64 - 1) }
