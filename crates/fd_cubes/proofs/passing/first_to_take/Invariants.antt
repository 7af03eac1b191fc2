use Rattle.std.proofs.Common.{◌≡◌, take}
use Rattle.std.specs.Prelude.{Some, slice_get}
use Rattle.std.specs.List.{All}
use Rattle.fd_cubes.specs.declared.grid.Grid as code_grid
use Rattle.fd_cubes.specs.Grids.{Takes}
use Rattle.fd_cubes.proofs.passing.first_to_take.Given as goal

abbrev pub invariant-loop-at : goal.invariant-loop-at
invariant-loop-at l = All (λ i. (g : code_grid.Grid) → slice_get l.grids i ≡ Some g → Takes l.place g l.grid → ⊥) (take l.at-index l.places)
