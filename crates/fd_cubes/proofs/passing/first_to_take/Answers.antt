use Rattle.std.proofs.Common.{◌≡◌, subst, List, ℕ}
use Rattle.std.specs.Prelude.{Some, slice_get}
use Rattle.std.specs.List.{All}
use Rattle.std.proofs.lemmas.List.{take_all}
use Rattle.fd_cubes.specs.declared.grid.Grid as code_grid
use Rattle.fd_cubes.specs.Grids.{Takes}
use Rattle.fd_cubes.proofs.Taking.{all_more}
use Rattle.fd_cubes.proofs.passing.first_to_take.Goals as goal

pub loop-at-preserved : goal.loop-at-preserved
loop-at-preserved c =
    all_more (λ (i : ℕ). (g : code_grid.Grid) → slice_get c.args.grids.now i ≡ Some g → Takes c.args.place g c.args.grid.now → ⊥) c.args.places.now c.loop-at.at-index 0 c.loop-at-test.true c.loop-at.invariant (c.can_take.ensures.none c.if-can_take.false)

pub returns-clause-none : goal.returns-clause-none
returns-clause-none c = λ e.
    subst (λ (l : List ℕ). All (λ i. (g : code_grid.Grid) → slice_get c.args.grids.now i ≡ Some g → Takes c.args.place g c.args.grid.now → ⊥) l) (take_all c.loop-at.at-index c.args.places.now c.loop-at-test.false) c.loop-at.invariant

pub returns-then-can_take-clause-takes : goal.returns-then-can_take-clause-takes
returns-then-can_take-clause-takes c = c.can_take.ensures.takes c.if-can_take.true
