use Rattle.std.proofs.Common.{◌∙◌}
use Rattle.fd_cube_tests.proofs.Askable.{three_given}
use Rattle.fd_cube_tests.proofs.cubes.cubes_of_three.Goals as goal

pub cubes-requires : goal.cubes-requires
cubes-requires c =
    let given = three_given _ (c.deref.ensures.value ∙ c.in_ok-keys.ensures) in
    record { askable = given.askable; distinct = given.distinct; few = given.few }
