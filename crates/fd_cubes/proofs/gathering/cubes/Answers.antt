use Rattle.std.proofs.lemmas.List.Elements.{All-map}
use Rattle.std.proofs.lemmas.List.Sorted.{All-permutation}
use Rattle.fd_cubes.specs.Cubes.{IsCube}
use Rattle.fd_cubes.specs.Grids.{seen_grid}
use Rattle.fd_cubes.proofs.Finished.{each_cube}
use Rattle.fd_cubes.proofs.Gathered.{are_keys, joined_are_keys, all_keys}
use Rattle.fd_cubes.proofs.Settled.{none_of_them}
use Rattle.fd_cubes.proofs.gathering.cubes.Goals as goal

pub cubes_of-requires-clause-keys : goal.cubes_of-requires-clause-keys
cubes_of-requires-clause-keys c = joined_are_keys c.args.keys.now _ _ (are_keys c.args.keys.now c.requires.askable c.requires.distinct c.requires.few) c.in_ok-grids.ensures.keys c.in_ok-grids-2.ensures.keys

pub returns-clause-keys : goal.returns-clause-keys
returns-clause-keys c = all_keys c.args.keys.now _ _ _ c.in_ok-grids.ensures.keys c.in_ok-grids-2.ensures.keys c.in_ok-cubes.ensures

pub returns-clause-joined : goal.returns-clause-joined
returns-clause-joined c =
    let keys = joined_are_keys c.args.keys.now _ _ (are_keys c.args.keys.now c.requires.askable c.requires.distinct c.requires.few) c.in_ok-grids.ensures.keys c.in_ok-grids-2.ensures.keys in
    none_of_them _ _ c.in_ok-grids-2.ensures.keys.each (each_cube _ c.in_ok-grids-2.ensures.keys.each keys) c.in_ok-grids-2.ensures.settled c.in_ok-cubes.ensures

pub returns-clause-each : goal.returns-clause-each
returns-clause-each c =
    let keys = joined_are_keys c.args.keys.now _ _ (are_keys c.args.keys.now c.requires.askable c.requires.distinct c.requires.few) c.in_ok-grids.ensures.keys c.in_ok-grids-2.ensures.keys in
    All-permutation IsCube _ _ c.in_ok-cubes.ensures (All-map IsCube seen_grid _ (each_cube _ c.in_ok-grids-2.ensures.keys.each keys))
