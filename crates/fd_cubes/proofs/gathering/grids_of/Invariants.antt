use Rattle.std.proofs.Common.{◌≡◌, take}
use Rattle.std.specs.List.{All}
use Rattle.fd_cubes.specs.Cubes.{keys_of}
use Rattle.fd_cubes.specs.Grids.{IsGrid, seen_grids}
use Rattle.fd_cubes.proofs.gathering.grids_of.Given as goal

abbrev pub invariant-loop-key : goal.invariant-loop-key
invariant-loop-key l = record { each : All IsGrid l.grids.items; keys : keys_of (seen_grids l.grids.items) ≡ take l.key-index l.keys }
