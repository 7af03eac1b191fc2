-- The open datasets by their two lists.
use Rattle.std.specs.Prelude.{List}
use Rattle.fd_turn.specs.Passes.{BoardId}
use Rattle.fd_library.specs.Open.{OpenDataset, OpenDatasets}

abbrev pub both : {D : Type 0} → List BoardId → List (OpenDataset D) → OpenDatasets D
both bs hs = record { boards = bs; each = hs }
