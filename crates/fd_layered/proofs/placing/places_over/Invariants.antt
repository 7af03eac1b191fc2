use Rattle.std.proofs.Common.{◌≡◌, List, length, map}
use Rattle.fd_request.specs.Expansion.{expand}
use Rattle.fd_schema.specs.Reading.{seen_place}
use Rattle.fd_outcome.specs.Layered.{Laid, all_places}
use Rattle.fd_layered.proofs.Chaining.{HaveLaid}
use Rattle.fd_layered.proofs.placing.places_over.Given as goal

abbrev pub invariant-loop-i : goal.invariant-loop-i
invariant-loop-i g l = (asked : List Laid) × (length asked ≡ l.i) × HaveLaid l.schema l.layers (expand l.request) asked × (map seen_place l.places.items ≡ all_places asked)
