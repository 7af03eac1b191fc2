use Rattle.std.proofs.Common.{◌≡◌, ◌++◌, ◌+◌, List, drop, map}
use Rattle.fd_schema.specs.Reading.{seen_place}
use Rattle.fd_schema.specs.Rules.{Texts}
use Rattle.fd_outcome.specs.Layered.{under_from}
use Rattle.fd_layered.proofs.Laying.{ahead}
use Rattle.fd_layered.proofs.placing.lay_under.Given as goal

abbrev pub invariant-loop-i : goal.invariant-loop-i
invariant-loop-i g l = (ps : List Texts) × (under_from 1 l.schema l.key l.layers ≡ ahead ps (under_from (l.i + 1) l.schema l.key (drop l.i l.layers))) × (map seen_place l.places.items ≡ map seen_place l.fn.places.items ++ ps)
