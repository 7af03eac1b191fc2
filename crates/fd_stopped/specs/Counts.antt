-- Which count of calls an object has.
use Rattle.std.specs.Arc.{arc_value}
use Rattle.atomic_table.specs.Seated.{TableId}
use Rattle.fd_stopped.specs.declared.stops.Stops.{Stops}

-- the table that the count stands in: two objects with one table count together
abbrev pub count_of : Stops → TableId
count_of s = (arc_value s.passed).table.shared.table_id
