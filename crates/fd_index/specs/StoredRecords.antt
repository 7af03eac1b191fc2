-- The records that are kept in memory.
use Rattle.std.specs.Prelude.{List, map}
use Rattle.fd_index.specs.declared.stored.Stored.{Stored}
use Rattle.fd_index.specs.Records.{Record}

abbrev pub record_of : Stored → Record
record_of s = record { key = s.key.items; at = s.at; len = s.len }

abbrev pub records_of : List Stored → List Record
records_of ss = map record_of ss
