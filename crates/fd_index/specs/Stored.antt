-- What an index's fields stand for.
use Rattle.std.specs.Prelude.{◌<◌, ◌^◌, List, length}
use Rattle.fd_index.specs.declared.index.Index.TheInside.{Inside}
use Rattle.fd_index.specs.Records.{Record, Rising}
use Rattle.fd_index.specs.StoredRecords.{records_of}

abbrev pub read_of : Inside → List Record
read_of index = records_of index.records.items

pub record IsRead (index : Inside) : Type 0 where
  pub rising : Rising (read_of index)
  pub few : length index.records.items < 2 ^ 32
