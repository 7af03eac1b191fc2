-- Listings of which no batch is told, for the small lists of the tests.
use Rattle.std.specs.Prelude.{List, map, None}
use Rattle.fd_entries.specs.declared.table.Entry.{Entry}
use Rattle.fd_entries.specs.declared.batch.Listing.{Listing}

abbrev pub untold : Entry → Listing
untold e = record { entry = e; batch = None }

abbrev pub all_untold : List Entry → List Listing
all_untold es = map untold es
