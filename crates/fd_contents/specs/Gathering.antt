-- The tables of datasets whose keys `cubes` looks for, also where some of the datasets are damaged.
use Rattle.std.specs.Prelude.{◌≡◌, ℕ, List, IfSome}
use Rattle.std.specs.List.{AllZip}
use Rattle.fd_disk.specs.Folders.{Holdings, folder_at}
use Rattle.fd_entries.specs.declared.batch.Pair.{Pair}
use Rattle.fd_request.specs.Expansion.{Keyword}
use Rattle.fd_inventory.specs.Found.{Keeps}
use Rattle.fd_outcome.specs.Matching.{Keys, matching, with_dataset}
use Rattle.fd_stored.specs.Store.{table_at}
use Rattle.fd_contents.specs.Recorded.{AreRecordedIn}

-- The table of the dataset, where it is sound, and in any case such batches as its indexes have records of.
pub record IsTableIn (h : Holdings) (name : List ℕ) (t : List (List Pair)) : Type 0 where
  pub sound : IfSome (table_at h name) (λ u. t ≡ u)
  pub recorded : AreRecordedIn name (folder_at h name) t

-- Behind the keys that were found, those of such a table of the dataset were kept.
pub record FindsIn (keywords : List Keyword) (h : Holdings) (name : List ℕ) (found new : Keys) : Type 0 where
  pub table : List (List Pair)
  pub is : IsTableIn h name table
  pub keeps : (all : Keys) → Keeps found all → Keeps new (with_dataset keywords name table all)

-- the same of each of the datasets, one after the other, where none was found before
pub record FindsAll (keywords : List Keyword) (h : Holdings) (names : List (List ℕ)) (found : Keys) : Type 0 where
  pub tables : List (List (List Pair))
  pub each : AllZip (IsTableIn h) names tables
  pub keeps : Keeps found (matching keywords names tables)
