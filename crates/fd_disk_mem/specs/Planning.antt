-- What a store in memory has planned.
use Rattle.std.specs.Prelude.{◌≡◌, if◌then◌else◌, Bool, false, ℕ, List, [], None, codes, option_map}
use Rattle.std.specs.Str.{bytes_eq}
use Rattle.fd_disk.specs.Folders.{Holdings}
use Rattle.fd_file_mem.specs.declared.plan.Fail.{Fail}
use Rattle.fd_disk_mem.specs.declared.store.MemStore.{MemStore}
use Rattle.fd_file_mem.specs.Plans.{IsAnew, fails_of}
use Rattle.fd_disk_mem.specs.Slots.{folder_in}

-- what the store has
abbrev pub holdings : MemStore → Holdings
holdings s = record { schema = option_map (λ v. v.items) s.schema; folders = folder_in s.slots }

-- the calls of this file that are to fail, by its name in a plan
abbrev pub fails_for : List ℕ → MemStore → List Fail
fails_for file s = if bytes_eq file (codes "schema") then s.plan.fails.items else fails_of file s.plans.items.items

-- No call of any file is planned to fail, no fuse is set, and no call was counted.
pub record PlansNothing (s : MemStore) : Type 0 where
  pub schema : IsAnew [] None s.plan
  pub files : s.plans.items.items ≡ []
  pub fuse : s.plans.fuse.allowed ≡ None

-- no folder is told to be out
abbrev pub none_told : List ℕ → Bool
none_told = λ name. false
