-- Which calls are to fail.
use Rattle.std.specs.Prelude.{◌≡◌, ◌⊎◌, ◌&&◌, ◌||◌, ◌==◌, ◌++◌, if◌then◌else◌, ℕ, Bool, true, false, List, [], ◌∷◌, Option, Some, None, Result, Ok, Err, codes, decimal, string_bytes}
use Rattle.std.specs.Str.{bytes_eq}
use Rattle.fd_disk.specs.Reading.{raised}
use Rattle.fd_disk.specs.declared.folders.FileKind.{FileKind}
use Rattle.fd_disk.specs.declared.folders.FileKind.TheVariants.{Fields, Index}
use Rattle.fd_disk.specs.declared.folders.FileName.{FileName}
use Rattle.fd_disk.specs.declared.traits.Down.{Down}
use Rattle.fd_disk.specs.declared.traits.Down.TheVariants.{Fault, NoMemory}
use Rattle.fd_file_mem.specs.declared.plan.Op.{Op}
use Rattle.fd_file_mem.specs.declared.plan.Op.TheVariants as op
use Rattle.fd_file_mem.specs.declared.plan.Asked.{Asked}
use Rattle.fd_file_mem.specs.declared.plan.Fail.{Fail}
use Rattle.fd_file_mem.specs.declared.plan.Plan.{Plan}
use Rattle.fd_file_mem.specs.declared.plan.Planned.{Planned}

abbrev pub same_op : Op → Op → Bool
same_op op.Read op.Read = true
same_op op.Read op.Write = false
same_op op.Read op.Sync = false
same_op op.Read op.Create = false
same_op op.Write op.Read = false
same_op op.Write op.Write = true
same_op op.Write op.Sync = false
same_op op.Write op.Create = false
same_op op.Sync op.Read = false
same_op op.Sync op.Write = false
same_op op.Sync op.Sync = true
same_op op.Sync op.Create = false
same_op op.Create op.Read = false
same_op op.Create op.Write = false
same_op op.Create op.Sync = false
same_op op.Create op.Create = true

-- how many calls of the kind there were
abbrev pub asked_for : Op → Asked → ℕ
asked_for op.Read a = a.reads
asked_for op.Write a = a.writes
asked_for op.Sync a = a.syncs
asked_for op.Create a = a.creates

abbrev pub never_asked : Asked
never_asked = record { reads = 0; writes = 0; syncs = 0; creates = 0 }

-- one call of the kind more
abbrev pub asked_once : Op → Asked → Asked
asked_once op.Read a = record { reads = raised a.reads 1; writes = a.writes; syncs = a.syncs; creates = a.creates }
asked_once op.Write a = record { reads = a.reads; writes = raised a.writes 1; syncs = a.syncs; creates = a.creates }
asked_once op.Sync a = record { reads = a.reads; writes = a.writes; syncs = raised a.syncs 1; creates = a.creates }
asked_once op.Create a = record { reads = a.reads; writes = a.writes; syncs = a.syncs; creates = raised a.creates 1 }

-- the call of this kind with this number is planned to fail
abbrev pub is_planned : Op → ℕ → List Fail → Bool
is_planned o number [] = false
is_planned o number (f ∷ fs) = (same_op f.op o && (f.nth == number)) || is_planned o number fs

-- the next call of this kind is
abbrev pub is_due : Op → Plan → Bool
is_due o p = is_planned o (raised (asked_for o p.asked) 1) p.fails.items

-- the plan after a call of this kind
abbrev pub after_call : Op → Plan → Plan
after_call o p = record { fails = p.fails; asked = asked_once o p.asked; fuse = p.fuse }

-- the fuse lets no call pass
abbrev pub is_spent : Option ℕ → Bool
is_spent None = false
is_spent (Some n) = n == 0

-- the fuse is set
abbrev pub is_set : Option ℕ → Bool
is_set None = false
is_set (Some n) = true

-- A call fails where it is due to, by the plan, where the fuse lets none pass, and where it lies beyond the room; and by no
-- other cause, but that the fuse, which is set, has let enough pass.
pub record FailsByPlan (due : Bool) (allowed : Option ℕ) (fits passed failed : Bool) : Type 0 where
  pub planned : due ≡ true → passed ≡ false
  pub spent : is_spent allowed ≡ true → passed ≡ false
  pub beyond : fits ≡ false → passed ≡ false
  pub cause : failed ≡ true → (due ≡ true) ⊎ ((fits ≡ false) ⊎ (is_set allowed ≡ true))

-- the call answered a fault, and not want of memory
abbrev pub is_fault : {T F : Type 0} → Result T (Down F) → Bool
is_fault (Ok x) = false
is_fault (Err (Fault f)) = true
is_fault (Err NoMemory) = false

-- the plan of a file that is opened anew
pub record IsAnew (fails : List Fail) (allowed : Option ℕ) (p : Plan) : Type 0 where
  pub fails_are : p.fails.items ≡ fails
  pub asked : p.asked ≡ never_asked
  pub fuse : p.fuse.allowed ≡ allowed

-- the calls of this file among those planned for all files
abbrev pub fails_of : List ℕ → List Planned → List Fail
fails_of file [] = []
fails_of file (p ∷ ps) = if bytes_eq (string_bytes p.file) file then record { op = p.op; nth = p.nth } ∷ fails_of file ps else fails_of file ps

-- one call more of this file
abbrev pub fails_if : List ℕ → List ℕ → Op → ℕ → List Fail
fails_if other file o nth = if bytes_eq file other then record { op = o; nth = nth } ∷ [] else []

-- the text by which a plan names a file of a dataset
abbrev pub ending : FileKind → List ℕ
ending Fields = codes "fields"
ending Index = codes "index"

abbrev pub file_text : List ℕ → FileName → List ℕ
file_text dataset n = dataset ++ codes "/" ++ decimal n.writer ++ codes "-" ++ decimal n.seq ++ codes "." ++ ending n.kind

abbrev pub table_text : List ℕ → List ℕ
table_text dataset = dataset ++ codes "/toc"
