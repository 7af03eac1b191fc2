-- What holds of the machine after every run.
use Rattle.std.proofs.Common.{◌≡◌, ◌⊎◌, ◌==◌, if◌then◌else◌, ℕ, ◌+◌, ◌-◌, ◌^◌, ◌<◌, ◌≤◌, Bool, true, false, List, [], ◌∷◌, ◌++◌, length, Option, Some, None}
use Rattle.fd_disk.specs.declared.file.File.{File}
use Rattle.fd_disk.specs.declared.folders.FileName.{FileName}
use Rattle.fd_disk.specs.declared.folders.FileKind.{FileKind}
use Rattle.fd_disk.specs.declared.folders.FileKind.TheVariants.{Fields, Index}
use Rattle.fd_disk.specs.Images.{IsImage, firm_file, synced}
use Rattle.fd_entries.specs.declared.table.Entry.{Entry}
use Rattle.fd_entries.specs.Table.{IsTable, AllFit}
use Rattle.fd_entries.specs.Standing.{IsSettled, IsStaged, IsInDoubt}
use Rattle.fd_entries.specs.declared.batch.Pair.{Pair}
use Rattle.fd_machine.specs.declared.machine.Phase.{Phase}
use Rattle.fd_machine.specs.declared.machine.Phase.TheVariants.{Filling, Synced, Written, Sealed, Holding, BodyLoose, BodyFirm, GateLoose, Listed, Posted, Closing}
use Rattle.fd_machine.specs.declared.machine.Writer.{Writer}
use Rattle.fd_machine.specs.declared.machine.NamedFile.{NamedFile}
use Rattle.fd_machine.specs.World.{World}
use Rattle.fd_entries.specs.Batches.{distinct, total, joined, rows}
use Rattle.fd_machine.specs.Machine.{file_of, fields_name, index_name, entry_of, writer_of, code}
use Rattle.fd_entries.specs.Batches.{is_empty}
use Rattle.fd_machine.specs.Laws.{SeesOnlyListed, IsPrefix}
use Rattle.fd_entries.specs.Batches.{KeysFit}

abbrev pub name_of : Entry → FileKind → FileName
name_of e kind = record { writer = e.writer; seq = e.seq; kind = kind }

-- the entry's files stand firm for the batch
pub record StandsFor (files : List NamedFile) (e : Entry) (b : List Pair) : Type 0 where
  pub fields : file_of files (name_of e Fields) ≡ firm_file (joined b)
  pub index : file_of files (name_of e Index) ≡ firm_file (rows b)
  pub keys : KeysFit b
  pub small : total b < 2 ^ 63
  -- its writer's next number fits its octets
  pub seq : e.seq < 2 ^ 32 - 1

abbrev pub AllStand : List NamedFile → List Entry → List (List Pair) → Type 0
AllStand files [] [] = Unit {0}
AllStand files (e ∷ es) (b ∷ bs) = StandsFor files e b × AllStand files es bs
AllStand files [] (b ∷ bs) = ⊥
AllStand files (e ∷ es) [] = ⊥

-- a batch that may still be listed
pub record PairsFit (x : Writer) : Type 0 where
  pub keys : KeysFit x.pairs
  pub small : total x.pairs < 2 ^ 63
  pub index_small : length (rows x.pairs) < 2 ^ 63
  pub few : distinct x.pairs ≤ 65536
  pub known : is_empty x.pairs ≡ false → x.id ≤ 65536
  pub seq : x.seq < 2 ^ 32

pub record IsReady (fields : File) (x : Writer) : Type 0 where
  pub id : x.id ≤ 65536
  pub seq : x.seq < 2 ^ 32 - 1
  pub fields_is : fields ≡ firm_file (joined x.pairs)

-- The field file and the index file of a writer's batch. An index that a failed flush left is no longer than
-- the next one.
abbrev pub ByPhase : File → File → Writer → Phase → Type 0
ByPhase fields index x Filling = (fields.reads ≡ joined x.pairs) × (length index.reads ≤ length (rows x.pairs))
ByPhase fields index x Synced = IsReady fields x × (length index.reads ≤ length (rows x.pairs))
ByPhase fields index x Written = IsReady fields x × (index.reads ≡ rows x.pairs)
ByPhase fields index x Sealed = IsReady fields x × (index ≡ firm_file (rows x.pairs))
ByPhase fields index x Holding = IsReady fields x × (index ≡ firm_file (rows x.pairs))
ByPhase fields index x BodyLoose = IsReady fields x × (index ≡ firm_file (rows x.pairs))
ByPhase fields index x BodyFirm = IsReady fields x × (index ≡ firm_file (rows x.pairs))
ByPhase fields index x GateLoose = IsReady fields x × (index ≡ firm_file (rows x.pairs))
ByPhase fields index x Listed = IsReady fields x × (index ≡ firm_file (rows x.pairs))
ByPhase fields index x Posted = IsReady fields x × (index ≡ firm_file (rows x.pairs))
ByPhase fields index x Closing = IsReady fields x × (index ≡ firm_file (rows x.pairs))

pub record WriterHolds (files : List NamedFile) (x : Writer) : Type 0 where
  pub pairs : PairsFit x
  pub phase : ByPhase (file_of files (fields_name x)) (file_of files (index_name x)) x x.phase

-- the entry's gate alone is loose, and as the table reads it is one of its own images
abbrev pub Doubtful : File → List Entry → Entry → Type 0
Doubtful table es e = IsInDoubt [] es table e × IsImage table table.reads

-- the table while a writer owns it and nothing is in doubt
abbrev pub Owned : File → List Entry → Writer → Phase → Type 0
Owned table es x Holding = IsSettled [] es table × (length es < 65535)
Owned table es x BodyLoose = IsSettled [] es table × IsStaged [] es (synced table) (entry_of x)
Owned table es x BodyFirm = IsStaged [] es table (entry_of x)
Owned table es x GateLoose = Doubtful table es (entry_of x) × IsTable [] (es ++ entry_of x ∷ []) table.reads
Owned table es x Listed = IsSettled [] (es ++ entry_of x ∷ []) table
Owned table es x Posted = IsSettled [] es table
Owned table es x Filling = ⊥
Owned table es x Synced = ⊥
Owned table es x Written = ⊥
Owned table es x Sealed = ⊥
Owned table es x Closing = ⊥

-- the table while a writer owns it and an entry is in doubt
abbrev pub Mending : File → List Entry → Entry → Phase → Type 0
Mending table es e Holding = Doubtful table es e
Mending table es e Closing = Doubtful table es e × IsSettled [] es (synced table)
Mending table es e BodyLoose = ⊥
Mending table es e BodyFirm = ⊥
Mending table es e GateLoose = ⊥
Mending table es e Listed = ⊥
Mending table es e Posted = ⊥
Mending table es e Filling = ⊥
Mending table es e Synced = ⊥
Mending table es e Written = ⊥
Mending table es e Sealed = ⊥

abbrev pub OwnedOrMending : File → List Entry → Writer → Phase → Option Entry → Type 0
OwnedOrMending table es x p None = Owned table es x p
OwnedOrMending table es x p (Some e) = Mending table es e p

abbrev pub FreeOrInDoubt : File → List Entry → Option Entry → Type 0
FreeOrInDoubt table es None = IsSettled [] es table
FreeOrInDoubt table es (Some e) = Doubtful table es e

abbrev pub TableHolds : World → List Entry → Option ℕ → Type 0
TableHolds s es None = FreeOrInDoubt s.table es s.doubt
TableHolds s es (Some w) = OwnedOrMending s.table es (writer_of s w) (writer_of s w).phase s.doubt

-- the writer of an entry in doubt still has the batch, and waits for the table or has taken it
abbrev pub MayWait : Phase → Type 0
MayWait p = (p ≡ Sealed) ⊎ ((p ≡ Holding) ⊎ (p ≡ Closing))

pub record IsWriters (x : Writer) (e : Entry) : Type 0 where
  pub own : e ≡ entry_of x
  pub waits : MayWait x.phase

abbrev pub DoubtHolds : World → Option Entry → Type 0
DoubtHolds s None = Unit {0}
DoubtHolds s (Some e) = IsWriters (writer_of s e.writer) e

-- each entry of the writer has a lesser sequence number
abbrev pub AllOlder : ℕ → ℕ → List Entry → Type 0
AllOlder w q [] = Unit {0}
AllOlder w q (e ∷ es) = (e.writer ≡ w → e.seq < q) × AllOlder w q es

-- once it is posted, a batch counts as older
abbrev pub bound : Writer → ℕ
bound x = if code x.phase == 9 then x.seq + 1 else x.seq

-- what holds while the machine is up
pub record HoldsUp (s : World) : Type 0 where
  -- the entries of the history
  pub entries : List Entry
  pub fit : AllFit 0 entries
  pub few : length entries ≤ 65535
  pub stands : AllStand s.files entries s.history
  pub table : TableHolds s entries s.owner
  pub doubted : DoubtHolds s s.doubt
  pub writers : (w : ℕ) → WriterHolds s.files (writer_of s w)
  pub older : (w : ℕ) → AllOlder w (bound (writer_of s w)) entries
  -- who is busy with the table owns it
  pub busy : (w : ℕ) → 4 ≤ code (writer_of s w).phase → s.owner ≡ Some w
  -- the files of later sequence numbers are empty
  pub unused : (w q : ℕ) (kind : FileKind) → (writer_of s w).seq < q → file_of s.files (record { writer = w; seq = q; kind = kind }) ≡ firm_file []
  pub sees : SeesOnlyListed s

-- What holds from a crash to the next opening: the entries of the table stand for batches that begin with the history.
pub record HoldsDown (s : World) : Type 0 where
  pub entries : List Entry
  pub found : List (List Pair)
  pub table : IsSettled [] entries s.table
  pub stands : AllStand s.files entries found
  pub begins : IsPrefix s.history found
  pub no_writers : s.writers ≡ []
  pub no_owner : s.owner ≡ None
  pub no_doubt : s.doubt ≡ None
  pub sees : SeesOnlyListed s

abbrev pub HoldsIf : Bool → World → Type 0
HoldsIf false s = HoldsUp s
HoldsIf true s = HoldsDown s

abbrev pub Holds : World → Type 0
Holds s = HoldsIf s.down s
