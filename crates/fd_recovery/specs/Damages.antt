-- What is wrong with the files of a table's entries.
use Rattle.std.specs.Prelude.{◌≡◌, ◌++◌, ℕ, nat_lt, bytes_eq, if◌then◌else◌, List, [], ◌∷◌, length, take, flat_map, Option, Some, None}
use Rattle.fd_disk.specs.declared.folders.FileKind.TheVariants as kinds
use Rattle.fd_disk.specs.declared.folders.FileName.{FileName}
use Rattle.fd_disk.specs.Names.{name_of}
use Rattle.fd_entries.specs.declared.table.Entry.{Entry}
use Rattle.fd_segment.specs.declared.fault.Damage.{Damage}
use Rattle.fd_segment.specs.declared.fault.Damage.TheVariants.{Absent, Length, IndexDigest}
use Rattle.sha2.specs.Sha256.{sha256}

abbrev pub field_file : Entry → FileName
field_file e = name_of e.writer e.seq kinds.Fields

abbrev pub index_file : Entry → FileName
index_file e = name_of e.writer e.seq kinds.Index

-- a file that is to have so many bytes isn't there, or is shorter
abbrev pub damages_of : FileName → ℕ → Option (List ℕ) → List Damage
damages_of file want None = Absent file ∷ []
damages_of file want (Some bytes) = if nat_lt (length bytes) want then Length file want (length bytes) ∷ [] else []

-- the field file is looked at before the index file
abbrev pub lengths_at : (FileName → Option (List ℕ)) → Entry → List Damage
lengths_at files e = damages_of (field_file e) e.fields_len (files (field_file e)) ++ damages_of (index_file e) e.index_len (files (index_file e))

-- a digest that is wanted isn't the one that was computed
abbrev pub unlike : FileName → Option (List ℕ) → List ℕ → List Damage
unlike file None got = []
unlike file (Some want) got = if bytes_eq want got then [] else IndexDigest file want got ∷ []

-- where the entry has a digest, it isn't that of the first bytes of its index file, as many as the entry says
abbrev pub digest_damages : Entry → Option (List ℕ) → List Damage
digest_damages e None = []
digest_damages e (Some index) = unlike (index_file e) e.digest (sha256 (take e.index_len index))

-- the lengths of both files are looked at before the digest of the index
abbrev pub damages_at : (FileName → Option (List ℕ)) → Entry → List Damage
damages_at files e = lengths_at files e ++ digest_damages e (files (index_file e))

-- the damages of the entries, in the order of the table
abbrev pub damages : (FileName → Option (List ℕ)) → List Entry → List Damage
damages files es = flat_map (damages_at files) es

-- the damage is the first of them
abbrev pub IsFirst : Damage → List Damage → Type 0
IsFirst d all = (rest : List Damage) × (all ≡ d ∷ rest)
