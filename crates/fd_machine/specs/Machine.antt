-- The machine: what each step may do, over whole runs.
use Rattle.std.specs.Prelude.{◌+◌, ◌-◌, ◌^◌, ◌==◌, ◌&&◌, ◌||◌, not, ℕ, zero, suc, Bool, true, false, nat_lt, nat_le, is_none, List, [], ◌∷◌, ◌++◌, if◌then◌else◌, map, length, drop, Option, Some, None, unwrap_or, is_some}
use Rattle.fd_disk.specs.declared.file.File.{File}
use Rattle.fd_disk.specs.declared.file.Range.{Range}
use Rattle.fd_disk.specs.declared.folders.FileName.{FileName}
use Rattle.fd_disk.specs.declared.folders.FileKind.TheVariants.{Fields, Index}
use Rattle.fd_disk.specs.Images.{is_in, firm_file, written, synced, loosened}
use Rattle.fd_disk.specs.Names.{same_name}
use Rattle.fd_entries.specs.declared.table.Entry.{Entry}
use Rattle.fd_entries.specs.declared.batch.Pair.{Pair}
use Rattle.fd_machine.specs.declared.machine.Phase.{Phase}
use Rattle.fd_machine.specs.declared.machine.Phase.TheVariants.{Filling, Synced, Written, Sealed, Holding, BodyLoose, BodyFirm, GateLoose, Listed, Posted, Closing}
use Rattle.fd_machine.specs.declared.machine.Writer.{Writer}
use Rattle.fd_machine.specs.declared.machine.NamedFile.{NamedFile}
use Rattle.fd_machine.specs.declared.machine.Seen.{Seen}
use Rattle.fd_machine.specs.World.{World}
use Rattle.fd_machine.specs.declared.machine.Step.{Step}
use Rattle.fd_machine.specs.declared.machine.Step.TheVariants.{Put, SyncData, WriteIndex, SyncIndex, Take, Body, SyncBody, Gate, SyncGate, Post, Release, Look, Fetch, CloseGate, SyncClose, Fail, Crash, Reopen}
use Rattle.fd_entries.specs.Table.{header, gate_at, entry_in, listed, with_body, with_gate, with_closed}
use Rattle.fd_entries.specs.Batches.{of_files, pairs_in, distinct, total, rows, same_bytes, is_empty, with_pair}
use Rattle.fd_entries.specs.Numbers.{entries_or_none, greatest_seq}

-- files under their names; one that isn't there is empty
abbrev pub file_of : List NamedFile → FileName → File
file_of [] name = firm_file []
file_of (f ∷ fs) name = if same_name f.name name then f.file else file_of fs name

abbrev pub put_file : List NamedFile → FileName → File → List NamedFile
put_file [] name file = record { name = name; file = file } ∷ []
put_file (f ∷ fs) name file = if same_name f.name name then record { name = name; file = file } ∷ fs else f ∷ put_file fs name file

abbrev pub fields_name : Writer → FileName
fields_name w = record { writer = w.id; seq = w.seq; kind = Fields }

abbrev pub index_name : Writer → FileName
index_name w = record { writer = w.id; seq = w.seq; kind = Index }

-- a writer of which nothing is known
abbrev pub fresh : File → ℕ → Writer
fresh table w = record { id = w; pairs = []; phase = Filling; seq = greatest_seq w (entries_or_none (listed [] table.reads)) + 1 }

abbrev pub writer_in : List Writer → ℕ → Writer → Writer
writer_in [] w otherwise = otherwise
writer_in (x ∷ xs) w otherwise = if x.id == w then x else writer_in xs w otherwise

abbrev pub writer_of : World → ℕ → Writer
writer_of s w = writer_in s.writers w (fresh s.table w)

abbrev pub put_writer : List Writer → Writer → List Writer
put_writer [] w = w ∷ []
put_writer (x ∷ xs) w = if x.id == w.id then w ∷ xs else x ∷ put_writer xs w

abbrev pub seen_by : List Seen → ℕ → Option ℕ
seen_by [] r = None
seen_by (x ∷ xs) r = if x.reader == r then Some x.length else seen_by xs r

abbrev pub put_seen : List Seen → ℕ → ℕ → List Seen
put_seen [] r n = record { reader = r; length = n } ∷ []
put_seen (x ∷ xs) r n = if x.reader == r then record { reader = r; length = n } ∷ xs else x ∷ put_seen xs r n

abbrev pub code : Phase → ℕ
code Filling = 0
code Synced = 1
code Written = 2
code Sealed = 3
code Holding = 4
code BodyLoose = 5
code BodyFirm = 6
code GateLoose = 7
code Listed = 8
code Posted = 9
code Closing = 10

abbrev pub is_in_phase : Writer → Phase → Bool
is_in_phase w p = code w.phase == code p

-- what the table says of a writer's batch, whose files have no digests
abbrev pub entry_of : Writer → Entry
entry_of w = record { writer = w.id; seq = w.seq; fields = distinct w.pairs; index_len = length (rows w.pairs); fields_len = total w.pairs; digest = None }

abbrev pub can_put : Writer → List ℕ → List ℕ → Bool
can_put w key bytes =
    is_in_phase w Filling && nat_le 1 w.id && nat_le w.id 65536 && nat_le (length key) 256
    && nat_le (distinct (with_pair w.pairs key bytes)) 65536
    && nat_lt (total (with_pair w.pairs key bytes)) (2 ^ 63)
    && nat_lt (length (rows (with_pair w.pairs key bytes))) (2 ^ 63)

-- the bytes agree with the firm ones outside the loose ranges, from this place on
abbrev pub agrees_from : ℕ → File → List ℕ → List ℕ → Bool
agrees_from k f [] c = true
agrees_from k f (x ∷ firm) [] = false
agrees_from k f (x ∷ firm) (y ∷ c) = (is_in k f.loose || (x == y)) && agrees_from (k + 1) f firm c

abbrev pub are_none : List Range → Bool
are_none [] = true
are_none (r ∷ rs) = false

-- a crash now may leave these bytes of the file
abbrev pub has_image : File → List ℕ → Bool
has_image f c = if are_none f.loose then same_bytes c f.firm else agrees_from 0 f f.firm c

abbrev pub have_images : List NamedFile → List (List ℕ) → Bool
have_images [] [] = true
have_images (f ∷ fs) (c ∷ cs) = has_image f.file c && have_images fs cs
have_images [] (c ∷ cs) = false
have_images (f ∷ fs) [] = false

abbrev pub may_leave : World → List (List ℕ) → Bool
may_leave s [] = false
may_leave s (c ∷ cs) = has_image s.table c && have_images s.files cs

abbrev pub can_fail : Phase → Bool
can_fail Filling = true
can_fail Synced = true
can_fail Written = true
can_fail Holding = true
can_fail Closing = true
can_fail BodyLoose = true
can_fail BodyFirm = true
can_fail GateLoose = true
can_fail Sealed = false
can_fail Listed = false
can_fail Posted = false

-- possible while the machine is up
abbrev pub can : World → Step → Bool
can s (Put w key bytes) = can_put (writer_of s w) key bytes
can s (SyncData w) = is_in_phase (writer_of s w) Filling && not (is_empty (writer_of s w).pairs) && nat_lt (writer_of s w).seq (2 ^ 32 - 1)
can s (WriteIndex w) = is_in_phase (writer_of s w) Synced
can s (SyncIndex w) = is_in_phase (writer_of s w) Written
can s (Take w) = is_in_phase (writer_of s w) Sealed && is_none s.owner && nat_lt (length s.history) 65535
can s (Body w) = is_in_phase (writer_of s w) Holding && is_none s.doubt
can s (SyncBody w) = is_in_phase (writer_of s w) BodyLoose
can s (Gate w) = is_in_phase (writer_of s w) BodyFirm
can s (SyncGate w) = is_in_phase (writer_of s w) GateLoose
can s (Post w) = is_in_phase (writer_of s w) Listed
can s (Release w) = is_in_phase (writer_of s w) Posted
can s (Look r) = true
can s (Fetch r key) = is_some (seen_by s.readers r)
can s (CloseGate w) = is_in_phase (writer_of s w) Holding && is_some s.doubt
can s (SyncClose w) = is_in_phase (writer_of s w) Closing
can s (Fail w) = can_fail (writer_of s w).phase
can s (Crash left) = may_leave s left
can s Reopen = false

-- the step is possible now
abbrev pub possible : World → Step → Bool
possible s Reopen = s.down
possible s step = not s.down && can s step

-- the writer with other pairs
abbrev pub filled : Writer → List Pair → Writer
filled x pairs = record { id = x.id; pairs = pairs; phase = x.phase; seq = x.seq }

-- the writer in another phase
abbrev pub gone_to : Writer → Phase → Writer
gone_to x p = record { id = x.id; pairs = x.pairs; phase = p; seq = x.seq }

abbrev pub moved : World → Writer → Phase → List Writer
moved s w p = put_writer s.writers (gone_to w p)

abbrev pub firmed : List NamedFile → List (List ℕ) → List NamedFile
firmed [] cs = []
firmed (f ∷ fs) [] = f ∷ fs
firmed (f ∷ fs) (c ∷ cs) = record { name = f.name; file = firm_file c } ∷ firmed fs cs

abbrev pub first_of_left : List (List ℕ) → List ℕ
first_of_left [] = []
first_of_left (c ∷ cs) = c

-- the batch that a listed entry's files give
abbrev pub batch_in : List NamedFile → Entry → List Pair
batch_in files e =
    pairs_in (file_of files (record { writer = e.writer; seq = e.seq; kind = Index })).reads (file_of files (record { writer = e.writer; seq = e.seq; kind = Fields })).reads

-- one of the entries has the file
abbrev pub is_listed : List Entry → FileName → Bool
is_listed [] n = false
is_listed (e ∷ es) n = ((n.writer == e.writer) && (n.seq == e.seq)) || is_listed es n

abbrev pub kept_files : List Entry → List NamedFile → List NamedFile
kept_files es [] = []
kept_files es (f ∷ fs) = if is_listed es f.name then f ∷ kept_files es fs else kept_files es fs

-- back: sealed, and no owner
abbrev pub back : World → Writer → File → Option Entry → World
back s x table doubt = record s { table = table; doubt = doubt; owner = None; writers = moved s x Sealed }

-- the disk call that the writer would make next fails
abbrev pub failed : World → Writer → Phase → World
failed s x Filling = record s { files = put_file s.files (fields_name x) (loosened (file_of s.files (fields_name x)) (total x.pairs) (2 ^ 63) (file_of s.files (fields_name x)).reads) }
failed s x Synced = record s { files = put_file s.files (index_name x) (written (file_of s.files (index_name x)) 0 (rows x.pairs)); writers = moved s x Filling }
failed s x Written = record s { writers = moved s x Filling }
failed s x Holding = back s x (if is_some s.doubt then with_closed s.table (length s.history) else with_body s.table (length s.history) (entry_of x)) s.doubt
failed s x Closing = back s x s.table s.doubt
failed s x BodyLoose = back s x s.table s.doubt
failed s x BodyFirm = back s x (with_gate s.table (length s.history)) (Some (entry_of x))
failed s x GateLoose = back s x s.table (Some (entry_of x))
failed s x Sealed = s
failed s x Listed = s
failed s x Posted = s

-- what a possible step does
abbrev pub effect : World → Step → World
effect s (Put w key bytes) =
    let x = writer_of s w in
    record s {
      files = put_file s.files (fields_name x) (written (file_of s.files (fields_name x)) (total x.pairs) bytes);
      writers = put_writer s.writers (filled x (with_pair x.pairs key bytes));
    }
effect s (SyncData w) =
    let x = writer_of s w in
    record s { files = put_file s.files (fields_name x) (synced (file_of s.files (fields_name x))); writers = moved s x Synced }
effect s (WriteIndex w) =
    let x = writer_of s w in
    record s { files = put_file s.files (index_name x) (written (file_of s.files (index_name x)) 0 (rows x.pairs)); writers = moved s x Written }
effect s (SyncIndex w) =
    let x = writer_of s w in
    record s { files = put_file s.files (index_name x) (synced (file_of s.files (index_name x))); writers = moved s x Sealed }
effect s (Take w) = record s { owner = Some w; writers = moved s (writer_of s w) Holding }
effect s (Body w) = record s { table = with_body s.table (length s.history) (entry_of (writer_of s w)); writers = moved s (writer_of s w) BodyLoose }
effect s (SyncBody w) = record s { table = synced s.table; writers = moved s (writer_of s w) BodyFirm }
effect s (Gate w) = record s { table = with_gate s.table (length s.history); writers = moved s (writer_of s w) GateLoose }
effect s (SyncGate w) = record s { table = synced s.table; writers = moved s (writer_of s w) Listed }
effect s (Post w) = record s { history = s.history ++ (writer_of s w).pairs ∷ []; writers = moved s (writer_of s w) Posted }
effect s (Release w) = record s { owner = None; writers = put_writer s.writers (record { id = w; pairs = []; phase = Filling; seq = (writer_of s w).seq + 1 }) }
effect s (Look r) = record s { readers = put_seen s.readers r (length s.history) }
effect s (Fetch r key) = s
effect s (CloseGate w) = record s { table = with_closed s.table (length s.history); writers = moved s (writer_of s w) Closing }
effect s (SyncClose w) = record s { table = synced s.table; doubt = None; writers = moved s (writer_of s w) Holding }
effect s (Fail w) = failed s (writer_of s w) (writer_of s w).phase
effect s (Crash left) = record s { table = firm_file (first_of_left left); files = firmed s.files (drop 1 left); writers = []; owner = None; doubt = None; down = true }
effect s Reopen =
    let es = entries_or_none (listed [] s.table.reads) in
    record s { history = map (batch_in s.files) es; files = kept_files es s.files; down = false }

-- a step that isn't possible changes nothing
abbrev pub after : World → Step → World
after s step = if possible s step then effect s step else s

-- what the files of the entry in slot i give for a key
abbrev pub of_slot : World → ℕ → List ℕ → Option (List ℕ)
of_slot s i key =
    let e = entry_in (drop (gate_at i + 1) s.table.reads) in
    of_files (file_of s.files (record { writer = e.writer; seq = e.seq; kind = Index })).reads (file_of s.files (record { writer = e.writer; seq = e.seq; kind = Fields })).reads key

-- through the first slots of the table as it reads, newest first
abbrev pub fetched : World → ℕ → List ℕ → Option (List ℕ)
fetched s zero key = None
fetched s (suc n) key = let later = of_slot s n key in (if is_some later then later else fetched s n key)

abbrev pub length_of : World → ℕ → ℕ
length_of s r = unwrap_or (seen_by s.readers r) 0

-- what a fetch answers
abbrev pub answer : World → ℕ → List ℕ → Option (List ℕ)
answer s r key = fetched s (length_of s r) key

abbrev pub start : World
start = record {
  table = firm_file (header [] ++ 0 ∷ []);
  files = [];
  history = [];
  writers = [];
  owner = None;
  doubt = None;
  readers = [];
  down = false;
}

-- a whole run
abbrev pub run : List Step → World → World
run [] s = s
run (step ∷ steps) s = run steps (after s step)
