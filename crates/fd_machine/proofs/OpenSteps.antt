-- What the code of an opening and of a fetch reads.
use Rattle.std.proofs.Common.{◌≡◌, ◌==◌, ◌&&◌, ◌||◌, ◌+◌, ◌-◌, ◌<◌, ◌≤◌, if◌then◌else◌, ℕ, zero, suc, Bool, true, false, List, [], ◌∷◌, ◌++◌, length, map, take, drop, get_or, Option, Some, None, is_some, unwrap_or, MatchOption, slice_get, sym, ◌∙◌, ap, subst, arith, append_assoc, length-append}
use Rattle.std.proofs.lemmas.List.{append-nil, drop_all, drop_at, length-take-le, take_all, take_at}
use Rattle.fd_disk.specs.declared.file.File.{File}
use Rattle.fd_disk.specs.declared.folders.FileName.{FileName}
use Rattle.fd_entries.specs.declared.table.Entry.{Entry}
use Rattle.fd_entries.specs.Table.{entry_in, gate_at, header, listed, slots_of}
use Rattle.fd_entries.proofs.Slots.{length-header, length-slots, listed_table}
use Rattle.fd_entries.specs.declared.batch.Pair.{Pair}
use Rattle.fd_machine.specs.declared.machine.NamedFile.{NamedFile}
use Rattle.fd_machine.specs.declared.machine.Seen.{Seen}
use Rattle.fd_machine.specs.declared.machine.Step.TheVariants.{Reopen}
use Rattle.fd_machine.specs.World.{World}
use Rattle.fd_machine.specs.Machine.{after, batch_in, fetched, is_listed, kept_files, of_slot, seen_by}
use Rattle.fd_entries.specs.Numbers.{entries_or_none}
use Rattle.fd_machine.specs.Took.{AllHeld, IsHeld, IsReached}
use Rattle.fd_entries.specs.Numbers.{ListsSome}
use Rattle.fd_entries.proofs.BatchSums.{drop_here}
use Rattle.fd_machine.proofs.EveryRun.{holds}
use Rattle.fd_entries.proofs.SlotReading.{entry_at, no_entry}
use Rattle.fd_machine.proofs.Fetching.{front, same_count, stands_at}
use Rattle.fd_machine.proofs.Holds.{AllStand, Holds, HoldsDown, HoldsIf, HoldsUp, StandsFor}
use Rattle.fd_machine.proofs.Reached.{done}

pub seen_step : (xs : List Seen) (i : ℕ) (x : Seen) (r : ℕ) → slice_get xs i ≡ Some x → seen_by (drop i xs) r ≡ (if x.reader == r then Some x.length else seen_by (drop (i + 1) xs) r)
seen_step xs i x r at = ap (λ (l : List Seen). seen_by l r) (drop_here xs i x at)

pub listed_step : (es : List Entry) (i : ℕ) (e : Entry) (n : FileName) → slice_get es i ≡ Some e → is_listed (drop i es) n ≡ (((n.writer == e.writer) && (n.seq == e.seq)) || is_listed (drop (i + 1) es) n)
listed_step es i e n at = ap (λ (l : List Entry). is_listed l n) (drop_here es i e at)

take_here : {A : Type 0} (xs : List A) (i : ℕ) (x : A) → slice_get xs i ≡ Some x → take (i + 1) xs ≡ take i xs ++ x ∷ []
take_here {A} xs i x at = ap (λ (n : ℕ). take n xs) one ∙ go xs i at
  where
    one : i + 1 ≡ suc i
    one = omega arith

    go : (xs : List A) (i : ℕ) → slice_get xs i ≡ Some x → take (suc i) xs ≡ take i xs ++ x ∷ []
    go [] i at = absurd (cc at)
    go (y ∷ ys) zero at = let same : y ≡ x = cc at in ap (λ (z : A). z ∷ []) same
    go (y ∷ ys) (suc i) at = ap (λ (l : List A). y ∷ l) (go ys i at)

-- a file that an entry has is kept
pub keep_step : (es : List Entry) (fs : List NamedFile) (i : ℕ) (f : NamedFile) → slice_get fs i ≡ Some f → is_listed es f.name ≡ true → take (i + 1) fs ++ kept_files es (drop (i + 1) fs) ≡ take i fs ++ kept_files es (drop i fs)
keep_step es fs i f at is =
    let rest = kept_files es (drop (i + 1) fs) in
    ap (λ (l : List NamedFile). l ++ rest) (take_here fs i f at) ∙ append_assoc (take i fs) (f ∷ []) rest
    ∙ ap (λ (l : List NamedFile). take i fs ++ l) (sym (ap (kept_files es) (drop_here fs i f at) ∙ ap (λ (b : Bool). if b then f ∷ rest else rest) is))

-- and one that no entry has goes
pub drop_step : (es : List Entry) (fs less : List NamedFile) (i : ℕ) (f : NamedFile) → slice_get fs i ≡ Some f → is_listed es f.name ≡ false → i < length fs → less ≡ take i fs ++ drop (i + 1) fs → take i less ++ kept_files es (drop i less) ≡ take i fs ++ kept_files es (drop i fs)
drop_step es fs less i f at is lt made =
    let rest = drop (i + 1) fs in
    let len : length (take i fs) ≡ i = length-take-le i fs (omega (arith, lt)) in
    let t : take i less ≡ take i fs = ap (take i) made ∙ take_at (take i fs) rest i len in
    let d : drop i less ≡ rest = ap (drop i) made ∙ drop_at (take i fs) rest i len in
    ap (λ (l : List NamedFile). l ++ kept_files es (drop i less)) t ∙ ap (λ (l : List NamedFile). take i fs ++ kept_files es l) d
    ∙ ap (λ (l : List NamedFile). take i fs ++ l) (sym (ap (kept_files es) (drop_here fs i f at) ∙ ap (λ (b : Bool). if b then f ∷ kept_files es rest else kept_files es rest) is))

pub keep_end : (es : List Entry) (fs : List NamedFile) (i : ℕ) → length fs ≤ i → take i fs ++ kept_files es (drop i fs) ≡ fs
keep_end es fs i end = ap (λ (l : List NamedFile). l ++ kept_files es (drop i fs)) (take_all i fs end) ∙ ap (λ (l : List NamedFile). fs ++ kept_files es l) (drop_all i fs end) ∙ append-nil fs

pub held_step : (files : List NamedFile) (es : List Entry) (i : ℕ) (e : Entry) → slice_get es i ≡ Some e → AllHeld files (drop i es) → IsHeld files e × AllHeld files (drop (i + 1) es)
held_step files es i e at all = subst (AllHeld files) (drop_here es i e at) all

pub batches_step : (files : List NamedFile) (es : List Entry) (i : ℕ) (e : Entry) (more read : List (List Pair)) (b : List Pair) → slice_get es i ≡ Some e → more ≡ read ++ b ∷ [] → b ≡ batch_in files e
    → read ++ map (batch_in files) (drop i es) ≡ map (batch_in files) es → more ++ map (batch_in files) (drop (i + 1) es) ≡ map (batch_in files) es
batches_step files es i e more read b at pushed is so_far =
    let rest = map (batch_in files) (drop (i + 1) es) in
    ap (λ (l : List (List Pair)). l ++ rest) (pushed ∙ ap (λ (x : List Pair). read ++ x ∷ []) is) ∙ append_assoc read (batch_in files e ∷ []) rest
    ∙ ap (λ (l : List (List Pair)). read ++ l) (sym (ap (map (batch_in files)) (drop_here es i e at))) ∙ so_far

stands_held : (files : List NamedFile) (e : Entry) (b : List Pair) → StandsFor files e b → IsHeld files e
stands_held files e b st = record { batch = b; index_is = ap (λ (f : File). f.reads) st.index; fields_is = ap (λ (f : File). f.reads) st.fields; keys = st.keys; sum = st.small }

all_held : (files : List NamedFile) (es : List Entry) (bs : List (List Pair)) → AllStand files es bs → AllHeld files es
all_held files [] [] all = tt
all_held files (e ∷ es) (b ∷ bs) all = (stands_held files e b all.0, all_held files es bs all.1)
all_held files [] (b ∷ bs) all = absurd all
all_held files (e ∷ es) [] all = absurd all

pub reached_down : (s : World) → IsReached s → s.down ≡ true → HoldsDown s
reached_down s r down = subst (λ (d : Bool). HoldsIf d s) down (subst Holds r.is (holds r.steps))

pub down_lists : (s : World) → IsReached s → s.down ≡ true → ListsSome s.table.reads
down_lists s r down = let h = reached_down s r down in record { entries = h.entries; table = h.table.reads }

pub down_held : (s : World) → IsReached s → s.down ≡ true → AllHeld s.files (entries_or_none (listed [] s.table.reads))
down_held s r down =
    let h = reached_down s r down in
    subst (AllHeld s.files) (sym (ap entries_or_none (listed_table [] h.entries s.table.reads h.table.reads))) (all_held s.files h.entries h.found h.stands)

pub reopen_done : (s : World) (es : List Entry) (hs : List (List Pair)) (fs : List NamedFile) → s.down ≡ true → es ≡ entries_or_none (listed [] s.table.reads) → hs ≡ map (batch_in s.files) es → fs ≡ kept_files es s.files
    → record s { history = hs; files = fs; down = false } ≡ after s Reopen
reopen_done s es hs fs down entries batches kept =
    ap (λ (h : List (List Pair)). record s { history = h; files = fs; down = false }) (batches ∙ ap (map (batch_in s.files)) entries)
    ∙ ap (λ (f : List NamedFile). record s { history = map (batch_in s.files) (entries_or_none (listed [] s.table.reads)); files = f; down = false }) (kept ∙ ap (λ (l : List Entry). kept_files l s.files) entries)
    ∙ sym (done s Reopen down)

-- the slots of the history stand whole in the table as it reads
pub slot_small : (s : World) (h : HoldsUp s) (i : ℕ) → i < length s.history → i ≤ 65535
slot_small s h i lt = omega (arith, lt, h.few, same_count s.files h.entries s.history h.stands)

pub slot_whole : (s : World) (h : HoldsUp s) (i : ℕ) → i < length s.history → gate_at i + 64 ≤ length s.table.reads
slot_whole s h i lt =
    let f = front s h.entries s.owner h.table in
    omega (arith, lt, same_count s.files h.entries s.history h.stands, ap length f.is, length-append (header [] ++ slots_of h.entries) f.rest, length-append (header []) (slots_of h.entries), length-slots h.entries, length-header [] (omega arith))

pub slot_held : (s : World) (h : HoldsUp s) (i : ℕ) → i < length s.history → IsHeld s.files (entry_in (drop (gate_at i + 1) s.table.reads))
slot_held s h i lt =
    let small : i < length h.entries = omega (arith, lt, same_count s.files h.entries s.history h.stands) in
    subst (IsHeld s.files) (sym (entry_at h.entries s.table.reads i (front s h.entries s.owner h.table) h.fit h.few small))
    (stands_held s.files (get_or h.entries i no_entry) (get_or s.history i []) (stands_at s.files h.entries s.history i h.stands small))

-- the slots are looked through from the newest on
pub fetched_step : (s : World) (i : ℕ) (key : List ℕ) → 0 < i → fetched s i key ≡ (if is_some (of_slot s (i - 1) key) then of_slot s (i - 1) key else fetched s (i - 1) key)
fetched_step s zero key some = absurd (omega arith)
fetched_step s (suc n) key some =
    let one : n ≡ suc n - 1 = omega arith in
    ap (λ (m : ℕ). if is_some (of_slot s m key) then of_slot s m key else fetched s m key) one

pub found_slot : {X : Type 0} (found : Option X) (f : X → List ℕ) (o older whole : Option (List ℕ)) → is_some found ≡ true → MatchOption found (o ≡ None) (λ b. o ≡ Some (f b)) → whole ≡ (if is_some o then o else older)
    → MatchOption found (whole ≡ None) (λ b. whole ≡ Some (f b))
found_slot None f o older whole some is all = absurd (cc some)
found_slot (Some b) f o older whole some is all = all ∙ ap (λ (o : Option (List ℕ)). if is_some o then o else older) is

pub passed_slot : {X : Type 0} (found : Option X) (f : X → List ℕ) (o older whole : Option (List ℕ)) → is_some found ≡ false → MatchOption found (o ≡ None) (λ b. o ≡ Some (f b)) → whole ≡ (if is_some o then o else older) → whole ≡ older
passed_slot None f o older whole none is all = all ∙ ap (λ (o : Option (List ℕ)). if is_some o then o else older) is
passed_slot (Some b) f o older whole none is all = absurd (cc none)

-- what the reader has seen is listed
pub seen_small : (s : World) (h : HoldsUp s) (r n : ℕ) → seen_by s.readers r ≡ Some n → n ≤ length s.history
seen_small s h r n is = subst (λ (o : Option ℕ). unwrap_or o 0 ≤ length s.history) is (h.sees r)
