-- How the past of a dataset in memory grows.
use Rattle.std.proofs.Common.{◌≡◌, ◌⊎◌, inl, inr, ◌≤◌, ◌+◌, ◌-◌, if◌then◌else◌, min, ℕ, Bool, true, Ok, Err, Result, List, length, Option, Some, None, option_map, refl, sym, ◌∙◌, ap, subst, arith}
use Rattle.fd_disk.specs.Causes.{HasDownCause, OnNoMemory}
use Rattle.fd_disk.specs.declared.file.File.{File}
use Rattle.fd_disk.specs.declared.traits.Down.{Down}
use Rattle.fd_disk.specs.declared.traits.Down.TheVariants.{Fault, NoMemory}
use Rattle.fd_disk.specs.declared.folders.FileName.{FileName}
use Rattle.fd_disk.specs.Folders.{Contents, Left, IsFolderImage, IsTableLeft, with_table, without_table}
use Rattle.fd_disk.specs.Renewals.{GoesOn, IsLeftBetween, MayLeaveFolder, StandsStill, removed}
use Rattle.fd_disk.proofs.NameLemmas.{is_or_not}
use Rattle.fd_disk.proofs.RenewalLemmas.{still_same}
use Rattle.fd_file_mem.specs.Calls.{Memory, file_of}
use Rattle.fd_file_mem.specs.Past as calls
use Rattle.fd_disk.specs.Names.{same_name}
use Rattle.fd_disk_mem.specs.Drawers.{below, bytes_in}
use Rattle.fd_disk_mem.specs.declared.drawers.Drawers.{Drawers}
use Rattle.fd_disk_mem.specs.declared.past.Past.{Past}
use Rattle.fd_disk_mem.specs.Pasts.{IsSince, IsTableSince, LeftFrom, begins, calls_of, clock, memory_of, moments}
use Rattle.fd_disk_mem.specs.PastLaws.{IsNow, now_from, only_now_told}
use Rattle.fd_disk_mem.specs.Slots.{contents_of}
use Rattle.fd_file_mem.specs.declared.disk.MemDisk.{MemDisk}

pub still : (p q : Past) (a b : Option Memory) (files more : Drawers) → p ≡ q → a ≡ b → files ≡ more → StandsStill (clock p a) (clock q b) (LeftFrom p a files) (LeftFrom q b more)
still p q a b files more same table drawers =
    subst (λ x. StandsStill (clock p a) (clock x b) (LeftFrom p a files) (LeftFrom x b more)) same
    (subst (λ x. StandsStill (clock p a) (clock p x) (LeftFrom p a files) (LeftFrom p x more)) table
    (subst (λ x. StandsStill (clock p a) (clock p a) (LeftFrom p a files) (LeftFrom p a x)) drawers (still_same (clock p a) (LeftFrom p a files))))

-- in a time that began with all calls of its table there is nothing but images of now
table_begun : (first s t : ℕ) (table : Option Memory) (c : Option (List ℕ)) → calls_of table ≤ first → IsTableSince first s t table c → IsTableLeft (option_map file_of table) c
table_begun first s t None c le is = is
table_begun first s t (Some m) None le is = is
table_begun first s t (Some m) (Some c) le is =
    let same : min (length m.calls) (first + (t - s)) ≡ length m.calls = omega (arith, le) in
    calls.only_now m c (subst (λ (k : ℕ). calls.LeftSince m k c) same is)

begun_now : (first s t : ℕ) (table : Option Memory) (files : Drawers) (left : Left) → calls_of table ≤ first → IsSince first s t table files left → IsNow table files left
begun_now first s t table files left le is = record { table_is = table_begun first s t table left.table le is.table_is; files_are = is.files_are }

-- a time ends, and another begins with all calls of its table
pub goes : (old new : Past) (was now : Option Memory) (before files : Drawers) (P : Left → Type 0) → calls_of now ≤ begins new → moments new ≡ moments old + (calls_of was - begins old) + 1
    → ((t : ℕ) (left : Left) → LeftFrom new now files t left → IsSince (begins new) (moments new) t now files left ⊎ LeftFrom old was before t left)
    → ((t : ℕ) (left : Left) → LeftFrom old was before t left → LeftFrom new now files t left) → ((left : Left) → IsNow now files left → P left)
    → GoesOn (clock old was) (clock new now) (LeftFrom old was before) (LeftFrom new now files) P
goes old new was now before files P begun counted only keeps more = record {
  later = later;
  nothing_else = λ t left le since. elim (only t left since) [
    | inl is ↦ let n = begun_now (begins new) (moments new) t now files left begun is in inr (more left n, now_from new now files (clock old was) left later n.table_is n.files_are)
    | inr past ↦ inl past
  ];
  keeps = λ t left le past. keeps t left past;
}
  where
    later : clock old was ≤ clock new now
    later = omega (arith, counted)

-- what is left of what is here now
now_left : (here : Option MemDisk) (files : Drawers) (old new : Option Contents) → Some (contents_of here files) ≡ new → (left : Left) → IsNow (memory_of here) files left → IsLeftBetween old new left
now_left here files old new is left now = inr (subst (λ (o : Option Contents). MayLeaveFolder o left) is (only_now_told here files left now))

-- the same of equal folders
goes_like : (was old new q : Past) (a b d : Option Memory) (before files fs : Drawers) (P : Left → Type 0) → old ≡ was → q ≡ new → d ≡ b → fs ≡ files
    → GoesOn (clock old a) (clock new b) (LeftFrom old a before) (LeftFrom new b files) P → GoesOn (clock was a) (clock q d) (LeftFrom was a before) (LeftFrom q d fs) P
goes_like was old new q a b d before files fs P first second third fourth x =
    subst (λ p. GoesOn (clock p a) (clock q d) (LeftFrom p a before) (LeftFrom q d fs) P) first
    (subst (λ p. GoesOn (clock old a) (clock p d) (LeftFrom old a before) (LeftFrom p d fs) P) (sym second)
    (subst (λ m. GoesOn (clock old a) (clock new m) (LeftFrom old a before) (LeftFrom new m fs) P) (sym third)
    (subst (λ f. GoesOn (clock old a) (clock new b) (LeftFrom old a before) (LeftFrom new b f) P) (sym fourth) x)))

-- a renewed table has no calls
pub renewed_goes : (was old new q : Past) (table : MemDisk) (now : Option MemDisk) (files fs : Drawers) (before after : Option Contents) → old ≡ was → q ≡ new → fs ≡ files
    → begins new ≡ 0 → calls_of (memory_of now) ≡ 0 → moments new ≡ moments old + (length table.file.calls - begins old) + 1
    → ((m : Option Memory) (ds : Drawers) (t : ℕ) (left : Left) → LeftFrom new m ds t left → IsSince 0 (moments new) t m ds left ⊎ LeftFrom old (Some table.file) ds t left)
    → ((m : Option Memory) (ds : Drawers) (t : ℕ) (left : Left) → LeftFrom old (Some table.file) ds t left → LeftFrom new m ds t left) → Some (contents_of now fs) ≡ after
    → GoesOn (clock was (Some table.file)) (clock q (memory_of now)) (LeftFrom was (Some table.file) files) (LeftFrom q (memory_of now) fs) (IsLeftBetween before after)
renewed_goes was old new q table now files fs before after first second third none begun counted only keeps is =
    goes_like was old new q (Some table.file) (memory_of now) (memory_of now) files files fs (IsLeftBetween before after) first second refl third
    (goes old new (Some table.file) (memory_of now) files files (IsLeftBetween before after) (omega (arith, begun)) counted
    (λ t left since. subst (λ (n : ℕ). IsSince n (moments new) t (memory_of now) files left ⊎ LeftFrom old (Some table.file) files t left) (sym none) (only (memory_of now) files t left since))
    (keeps (memory_of now) files) (now_left now files before after (ap (λ (f : Drawers). Some (contents_of now f)) (sym third) ∙ is)))

-- a table beside which a file was removed has as many calls as its copy
pub removed_goes : (was old new : Past) (here here2 copy : Option MemDisk) (under files : Drawers) (before after : Option Contents) → old ≡ was → here2 ≡ here → memory_of copy ≡ memory_of here → below files ≡ under
    → begins new ≡ calls_of (memory_of copy) → moments new ≡ moments old + (calls_of (memory_of copy) - begins old) + 1
    → ((m : Option Memory) (ds : Drawers) (t : ℕ) (left : Left) → LeftFrom new m ds t left → IsSince (begins new) (moments new) t m ds left ⊎ LeftFrom old (memory_of copy) (below ds) t left)
    → ((m : Option Memory) (ds : Drawers) (t : ℕ) (left : Left) → LeftFrom old (memory_of copy) (below ds) t left → LeftFrom new m ds t left) → Some (contents_of here2 files) ≡ after
    → GoesOn (clock was (memory_of here)) (clock new (memory_of here2)) (LeftFrom was (memory_of here) under) (LeftFrom new (memory_of here2) files) (IsLeftBetween before after)
removed_goes was old new here here2 copy under files before after first table same lower begun counted only keeps is =
    let calls : calls_of (memory_of copy) ≡ calls_of (memory_of here) = ap calls_of same in
    goes_like was old new new (memory_of here) (memory_of here) (memory_of here2) under files files (IsLeftBetween before after) first refl (ap memory_of table) refl
    (goes old new (memory_of here) (memory_of here) under files (IsLeftBetween before after) (omega (arith, begun, calls)) (omega (arith, counted, calls))
    (λ t left since. subst (λ (m : Option Memory). IsSince (begins new) (moments new) t (memory_of here) files left ⊎ LeftFrom old m under t left) same
    (subst (λ (ds : Drawers). IsSince (begins new) (moments new) t (memory_of here) files left ⊎ LeftFrom old (memory_of copy) ds t left) lower (only (memory_of here) files t left since)))
    (λ t left past. keeps (memory_of here) files t left (subst (λ (ds : Drawers). LeftFrom old (memory_of copy) ds t left) (sym lower) (subst (λ (m : Option Memory). LeftFrom old m under t left) (sym same) past)))
    (now_left here files before after (ap (λ (d : Option MemDisk). Some (contents_of d files)) (sym table) ∙ is)))

-- what is here once a table, or none, was put
pub put_is : (now put : Option MemDisk) (files fs : Drawers) (file : Option File) → now ≡ put → option_map file_of (memory_of put) ≡ file → fs ≡ files
    → ◌≡◌ {A = Option Contents} (Some (contents_of now fs)) (Some (record { table = file; files = bytes_in files }))
put_is None None files fs file now_is is same = λ j. Some (record { table = is j; files = bytes_in (same j) })
put_is None (Some d) files fs file now_is is same = absurd (cc now_is)
put_is (Some d) None files fs file now_is is same = absurd (cc now_is)
put_is (Some d) (Some e) files fs file now_is is same = λ j. Some (record { table = (ap (λ (o : Option MemDisk). option_map file_of (memory_of o)) now_is ∙ is) j; files = bytes_in (same j) })

pub on_any : {F P : Type 0} (e : Down F) → P → OnNoMemory e P
on_any (Fault f) p = tt
on_any NoMemory p = p

pub cause_ok : {T U F : Type 0} (a b c : ℕ) (r : Result T (Down F)) (x : U) → c ≡ b → HasDownCause a b r → HasDownCause {T = U} {F = F} a c (Ok x)
cause_ok a b c r x same h = record { later = let l = h.later in omega (arith, l, same); failed = tt; as_before = tt }

pub cause_err : {T U F : Type 0} (a b c : ℕ) (e : Down F) → c ≡ b → HasDownCause {T = T} a b (Err e) → HasDownCause {T = U} a c (Err e)
cause_err {U = U} a b c e same h = subst (λ (n : ℕ). HasDownCause {T = U} a n (Err e)) (sym same) (record { later = h.later; failed = h.failed; as_before = h.as_before })

-- a file that is laid upon the others without bytes is gone
pub removed_is : (here2 here : Option MemDisk) (under was files : Drawers) (file : FileName) → here2 ≡ here → under ≡ was → ((n : FileName) → bytes_in files n ≡ (if same_name file n then None else bytes_in under n))
    → Some (contents_of here2 files) ≡ option_map (removed file) (Some (contents_of here was))
removed_is here2 here under was files file table same is = λ j. Some (record {
  table = option_map (λ (d : MemDisk). file_of d.file) (table j);
  files = λ n. (is n ∙ ap (λ (ds : Drawers). if same_name file n then None else bytes_in ds n) same) j;
})

pub same_contents : (a b : Option MemDisk) (fs files : Drawers) → a ≡ b → fs ≡ files → Some (contents_of a fs) ≡ Some (contents_of b files)
same_contents a b fs files table same = λ j. Some (contents_of (table j) (same j))

-- a drawer with one name and no bytes
pub laid_none : (named : FileName → Bool) (among : FileName → Option (List ℕ)) (under files : Drawers) (file : FileName) → ((n : FileName) → named n ≡ same_name file n) → ((n : FileName) → same_name file n ≡ true → among n ≡ None)
    → ((n : FileName) → bytes_in files n ≡ (if named n then among n else bytes_in under n)) → (n : FileName) → bytes_in files n ≡ (if same_name file n then None else bytes_in under n)
laid_none named among under files file same none laid n = laid n ∙ ap (λ (b : Bool). if b then among n else bytes_in under n) (same n) ∙ elim (is_or_not (same_name file n)) [
  | inl is ↦ ap (λ (b : Bool). if b then among n else bytes_in under n) is ∙ none n is ∙ sym (ap (λ (b : Bool). if b then None else bytes_in under n) is)
  | inr other ↦ ap (λ (b : Bool). if b then among n else bytes_in under n) other ∙ sym (ap (λ (b : Bool). if b then None else bytes_in under n) other)
]
