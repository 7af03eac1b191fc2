-- What a crash may leave while things are out.
use Rattle.std.proofs.Common.{◌≡◌, ◌⊎◌, inl, inr, ⊎_elim, ◌↔◌, ◌≢◌, ◌==◌, ◌&&◌, if◌then◌else◌, ℕ, Bool, true, false, List, Option, Some, None, is_some, unwrap_or, refl, sym, ◌∙◌, ap, subst}
use Rattle.std.proofs.lemmas.Bool.Decides.{Decides-eqb}
use Rattle.std.specs.Str.{bytes_eq}
use Rattle.std.proofs.lemmas.Slice.Eq.{bytes_eq-Decides}
use Rattle.fd_disk.specs.declared.file.File.{File}
use Rattle.fd_disk.specs.declared.folders.FileName.{FileName}
use Rattle.fd_disk.specs.declared.folders.FileKind.TheVariants.{Fields, Index}
use Rattle.fd_disk.specs.Images.{IsImage, firm_file}
use Rattle.fd_disk.specs.Names.{name_of, same_name}
use Rattle.fd_disk.specs.Folders.{Contents, Holdings, HasBack, Left, IsFolderImage, IsFolderLeft, IsStoreImage, IsTableLeft, SameBut, folder_at, founded, keeping, no_contents, no_files, planted, with_table, without_table}
use Rattle.fd_disk.specs.Outstanding.{Shelved, Parts, IsKeptOr, IsFileLeft, IsDatasetImage, IsPlaceLeft, IsOutLeft, IsStoreLeft, IsLeftByFound, IsLeftByPlant, all_back, after_shelf, no_shelves, none_out, nothing_left, table_of, with_shelf}
use Rattle.fd_disk.specs.CrashLaws.{FolderWithAllBack, StoreWithAllBack, KeptStands, KeepsBoth, IsApart, SealedStands, NewShelfChangesNone, TableOutChangesNone, TableBackChangesNone, ShelfBackChangesNone, FolderBackChangesNone, FoundLeavesWhole, PlantLeavesWhole}
use Rattle.fd_disk.proofs.NameLemmas.{is_or_not, same_name_refl}

pub folder_all_back : FolderWithAllBack
folder_all_back v left = ((λ i. record { table = i.table; files = i.files }), (λ i. record { table = i.table; files = i.files }))

pub store_all_back : StoreWithAllBack
store_all_back s schema folders = ((λ i. record { schema_is = i.schema_is; folders_are = i.folders_are }), (λ i. record { schema_is = i.schema_is; folders_are = i.folders_are }))

-- what its writer's shelf says of a file
file_by : (d : Parts) (o : Option Shelved) (n : FileName) (left : Left) → d.shelves n.writer ≡ o → IsDatasetImage d left → IsFileLeft o n (d.folder.files n) (left.files n)
file_by d o n left is image = subst (λ (x : Option Shelved). IsFileLeft x n (d.folder.files n) (left.files n)) is (image.files n)

pub kept_stands : KeptStands
kept_stands d s n bytes left is kept image = subst (λ (k : Option (List ℕ)). IsKeptOr k (s.created n) (d.folder.files n) (left.files n)) kept (file_by d (Some s) n left is image)

fields_kept : (kept : FileName → Option (List ℕ)) (w seq : ℕ) (fields index : List ℕ) (before : Option (FileName → Option (List ℕ)))
    → Some kept ≡ keeping (name_of w seq Index) (Some index) (keeping (name_of w seq Fields) (Some fields) before)
    → (kept (name_of w seq Fields) ≡ Some fields) × (kept (name_of w seq Index) ≡ Some index)
fields_kept kept w seq fields index None is = absurd (cc is)
fields_kept kept w seq fields index (Some b) is =
    let f = name_of w seq Fields in
    let n = name_of w seq Index in
    let now : kept ≡ (λ m. if same_name n m then Some index else (if same_name f m then Some fields else b m)) = cc is in
    let other : same_name n f ≡ false = other_kind (w == w) (seq == seq) in (
      ap (λ (k : FileName → Option (List ℕ)). k f) now
          ∙ ap (λ (t : Bool). if t then Some index else (if same_name f f then Some fields else b f)) other
          ∙ ap (λ (t : Bool). if t then Some fields else b f) (same_name_refl f),
      ap (λ (k : FileName → Option (List ℕ)). k n) now
          ∙ ap (λ (t : Bool). if t then Some index else (if same_name f n then Some fields else b n)) (same_name_refl n),
    )
  where
    other_kind : (x y : Bool) → (x && y && false) ≡ false
    other_kind true true = refl
    other_kind true false = refl
    other_kind false y = refl

pub keeps_both : KeepsBoth
keeps_both d s w seq fields index before left is out image =
    let both = fields_kept s.kept w seq fields index before is in
    (kept_stands d s (name_of w seq Fields) fields left out both.0 image, kept_stands d s (name_of w seq Index) index left out both.1 image)

apart_is : (o : Option Shelved) (n : FileName) (here left : Option (List ℕ)) → IsApart o n → IsFileLeft o n here left → left ≡ here
apart_is None n here left apart is = is
apart_is (Some s) n here left apart is =
    subst (λ (b : Bool). IsKeptOr None b here left) apart.1 (subst (λ (k : Option (List ℕ)). IsKeptOr k (s.created n) here left) apart.0 is)

is_apart : (o : Option Shelved) (n : FileName) (here left : Option (List ℕ)) → IsApart o n → left ≡ here → IsFileLeft o n here left
is_apart None n here left apart is = is
is_apart (Some s) n here left apart is =
    subst (λ (k : Option (List ℕ)). IsKeptOr k (s.created n) here left) (sym apart.0) (subst (λ (b : Bool). IsKeptOr None b here left) (sym apart.1) is)

pub sealed_stands : SealedStands
sealed_stands d n bytes left has apart image = apart_is (d.shelves n.writer) n (d.folder.files n) (left.files n) apart (image.files n) ∙ has

pub table_out : TableOutChangesNone
table_out v f shelves left is = (
  (λ i. record { table = subst (λ (t : Option File). IsTableLeft t left.table) (sym is) i.table; files = i.files }),
  (λ i. record { table = subst (λ (t : Option File). IsTableLeft t left.table) is i.table; files = i.files }),
)

pub table_back : TableBackChangesNone
table_back old new f shelves left is =
    let now : new ≡ record { table = Some f; files = old.files } = cc is in (
      (λ i. let j = subst (λ (v : Contents). IsDatasetImage (record { folder = v; table = None; shelves = shelves }) left) now i in record { table = j.table; files = j.files }),
      (λ i. subst (λ (v : Contents). IsDatasetImage (record { folder = v; table = None; shelves = shelves }) left) (sym now) (record { table = i.table; files = i.files })),
    )

module _ (d : Parts) (w : ℕ) (s : Shelved) (left : Left) (apart : (n : FileName) → (s.kept n ≡ None) × (s.created n ≡ false)) (out : d.shelves w ≡ None) where
  new_file : (n : FileName) → IsFileLeft ((with_shelf w s d).shelves n.writer) n (d.folder.files n) (left.files n) ↔ IsFileLeft (d.shelves n.writer) n (d.folder.files n) (left.files n)
  new_file n = elim (is_or_not (n.writer == w)) [
    | inl same ↦
        let e : n.writer ≡ w = (Decides-eqb n.writer w).0 same in
        let now : (with_shelf w s d).shelves n.writer ≡ Some s = ap (λ (b : Bool). if b then Some s else d.shelves n.writer) same in
        let before : d.shelves n.writer ≡ None = ap d.shelves e ∙ out in (
          (λ i. subst (λ (o : Option Shelved). IsFileLeft o n (d.folder.files n) (left.files n)) (sym before)
              (apart_is (Some s) n (d.folder.files n) (left.files n) (apart n) (subst (λ (o : Option Shelved). IsFileLeft o n (d.folder.files n) (left.files n)) now i))),
          (λ i. subst (λ (o : Option Shelved). IsFileLeft o n (d.folder.files n) (left.files n)) (sym now)
              (is_apart (Some s) n (d.folder.files n) (left.files n) (apart n) (subst (λ (o : Option Shelved). IsFileLeft o n (d.folder.files n) (left.files n)) before i))),
        )
    | inr other ↦
        let now : (with_shelf w s d).shelves n.writer ≡ d.shelves n.writer = ap (λ (b : Bool). if b then Some s else d.shelves n.writer) other in (
          (λ i. subst (λ (o : Option Shelved). IsFileLeft o n (d.folder.files n) (left.files n)) now i),
          (λ i. subst (λ (o : Option Shelved). IsFileLeft o n (d.folder.files n) (left.files n)) (sym now) i),
        )
  ]

  new_shelf_one : IsDatasetImage (with_shelf w s d) left ↔ IsDatasetImage d left
  new_shelf_one = ((λ i. record { table = i.table; files = λ n. (new_file n).0 (i.files n) }), (λ i. record { table = i.table; files = λ n. (new_file n).1 (i.files n) }))

pub new_shelf : NewShelfChangesNone
new_shelf d w s left out apart = new_shelf_one d w s left apart out

-- what a shelf that comes back makes of a file
back_file : (kept : Option (List ℕ)) (created : Bool) (old new left : Option (List ℕ)) → ((bytes : List ℕ) → kept ≡ Some bytes → new ≡ Some bytes) → (created ≡ false → new ≡ old)
    → (left ≡ new → IsKeptOr kept created old left) × (IsKeptOr kept created old left → (created ≡ true → kept ≡ None → left ≡ new) → left ≡ new)
back_file (Some bytes) created old new left kept other = ((λ is. is ∙ kept bytes refl), (λ is open_. is ∙ sym (kept bytes refl)))
back_file None true old new left kept other = ((λ is. tt), (λ is open_. open_ refl refl))
back_file None false old new left kept other = ((λ is. is ∙ other refl), (λ is open_. is ∙ sym (other refl)))

not_created : (b : Bool) → (b ≡ true → ⊥) → b ≡ false
not_created true never = absurd (never refl)
not_created false never = refl

module _ (d : Parts) (w : ℕ) (s : Shelved) (v : Contents) (left : Left) (out : d.shelves w ≡ Some s) (own : (n : FileName) → s.created n ≡ true → n.writer ≡ w) (back : HasBack d.folder v s.kept s.created) where
  back_of : (n : FileName) → (IsFileLeft ((after_shelf w v d).shelves n.writer) n (v.files n) (left.files n) → IsFileLeft (d.shelves n.writer) n (d.folder.files n) (left.files n))
      × (IsFileLeft (d.shelves n.writer) n (d.folder.files n) (left.files n) → (s.created n ≡ true → s.kept n ≡ None → left.files n ≡ v.files n) → IsFileLeft ((after_shelf w v d).shelves n.writer) n (v.files n) (left.files n))
  back_of n = elim (is_or_not (n.writer == w)) [
    | inl same ↦
        let e : n.writer ≡ w = (Decides-eqb n.writer w).0 same in
        let now : (after_shelf w v d).shelves n.writer ≡ None = ap (λ (b : Bool). if b then None else d.shelves n.writer) same in
        let before : d.shelves n.writer ≡ Some s = ap d.shelves e ∙ out in
        let ways = back_file (s.kept n) (s.created n) (d.folder.files n) (v.files n) (left.files n) (back.kept_are n) (back.others n) in (
          (λ i. subst (λ (o : Option Shelved). IsFileLeft o n (d.folder.files n) (left.files n)) (sym before)
              (ways.0 (subst (λ (o : Option Shelved). IsFileLeft o n (v.files n) (left.files n)) now i))),
          (λ i loose. subst (λ (o : Option Shelved). IsFileLeft o n (v.files n) (left.files n)) (sym now)
              (ways.1 (subst (λ (o : Option Shelved). IsFileLeft o n (d.folder.files n) (left.files n)) before i) loose)),
        )
    | inr other ↦
        let now : (after_shelf w v d).shelves n.writer ≡ d.shelves n.writer = ap (λ (b : Bool). if b then None else d.shelves n.writer) other in
        let foreign : s.created n ≡ false = not_created (s.created n) (λ is. absurd (cc (other, (Decides-eqb n.writer w).1 (own n is)))) in
        let same : v.files n ≡ d.folder.files n = back.others n foreign in (
          (λ i. subst (λ (h : Option (List ℕ)). IsFileLeft (d.shelves n.writer) n h (left.files n)) same (subst (λ (o : Option Shelved). IsFileLeft o n (v.files n) (left.files n)) now i)),
          (λ i loose. subst (λ (o : Option Shelved). IsFileLeft o n (v.files n) (left.files n)) (sym now) (subst (λ (h : Option (List ℕ)). IsFileLeft (d.shelves n.writer) n h (left.files n)) (sym same) i)),
        )
  ]

  table_same : table_of d.table v.table ≡ table_of d.table d.folder.table
  table_same = ap (table_of d.table) back.table

  shelf_back_one : (IsDatasetImage (after_shelf w v d) left → IsDatasetImage d left)
      × (IsDatasetImage d left → ((n : FileName) → s.created n ≡ true → s.kept n ≡ None → left.files n ≡ v.files n) → IsDatasetImage (after_shelf w v d) left)
  shelf_back_one = (
    (λ i. record { table = subst (λ (t : Option File). IsTableLeft t left.table) table_same i.table; files = λ n. (back_of n).0 (i.files n) }),
    (λ i loose. record { table = subst (λ (t : Option File). IsTableLeft t left.table) (sym table_same) i.table; files = λ n. (back_of n).1 (i.files n) (loose n) }),
  )

pub shelf_back : ShelfBackChangesNone
shelf_back d w s v left out own back = shelf_back_one d w s v left out own back

-- a folder that comes back with all its parts
place_back : (v : Contents) (here : Option Contents) (left : Option Left) → v ≡ unwrap_or here no_contents → IsFolderLeft here left → IsOutLeft (all_back v) left
place_back v None left is image = subst (λ (x : Contents). IsOutLeft (all_back x) left) (sym is) (subst (λ (l : Option Left). IsOutLeft (all_back no_contents) l) (sym image) (record { table = refl; files = λ n. refl }))
place_back v (Some w) None is image = absurd image
place_back v (Some w) (Some left) is image = subst (λ (x : Contents). IsDatasetImage (all_back x) left) (sym is) (record { table = image.table; files = image.files })

place_from : (v : Contents) (here : Option Contents) (left : Option Left) → v ≡ unwrap_or here no_contents → is_some left ≡ is_some here → IsOutLeft (all_back v) left → IsFolderLeft here left
place_from v None None is there image = refl
place_from v None (Some left) is there image = absurd (cc there)
place_from v (Some w) None is there image = absurd (cc there)
place_from v (Some w) (Some left) is there image =
    let i = subst (λ (x : Contents). IsDatasetImage (all_back x) left) is image in
    record { table = i.table; files = i.files }

module _ (old new : Holdings) (name : List ℕ) (v : Contents) (before after : List ℕ → Option Parts) (schema : Option (List ℕ)) (folders : List ℕ → Option Left)
    (same : SameBut name old new) (is : v ≡ folder_at new name) (was : before name ≡ Some (all_back v)) (gone : after name ≡ None)
    (others : (other : List ℕ) → other ≢ name → after other ≡ before other) where
  place_of : (other : List ℕ) → (IsPlaceLeft (after other) (new.folders other) (folders other) → IsPlaceLeft (before other) (old.folders other) (folders other))
      × (IsPlaceLeft (before other) (old.folders other) (folders other) → is_some (folders name) ≡ is_some (new.folders name) → IsPlaceLeft (after other) (new.folders other) (folders other))
  place_of other = elim (is_or_not (bytes_eq other name)) [
    | inl equal ↦
        let e : other ≡ name = (bytes_eq-Decides other name).0 equal in
        let now : after other ≡ None = ap after e ∙ gone in
        let then_ : before other ≡ Some (all_back v) = ap before e ∙ was in
        let has : v ≡ unwrap_or (new.folders other) no_contents = is ∙ ap (λ (x : List ℕ). unwrap_or (new.folders x) no_contents) (sym e) in (
          (λ i. subst (λ (o : Option Parts). IsPlaceLeft o (old.folders other) (folders other)) (sym then_)
              (place_back v (new.folders other) (folders other) has (subst (λ (o : Option Parts). IsPlaceLeft o (new.folders other) (folders other)) now i))),
          (λ i there. subst (λ (o : Option Parts). IsPlaceLeft o (new.folders other) (folders other)) (sym now)
              (place_from v (new.folders other) (folders other) has (ap (λ (x : List ℕ). is_some (folders x)) e ∙ there ∙ ap (λ (x : List ℕ). is_some (new.folders x)) (sym e))
              (subst (λ (o : Option Parts). IsPlaceLeft o (old.folders other) (folders other)) then_ i))),
        )
    | inr differs ↦
        let apart : other ≢ name = λ e. absurd (cc (differs, (bytes_eq-Decides other name).1 e)) in
        let now : after other ≡ before other = others other apart in
        let here : new.folders other ≡ old.folders other = same.others other apart in (
          (λ i. subst (λ (h : Option Contents). IsPlaceLeft (before other) h (folders other)) here (subst (λ (o : Option Parts). IsPlaceLeft o (new.folders other) (folders other)) now i)),
          (λ i there. subst (λ (o : Option Parts). IsPlaceLeft o (new.folders other) (folders other)) (sym now) (subst (λ (h : Option Contents). IsPlaceLeft (before other) h (folders other)) (sym here) i)),
        )
  ]

  folder_back_one : (IsStoreLeft new after schema folders → IsStoreLeft old before schema folders)
      × (IsStoreLeft old before schema folders → is_some (folders name) ≡ is_some (new.folders name) → IsStoreLeft new after schema folders)
  folder_back_one = (
    (λ i. record { schema_is = i.schema_is ∙ same.schema; folders_are = λ other. (place_of other).0 (i.folders_are other) }),
    (λ i there. record { schema_is = i.schema_is ∙ sym same.schema; folders_are = λ other. (place_of other).1 (i.folders_are other) there }),
  )

pub folder_back : FolderBackChangesNone
folder_back old new name v before after schema folders same is was gone others = folder_back_one old new name v before after schema folders same is was gone others

first_table : (first : List ℕ) (left : Option (List ℕ)) → IsTableLeft (Some (firm_file first)) left → left ≡ Some first
first_table first None image = absurd image
first_table first (Some c) image = ap Some (image.settled refl)

pub found_leaves : FoundLeavesWhole
found_leaves first v left none (inl before) = (inl (subst (λ (t : Option File). IsTableLeft t left.table) none before.table), before.files)
found_leaves first v left none (inr after) = (inr (first_table first left.table after.table), after.files)

pub plant_leaves : PlantLeavesWhole
plant_leaves text s schema folders none (inl before) = (inl (before.schema_is ∙ none), record { schema_is = refl; folders_are = before.folders_are })
plant_leaves text s schema folders none (inr after) = (inr after.schema_is, record { schema_is = refl; folders_are = after.folders_are })
