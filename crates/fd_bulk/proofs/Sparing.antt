-- A damaged dataset isn't opened, so it was only looked into.
use Rattle.std.proofs.Common.{◌≡◌, inl, inr, ℕ, true, false, List, [], Option, Some, None, IfSome, Result, Ok, Err, refl, sym, ap, subst}
use Rattle.std.specs.Prelude.{◌⊎◌, option_map}
use Rattle.fd_disk.specs.declared.file.File.{File}
use Rattle.fd_disk.specs.Folders.{Contents, Holdings, WhereTold, folder_at}
use Rattle.fd_disk.specs.Images.{synced}
use Rattle.fd_entries.specs.declared.table.Entry.{Entry}
use Rattle.fd_entries.specs.Table.{listed}
use Rattle.fd_key.specs.Pairs.{Pair}
use Rattle.fd_recovery.specs.Damages.{damages}
use Rattle.fd_recovery.specs.Recovered.{IsUndamaged, ReadsImage}
use Rattle.fd_schema.specs.Rules.{Rule}
use Rattle.fd_library.specs.Open.{OpenDataset, among, names_of}
use Rattle.fd_library.specs.Stores.{GivesBack, KeepsFolder, KeepsTable}
use Rattle.fd_stored.specs.Archiving.{Stored}
use Rattle.fd_stored.specs.Sparing.{SparesDamaged}
use Rattle.fd_stored.specs.Store.{IsLookedAt}
use Rattle.fd_bulk.specs.declared.bulk.Bulk.{Bulk}
use Rattle.fd_bulk.specs.declared.bulk.BulkFault.{BulkFault}
use Rattle.fd_bulk.specs.declared.bulk.BulkFault.TheVariants as faults
use Rattle.fd_bulk.specs.Archived.{Archived, Grows, GrowsAll, RefusedArchived, StoppedArchived}
use Rattle.fd_bulk.proofs.Keeping.{keeps_on}
use Rattle.fd_bulk.proofs.Tellings.{through}
use Rattle.fd_bulk.proofs.Texts.{true_or_false}

-- ---- one dataset

spared_table : (name : List ℕ) (v : Contents) (a b : Option File) → v.table ≡ a → KeepsTable name a b → ¬ (IsUndamaged name v) → (b ≡ a) ⊎ ((b ≡ option_map synced a) × ReadsImage a)
spared_table name v None b is keeps damaged = absurd (damaged (subst (λ (o : Option File). IfSome o (λ f. (es : List Entry) × (listed name f.reads ≡ Ok es) × (damages v.files es ≡ []))) (sym is) tt))
spared_table name v (Some f) None is keeps damaged = absurd keeps
spared_table name v (Some f) (Some g) is (inl e) damaged = inl (ap Some e)
spared_table name v (Some f) (Some g) is (inr (e, image)) damaged = inr (ap Some e, image)

spared : (name : List ℕ) (v w : Contents) → KeepsFolder name v w → ¬ (IsUndamaged name v) → IsLookedAt v w
spared name v w keeps damaged = record { files = keeps.files; table = spared_table name v v.table w.table refl keeps.table damaged }

pub same_spared : (start : Option Holdings) → WhereTold start start SparesDamaged
same_spared None = tt
same_spared (Some s) = λ name damaged. record { files = refl; table = inl refl }

-- ---- all datasets

module _ {D : Type 0} (each : List (OpenDataset D)) where
  -- the open datasets weren't damaged, and the others were only looked into
  pub record Parts (s t : Holdings) : Type 0 where
    pub sound : (name : List ℕ) → among name (names_of each) ≡ true → IsUndamaged name (folder_at s name)
    pub keeps : (name : List ℕ) → among name (names_of each) ≡ false → KeepsFolder name (folder_at s name) (folder_at t name)

  spares : (s t : Holdings) → Parts s t → SparesDamaged s t
  spares s t p name damaged = elim (true_or_false (among name (names_of each))) as (λ _. IsLookedAt (folder_at s name) (folder_at t name)) [
    | inl opened ↦ absurd (damaged (p.sound name opened))
    | inr out ↦ spared name (folder_at s name) (folder_at t name) (p.keeps name out) damaged
  ]

  pub parts_spared : (start now : Option Holdings) → WhereTold start now Parts → WhereTold start now SparesDamaged
  parts_spared None None p = tt
  parts_spared None (Some t) p = absurd p
  parts_spared (Some s) None p = absurd p
  parts_spared (Some s) (Some t) p = spares s t p

  -- and once all is given back
  pub parts_back : (has : D → Option Contents) (start now later : Option Holdings) → WhereTold start now Parts → WhereTold now later (GivesBack has each) → WhereTold start later SparesDamaged
  parts_back has start now later parts given = through start now later Parts (GivesBack has each) SparesDamaged parts given
      (λ s t u p g. spares s u (record { sound = p.sound; keeps = λ name out. keeps_on name s t u (g.others name out) (p.keeps name out) }))

-- ---- by each answer

module _ {D : Type 0} (has : D → Option Contents) (workers : ℕ) (rules : List Rule) (given : List Pair) (left after : Option (List ℕ)) (start now : Option Holdings) (each : List (OpenDataset D)) where
  abbrev AreParted : Type 0
  AreParted = WhereTold start now (Parts each)

  parts_some : (all : List Stored) → WhereTold start now (Grows has workers all each) → AreParted
  parts_some all grows = go start now grows
    where
      go : (a b : Option Holdings) → WhereTold a b (Grows has workers all each) → WhereTold a b (Parts each)
      go None None w = tt
      go None (Some t) w = absurd w
      go (Some s) None w = absurd w
      go (Some s) (Some t) w = record { sound = w.sound; keeps = w.keeps }

  parts_all : (all : List Stored) → WhereTold start now (GrowsAll has workers all each) → AreParted
  parts_all all grows = go start now grows
    where
      go : (a b : Option Holdings) → WhereTold a b (GrowsAll has workers all each) → WhereTold a b (Parts each)
      go None None w = tt
      go None (Some t) w = absurd w
      go (Some s) None w = absurd w
      go (Some s) (Some t) w = record { sound = w.sound; keeps = w.keeps }

  module _ {X : Type 0} where
    parts_refused : (fault : BulkFault X) → RefusedArchived has workers rules given left after start now each fault → AreParted
    parts_refused fault w = parts_all w.all w.grows

    parts_stopped : (fault : BulkFault X) → StoppedArchived has workers rules given left after start now each fault → AreParted
    parts_stopped fault w = parts_some w.all w.grows

    pub parts_of : (r : Result Bulk (BulkFault X)) → Archived has workers rules given left after start now each r → AreParted
    parts_of (Ok bulk) w = parts_all w.all w.grows
    parts_of (Err (faults.Input f)) w = parts_all w.all w.grows
    parts_of (Err (faults.Message at)) w = parts_refused (faults.Message at) w
    parts_of (Err (faults.NoMap number field)) w = parts_refused (faults.NoMap number field) w
    parts_of (Err (faults.Cut t)) w = parts_refused (faults.Cut t) w
    parts_of (Err (faults.Key number fault)) w = parts_refused (faults.Key number fault) w
    parts_of (Err (faults.NoRule number text)) w = parts_refused (faults.NoRule number text) w
    parts_of (Err faults.Disk) w = parts_stopped faults.Disk w
    parts_of (Err (faults.NotATable dataset at want found)) w = parts_stopped (faults.NotATable dataset at want found) w
    parts_of (Err (faults.Damaged dataset damage)) w = parts_stopped (faults.Damaged dataset damage) w
    parts_of (Err (faults.TableFull count)) w = parts_stopped (faults.TableFull count) w
    parts_of (Err (faults.TooMany count)) w = parts_refused (faults.TooMany count) w
    parts_of (Err faults.InputLimit) w = parts_refused faults.InputLimit w
    parts_of (Err faults.NoMemory) w = parts_stopped faults.NoMemory w
