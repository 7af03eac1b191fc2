-- What is found of a purge and of a wipe.
use Rattle.std.proofs.Common.{◌≡◌, ◌∙◌, inl, inr, ℕ, Bool, true, false, List, [], Option, Some, None, IfSome, refl, sym, ap, subst}
use Rattle.std.specs.Prelude.{◌⊎◌, option_map, if◌then◌else◌, unwrap_or}
use Rattle.fd_disk.specs.declared.file.File.{File}
use Rattle.fd_disk.specs.declared.folders.FileName.{FileName}
use Rattle.fd_disk.specs.Folders.{Contents, Holdings, IsTableLeft, Left, WhereTold, folder_at, no_contents}
use Rattle.fd_disk.specs.Images.{firm_file}
use Rattle.fd_entries.specs.declared.batch.Pair.{Pair}
use Rattle.fd_entries.specs.declared.table.Entry.{Entry}
use Rattle.fd_recovery.specs.Recovered.{held, held_by}
use Rattle.fd_purge.specs.Kept.{kept, masked, unmasked}
use Rattle.fd_purge.specs.Stored.{IsLeftFirmly}
use Rattle.fd_purge.specs.Purging.{AreThinned, IsLeftByPurge, IsLeftByWipe, PurgeKeeps, TableLists, WipeKeeps, held_left, is_gone, masks_of, read_of, without}
use Rattle.fd_stored.specs.declared.status.Status.{Status}
use Rattle.fd_stored.specs.declared.status.Status.TheVariants.{Done, Missed, Words, Refused, InputFault, OutputFault, DiskFault, NoMemory, Damaged, Limit}
use Rattle.fd_outcome.specs.Reclaiming.{InDataset, IsLeft, LeavesPurged, LeavesReclaimed, LeavesWiped, PurgeDone, WipeDone}
use Rattle.fd_archive.specs.Crashing.{IsAfterCrash}
use Rattle.fd_stops.specs.Found.{EachLeft, FoundReclaimed, HasOldOr, IsFolderAfter}
use Rattle.fd_stops.proofs.Folders.{firm_same, folder_after}

-- ---- what is done is left by each crash

thin_by : (dropped kept : List Entry) (files now : FileName → Option (List ℕ)) → ((n : FileName) → now n ≡ without dropped kept files n) → AreThinned dropped kept files now
thin_by dropped kept files now same n = by (is_gone dropped kept n) refl
  where
    by : (b : Bool) → is_gone dropped kept n ≡ b → (now n ≡ files n) ⊎ ((is_gone dropped kept n ≡ true) × (now n ≡ None))
    by true e = inr (e, same n ∙ ap (λ (b : Bool). if b then None else files n) e)
    by false e = inl (same n ∙ ap (λ (b : Bool). if b then None else files n) e)

bytes_left : (bytes : List ℕ) (c : Option (List ℕ)) → IsTableLeft (Some (firm_file bytes)) c → c ≡ Some bytes
bytes_left bytes None image = absurd image
bytes_left bytes (Some c) image = ap Some (image.settled refl)

purged_left : (dataset : List ℕ) (v w : Contents) → PurgeDone dataset v w → IsLeftFirmly (IsLeftByPurge dataset v) v w
purged_left dataset v w (dropped, count, p) = inr (λ x image. inr (record {
  file = p.file;
  is = p.is;
  entries = p.entries;
  lists = p.lists;
  table = subst (λ (t : Option (List ℕ)). TableLists dataset (unmasked (masks_of v.files p.entries) p.entries) t) (sym (bytes_left p.after x.table (subst (λ (t : Option File). IsTableLeft t x.table) p.table image.table))) p.kept_are;
  files = thin_by (masked (masks_of v.files p.entries) p.entries) (unmasked (masks_of v.files p.entries) p.entries) v.files x.files (λ n. image.files n ∙ p.files n);
}))

wiped_left : (dataset : List ℕ) (v w : Contents) → WipeDone dataset v w → IsLeftFirmly (IsLeftByWipe dataset v) v w
wiped_left dataset v w (count, p) = inr (λ x image. inr (record {
  file = p.file;
  is = p.is;
  entries = p.entries;
  lists = p.lists;
  table = subst (λ (t : Option File). IsTableLeft t x.table) p.table image.table;
  files = thin_by p.entries [] v.files x.files (λ n. image.files n ∙ p.files n);
}))

-- ---- of any status

module _ (dataset : List ℕ) (P : Contents → Left → Type 0) (done : Contents → Contents → Type 0) (left : (v w : Contents) → done v w → IsLeftFirmly (P v) v w) where
  firmly : (s : Status) (v w : Contents) → LeavesReclaimed done (λ v w. IsLeft (P v) v w) s v w → IsLeftFirmly (P v) v w
  firmly Done v w x = left v w x
  firmly Missed v w x = absurd x
  firmly Words v w x = absurd x
  firmly Refused v w x = inl x
  firmly InputFault v w x = absurd x
  firmly OutputFault v w x = x.images
  firmly DiskFault v w x = x.images
  firmly NoMemory v w x = x.images
  firmly Damaged v w x = x.images
  firmly Limit v w x = x.images

  there : (v w x : Contents) → IsLeftFirmly (P v) v w → IsFolderAfter w x → IsFolderAfter v x ⊎ P v (read_of x)
  there v w x firm after = elim firm [
    | inl same ↦ inl (subst (λ (c : Contents). IsFolderAfter c x) same after)
    | inr images ↦ inr (images (read_of x) after.image)
  ]

  pub reclaimed : (s : Status) (h i : Holdings) → InDataset dataset (LeavesReclaimed done (λ v w. IsLeft (P v) v w) s) h i → (j : Holdings) → IsAfterCrash i j → FoundReclaimed dataset P h j
  reclaimed s h i x j after = record {
    schema = after.image.schema_is ∙ x.others.schema;
    others = λ other apart. subst (λ (c : Contents). IsFolderAfter c (folder_at j other)) (ap (λ (o : Option Contents). unwrap_or o no_contents) (x.others.others other apart)) (folder_after i j after other);
    there = there (folder_at h dataset) (folder_at i dataset) (folder_at j dataset) (firmly s (folder_at h dataset) (folder_at i dataset) x.there) (folder_after i j after dataset);
  }

-- what is held depends on what a read gives
held_read : (dataset : List ℕ) (v : Contents) → held dataset v ≡ held_left dataset (read_of v)
held_read dataset v = by v.table
  where
    by : (t : Option File) → held_by dataset v.files t ≡ held_by dataset v.files (option_map firm_file (option_map (λ f. f.reads) t))
    by None = refl
    by (Some f) = refl

module _ (dataset : List ℕ) (P : Contents → Left → Type 0) (new : List (List Pair) → List (List Pair)) (h j : Holdings) (found : FoundReclaimed dataset P h j) where
  pub old_or : ((left : Left) → P (folder_at h dataset) left → (held_left dataset left ≡ held dataset (folder_at h dataset)) ⊎ IfSome (held dataset (folder_at h dataset)) (λ t. held_left dataset left ≡ Some (new t))) → HasOldOr new dataset h j
  old_or keeps firm t is = elim found.there [
    | inl same ↦ inl (ap (held dataset) (firm_same (folder_at h dataset) (folder_at j dataset) (firm dataset) same) ∙ is)
    | inr p ↦ elim (keeps (read_of (folder_at j dataset)) p) [
      | inl all ↦ inl (held_read dataset (folder_at j dataset) ∙ all ∙ is)
      | inr now ↦ inr (held_read dataset (folder_at j dataset) ∙ subst (λ (o : Option (List (List Pair))). IfSome o (λ u. held_left dataset (read_of (folder_at j dataset)) ≡ Some (new u))) is now)
    ]
  ]

-- ---- of a store

each_left : (P Q : Holdings → Holdings → Type 0) → ((h i : Holdings) → P h i → EachLeft Q h i) → (a b : Option Holdings) → WhereTold a b P → WhereTold a b (EachLeft Q)
each_left P Q to None None x = tt
each_left P Q to None (Some i) x = absurd x
each_left P Q to (Some h) None x = absurd x
each_left P Q to (Some h) (Some i) x = to h i x

pub purge_found : (s : Status) (dataset : List ℕ) (a b : Option Holdings) → WhereTold a b (InDataset dataset (LeavesPurged s dataset)) → WhereTold a b (EachLeft (FoundReclaimed dataset (IsLeftByPurge dataset)))
purge_found s dataset = each_left (InDataset dataset (LeavesPurged s dataset)) (FoundReclaimed dataset (IsLeftByPurge dataset)) (reclaimed dataset (IsLeftByPurge dataset) (PurgeDone dataset) (purged_left dataset) s)

pub purge_holds : PurgeKeeps → (s : Status) (dataset : List ℕ) (a b : Option Holdings) → WhereTold a b (InDataset dataset (LeavesPurged s dataset)) → WhereTold a b (EachLeft (HasOldOr kept dataset))
purge_holds keeps s dataset = each_left (InDataset dataset (LeavesPurged s dataset)) (HasOldOr kept dataset)
    (λ h i x j after. old_or dataset (IsLeftByPurge dataset) kept h j (reclaimed dataset (IsLeftByPurge dataset) (PurgeDone dataset) (purged_left dataset) s h i x j after) (keeps dataset (folder_at h dataset)))

pub wipe_found : (s : Status) (dataset : List ℕ) (a b : Option Holdings) → WhereTold a b (InDataset dataset (LeavesWiped s dataset)) → WhereTold a b (EachLeft (FoundReclaimed dataset (IsLeftByWipe dataset)))
wipe_found s dataset = each_left (InDataset dataset (LeavesWiped s dataset)) (FoundReclaimed dataset (IsLeftByWipe dataset)) (reclaimed dataset (IsLeftByWipe dataset) (WipeDone dataset) (wiped_left dataset) s)

-- what holds nothing holds the batches of an empty table
or_none : (o p : Option (List (List Pair))) → (p ≡ o) ⊎ (p ≡ Some []) → (p ≡ o) ⊎ IfSome o (λ t. p ≡ Some [])
or_none o p (inl same) = inl same
or_none None p (inr none) = inr tt
or_none (Some t) p (inr none) = inr none

pub wipe_holds : WipeKeeps → (s : Status) (dataset : List ℕ) (a b : Option Holdings) → WhereTold a b (InDataset dataset (LeavesWiped s dataset)) → WhereTold a b (EachLeft (HasOldOr (λ t. []) dataset))
wipe_holds keeps s dataset = each_left (InDataset dataset (LeavesWiped s dataset)) (HasOldOr (λ t. []) dataset)
    (λ h i x j after. old_or dataset (IsLeftByWipe dataset) (λ t. []) h j (reclaimed dataset (IsLeftByWipe dataset) (WipeDone dataset) (wiped_left dataset) s h i x j after)
    (λ left p. or_none (held dataset (folder_at h dataset)) (held_left dataset left) (keeps dataset (folder_at h dataset) left p)))
