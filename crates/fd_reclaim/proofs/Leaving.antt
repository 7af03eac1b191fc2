-- What the calls leave of a dataset, and of the store.
use Rattle.std.proofs.Common.{◌≡◌, ◌∙◌, ℕ, Bool, true, false, List, [], Option, Some, None, refl, sym, ap, subst, inl, inr}
use Rattle.std.specs.Prelude.{◌⊎◌, IfSome, MatchOption, option_map, if◌then◌else◌}
use Rattle.fd_disk.specs.declared.file.File.{File}
use Rattle.fd_disk.specs.declared.folders.FileName.{FileName}
use Rattle.fd_disk.specs.Folders.{Contents, Holdings, IsTableLeft, Left, SameBut, WhereTold, folder_at}
use Rattle.fd_disk.specs.Images.{firm_file}
use Rattle.fd_entries.specs.declared.table.Entry.{Entry}
use Rattle.fd_purge.specs.Kept.{masked, unmasked}
use Rattle.fd_purge.specs.Stored.{IsLeftFirmly}
use Rattle.fd_purge.specs.Purging.{AreThinned, HasWiped, IsLeftByPurge, IsLeftByWipe, IsPurged, IsWhole, TableLists, is_gone, masks_of, read_of, without}
use Rattle.fd_outcome.specs.Reclaiming.{InDataset, IsLeft, PurgeDone, PurgeUnderWay, WipeDone, WipeUnderWay}

-- ---- of a dataset

thin_by : (dropped kept : List Entry) (files now : FileName → Option (List ℕ)) → ((n : FileName) → now n ≡ without dropped kept files n) → AreThinned dropped kept files now
thin_by dropped kept files now same n = by (is_gone dropped kept n) refl
  where
    by : (b : Bool) → is_gone dropped kept n ≡ b → (now n ≡ files n) ⊎ ((is_gone dropped kept n ≡ true) × (now n ≡ None))
    by true e = inr (e, same n ∙ ap (λ (b : Bool). if b then None else files n) e)
    by false e = inl (same n ∙ ap (λ (b : Bool). if b then None else files n) e)

bytes_left : (bytes : List ℕ) (c : Option (List ℕ)) → IsTableLeft (Some (firm_file bytes)) c → c ≡ Some bytes
bytes_left bytes None image = absurd image
bytes_left bytes (Some c) image = ap Some (image.settled refl)

-- what a purge has done may also be under way
pub purged_left : (dataset : List ℕ) (v w : Contents) → PurgeDone dataset v w → PurgeUnderWay dataset v w
purged_left dataset v w (dropped, kept, p) = record {
  reads = left (read_of w) (ap (option_map (λ (f : File). f.reads)) p.table) (λ n. refl);
  images = inr (λ x image. left x (bytes_left p.after x.table (subst (λ (t : Option File). IsTableLeft t x.table) p.table image.table)) image.files);
}
  where
    left : (x : Left) → x.table ≡ Some p.after → ((n : FileName) → x.files n ≡ w.files n) → IsLeftByPurge dataset v x
    left x table files = inr (record {
      file = p.file;
      is = p.is;
      entries = p.entries;
      lists = p.lists;
      table = subst (λ (t : Option (List ℕ)). TableLists dataset (unmasked (masks_of v.files p.entries) p.entries) t) (sym table) p.kept_are;
      files = thin_by (masked (masks_of v.files p.entries) p.entries) (unmasked (masks_of v.files p.entries) p.entries) v.files x.files (λ n. files n ∙ p.files n);
    })

-- and the same of a wipe
pub wiped_left : (dataset : List ℕ) (v w : Contents) → WipeDone dataset v w → WipeUnderWay dataset v w
wiped_left dataset v w (count, p) = record {
  reads = left (read_of w) (ap (option_map (λ (f : File). f.reads)) p.table) (λ n. refl);
  images = inr (λ x image. left x (subst (λ (t : Option File). IsTableLeft t x.table) p.table image.table) image.files);
}
  where
    left : (x : Left) → x.table ≡ None → ((n : FileName) → x.files n ≡ w.files n) → IsLeftByWipe dataset v x
    left x table files = inr (record {
      file = p.file;
      is = p.is;
      entries = p.entries;
      lists = p.lists;
      table = table;
      files = thin_by p.entries [] v.files x.files (λ n. files n ∙ p.files n);
    })

whole_same : (v : Contents) → IsWhole v (read_of v)
whole_same v = record { table = refl; files = λ n. refl }

-- an untouched dataset is under way
pub purge_idle : (dataset : List ℕ) (v : Contents) → PurgeUnderWay dataset v v
purge_idle dataset v = record { reads = inl (whole_same v); images = inl refl }

pub wipe_idle : (dataset : List ℕ) (v : Contents) → WipeUnderWay dataset v v
wipe_idle dataset v = record { reads = inl (whole_same v); images = inl refl }

-- ---- of a store

pub told_map : {A : Type 0} (a b : Option A) (P Q : A → A → Type 0) → ((x y : A) → P x y → Q x y) → WhereTold a b P → WhereTold a b Q
told_map None None P Q to w = tt
told_map None (Some y) P Q to w = absurd w
told_map (Some x) None P Q to w = absurd w
told_map (Some x) (Some y) P Q to w = to x y w

pub some_map : {A : Type 0} (a : Option A) (P Q : A → Type 0) → ((x : A) → P x → Q x) → IfSome a P → IfSome a Q
some_map None P Q to p = tt
some_map (Some x) P Q to p = to x p

pub some_both : {A : Type 0} (a : Option A) (P Q R : A → Type 0) → ((x : A) → P x → Q x → R x) → IfSome a P → IfSome a Q → IfSome a R
some_both None P Q R to p q = tt
some_both (Some x) P Q R to p q = to x p q

module _ (dataset : List ℕ) (R : Contents → Contents → Type 0) where
  -- this stands of the dataset, and all else is as it was
  pub stands_told : (a b : Option Holdings) → WhereTold a b (SameBut dataset) → IfSome a (λ h. IfSome b (λ i. R (folder_at h dataset) (folder_at i dataset))) → WhereTold a b (InDataset dataset R)
  stands_told None None others r = tt
  stands_told None (Some i) others r = absurd others
  stands_told (Some h) None others r = absurd others
  stands_told (Some h) (Some i) others r = record { others = others; there = r }

  pub refused_told : (a b : Option Holdings) → WhereTold a b (SameBut dataset) → IfSome a (λ h. MatchOption b ⊥ (λ i. R (folder_at h dataset) (folder_at i dataset))) → WhereTold a b (InDataset dataset R)
  refused_told None None others r = tt
  refused_told None (Some i) others r = absurd others
  refused_told (Some h) None others r = absurd others
  refused_told (Some h) (Some i) others r = record { others = others; there = r }

  -- the store is as it was
  pub same_told : (a b : Option Holdings) → b ≡ a → IfSome a (λ h. R (folder_at h dataset) (folder_at h dataset)) → WhereTold a b (InDataset dataset R)
  same_told a b same r = subst (λ x. WhereTold a x (InDataset dataset R)) (sym same) (go a r)
    where
      go : (o : Option Holdings) → IfSome o (λ h. R (folder_at h dataset) (folder_at h dataset)) → WhereTold o o (InDataset dataset R)
      go None r = tt
      go (Some h) r = record { others = record { schema = refl; others = λ other apart. refl }; there = r }

pub dataset_map : (dataset : List ℕ) (P Q : Contents → Contents → Type 0) → ((v w : Contents) → P v w → Q v w) → (a b : Option Holdings) → WhereTold a b (InDataset dataset P) → WhereTold a b (InDataset dataset Q)
dataset_map dataset P Q to a b w = told_map a b (InDataset dataset P) (InDataset dataset Q) (λ h i x. record { others = x.others; there = to (folder_at h dataset) (folder_at i dataset) x.there }) w

-- what is left is so, and firmly
pub left_both : (dataset : List ℕ) (P : Contents → Left → Type 0) (a b : Option Holdings) → IfSome a (λ h. MatchOption b ⊥ (λ i. P (folder_at h dataset) (read_of (folder_at i dataset))))
    → IfSome a (λ h. MatchOption b ⊥ (λ i. IsLeftFirmly (P (folder_at h dataset)) (folder_at h dataset) (folder_at i dataset)))
    → IfSome a (λ h. MatchOption b ⊥ (λ i. IsLeft (P (folder_at h dataset)) (folder_at h dataset) (folder_at i dataset)))
left_both dataset P None b r f = tt
left_both dataset P (Some h) None r f = absurd r
left_both dataset P (Some h) (Some i) r f = record { reads = r; images = f }
