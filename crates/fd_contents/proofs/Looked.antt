-- A store whose folders were only looked into: what stays of it, and what isn't damaged in it.
use Rattle.std.proofs.Common.{◌≡◌, ◌∙◌, inl, inr, ℕ, List, [], Option, Some, None, IfSome, false, true≢false, refl, sym, ap, subst}
use Rattle.std.specs.Prelude.{◌⊎◌, MatchOption, Ok, is_some, map, option_map}
use Rattle.std.specs.List.{AllZip}
use Rattle.fd_disk.specs.declared.file.File.{File}
use Rattle.fd_disk.specs.declared.folders.FileName.{FileName}
use Rattle.fd_disk.specs.Folders.{Contents, Holdings, WhereTold, folder_at}
use Rattle.fd_disk.specs.Images.{synced}
use Rattle.fd_entries.specs.declared.batch.Pair.{Pair}
use Rattle.fd_entries.specs.declared.table.Entry.{Entry}
use Rattle.fd_entries.specs.Table.{listed}
use Rattle.fd_recovery.specs.Recovered.{IsUndamaged, ReadsImage, files_of}
use Rattle.fd_inventory.specs.Recorded.{IsRecorded}
use Rattle.fd_stored.specs.Store.{IsLookedAt, IsLookedThrough, StaysFolder, Stays, has_table}
use Rattle.fd_retrieve.proofs.Staying.{undamaged_before}
use Rattle.fd_retrieve.proofs.Undamaged.{undamaged_new}
use Rattle.fd_contents.specs.Recorded.{AreRecordedIn}

-- a table that is synced reads as it did
reads_synced : {X : Type 0} (f : List ℕ → X) (o : Option File) → option_map (λ (t : File). f t.reads) (option_map synced o) ≡ option_map (λ (t : File). f t.reads) o
reads_synced f None = refl
reads_synced f (Some t) = refl

reads_same : {X : Type 0} (f : List ℕ → X) (o p : Option File) → (p ≡ o) ⊎ ((p ≡ option_map synced o) × ReadsImage o) → option_map (λ (t : File). f t.reads) p ≡ option_map (λ (t : File). f t.reads) o
reads_same f o p (inl e) = ap (option_map (λ (t : File). f t.reads)) e
reads_same f o p (inr (e, image)) = ap (option_map (λ (t : File). f t.reads)) e ∙ reads_synced f o

folder_stays : (name : List ℕ) (v w : Contents) → IsLookedAt v w → StaysFolder name v w
folder_stays name v w l = record { table = reads_same (listed name) v.table w.table l.table; files = λ n. ap (λ (f : FileName → Option (List ℕ)). f n) l.files }

pub stays_looked : (old new : Option Holdings) → WhereTold old new IsLookedThrough → WhereTold old new Stays
stays_looked None None l = tt
stays_looked None (Some i) l = absurd l
stays_looked (Some h) None l = absurd l
stays_looked (Some h) (Some i) l = record { schema = l.schema; folders = λ name. folder_stays name (folder_at h name) (folder_at i name) (l.folders name) }

-- ---- what isn't damaged

-- what isn't damaged now wasn't before
pub sound_before : (name : List ℕ) (v w : Contents) → IsLookedAt v w → IsUndamaged name w → IsUndamaged name v
sound_before name v w l = undamaged_before name v w (folder_stays name v w l)

-- a dataset without a table isn't damaged
pub undamaged_none : (has : Option Holdings) (name : List ℕ) → IfSome has (λ h. false ≡ has_table h name) → IfSome has (λ h. IsUndamaged name (folder_at h name))
undamaged_none None name none = tt
undamaged_none (Some h) name none = undamaged_new name (Some (folder_at h name)) none

-- ---- what the indexes have records of

abbrev AreBatches : List ℕ → List (List Pair) → (FileName → Option (List ℕ)) → Option File → Type 0
AreBatches name t files o = MatchOption o (t ≡ []) (λ f. (es : List Entry) × (listed name f.reads ≡ Ok es) × AllZip IsRecorded (map (files_of files) es) t)

batches_synced : (name : List ℕ) (t : List (List Pair)) (files : FileName → Option (List ℕ)) (o : Option File) → AreBatches name t files (option_map synced o) → AreBatches name t files o
batches_synced name t files None b = b
batches_synced name t files (Some f) b = b

batches_before : (name : List ℕ) (t : List (List Pair)) (files : FileName → Option (List ℕ)) (o p : Option File) → (p ≡ o) ⊎ ((p ≡ option_map synced o) × ReadsImage o) → AreBatches name t files p → AreBatches name t files o
batches_before name t files o p (inl e) b = subst (AreBatches name t files) e b
batches_before name t files o p (inr (e, image)) b = batches_synced name t files o (subst (AreBatches name t files) e b)

pub recorded_before : (name : List ℕ) (t : List (List Pair)) (v w : Contents) → IsLookedAt v w → AreRecordedIn name w t → AreRecordedIn name v t
recorded_before name t v w l b = batches_before name t v.files v.table w.table l.table (subst (λ (fs : FileName → Option (List ℕ)). AreBatches name t fs w.table) l.files b)

pub recorded_none : (h : Holdings) (name : List ℕ) → false ≡ has_table h name → AreRecordedIn name (folder_at h name) []
recorded_none h name none = go (folder_at h name).table none
  where
    go : (o : Option File) → false ≡ is_some o → AreBatches name [] (folder_at h name).files o
    go None n = refl
    go (Some f) n = absurd (true≢false (sym n))
