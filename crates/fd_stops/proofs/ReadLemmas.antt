-- What is found where nothing was stored: what a crash before may have left.
use Rattle.std.proofs.Common.{◌≡◌, ◌∙◌, ℕ, List, Option, Some, None, inl, inr, refl, sym, ap, subst}
use Rattle.std.specs.Prelude.{◌⊎◌, IfSome, option_map}
use Rattle.fd_disk.specs.declared.file.File.{File}
use Rattle.fd_disk.specs.declared.folders.FileName.{FileName}
use Rattle.fd_disk.specs.Folders.{Contents, Holdings, IsTableLeft, WhereTold, folder_at}
use Rattle.fd_disk.specs.Images.{IsImage, synced}
use Rattle.fd_recovery.specs.Crashing.{IsFirmTable}
use Rattle.fd_recovery.specs.Recovered.{ReadsImage, held, held_by}
use Rattle.fd_words.specs.declared.command.Command.{Command}
use Rattle.fd_outcome.specs.Ends.{Opens}
use Rattle.fd_stored.specs.Store.{AreNames, IsLookedAt, IsLookedThrough}
use Rattle.fd_stops.specs.Found.{EachLeft, HasAnswered, IsAfterCrash, IsFolderAfter}
use Rattle.fd_stops.proofs.Folders.{firm_same, folder_after}

-- a crash leaves of a table that was synced what it read
synced_before : (v : Option File) (c : Option (List ℕ)) → ReadsImage v → IsTableLeft (option_map synced v) c → IsTableLeft v c
synced_before None c image left = left
synced_before (Some f) None image left = absurd left
synced_before (Some f) (Some c) image left =
    let is : c ≡ f.reads = left.settled refl in
    subst (IsImage f) (sym is) image

table_before : (v w : Option File) (c : Option (List ℕ)) → (w ≡ v) ⊎ ((w ≡ option_map synced v) × ReadsImage v) → IsTableLeft w c → IsTableLeft v c
table_before v w c (inl same) left = subst (λ (o : Option File). IsTableLeft o c) same left
table_before v w c (inr (firm, image)) left = synced_before v c image (subst (λ (o : Option File). IsTableLeft o c) firm left)

folder_before : (v w x : Contents) → IsLookedAt v w → IsFolderAfter w x → IsFolderAfter v x
folder_before v w x at after = record {
  image = record {
    table = table_before v.table w.table (option_map (λ (f : File). f.reads) x.table) at.table after.image.table;
    files = λ n. after.image.files n ∙ ap (λ (f : FileName → Option (List ℕ)). f n) at.files;
  };
  firm = after.firm;
}

found_before : (h i : Holdings) → IsLookedThrough h i → (j : Holdings) → IsAfterCrash i j → IsAfterCrash h j
found_before h i looks j after = record {
  image = record {
    schema_is = after.image.schema_is ∙ looks.schema;
    folders_are = λ name. (folder_before (folder_at h name) (folder_at i name) (folder_at j name) (looks.folders name) (folder_after i j after name)).image;
  };
  firm = after.firm;
}

-- where the store tells
pub before : (a b : Option Holdings) → WhereTold a b IsLookedThrough → WhereTold a b (EachLeft IsAfterCrash)
before None None looks = tt
before None (Some i) looks = absurd looks
before (Some h) None looks = absurd looks
before (Some h) (Some i) looks = found_before h i looks

-- ---- what was answered from

held_synced : (name : List ℕ) (files : FileName → Option (List ℕ)) (t : Option File) → held_by name files (option_map synced t) ≡ held_by name files t
held_synced name files None = refl
held_synced name files (Some f) = refl

held_table : (name : List ℕ) (files : FileName → Option (List ℕ)) (v w : Option File) → (w ≡ v) ⊎ ((w ≡ option_map synced v) × ReadsImage v) → held_by name files w ≡ held_by name files v
held_table name files v w (inl same) = ap (held_by name files) same
held_table name files v w (inr (firm, image)) = ap (held_by name files) firm ∙ held_synced name files v

held_looked : (name : List ℕ) (v w : Contents) → IsLookedAt v w → held name w ≡ held name v
held_looked name v w at = ap (λ (fs : FileName → Option (List ℕ)). held_by name fs w.table) at.files ∙ held_table name v.files v.table w.table at.table

pub answered_by : (command : Command) (octets : List ℕ) (a b : Option Holdings) → WhereTold a b IsLookedThrough
    → IfSome a (λ h. IfSome b (λ i. (names : List (List ℕ)) → AreNames h names → (name : List ℕ) → Opens command h names octets name → IsFirmTable (folder_at i name).table))
    → IfSome a (λ h. IfSome b (λ i. EachLeft (HasAnswered command octets) h i))
answered_by command octets None b looks firm = tt
answered_by command octets (Some h) None looks firm = tt
answered_by command octets (Some h) (Some i) looks firm = λ j after names are name opens.
    ap (held name) (firm_same (folder_at i name) (folder_at j name) (firm names are name opens) (folder_after i j after name)) ∙ held_looked name (folder_at h name) (folder_at i name) (looks.folders name)

pub answered : (command : Command) (input : Option (List ℕ)) (a b : Option Holdings) → WhereTold a b IsLookedThrough
    → IfSome input (λ octets. IfSome a (λ h. IfSome b (λ i. (names : List (List ℕ)) → AreNames h names → (name : List ℕ) → Opens command h names octets name → IsFirmTable (folder_at i name).table)))
    → IfSome input (λ octets. IfSome a (λ h. IfSome b (λ i. EachLeft (HasAnswered command octets) h i)))
answered command None a b looks firm = tt
answered command (Some octets) a b looks firm = answered_by command octets a b looks firm
