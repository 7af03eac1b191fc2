-- A table that was looked into.
use Rattle.std.proofs.Common.{◌≡◌, ◌⊎◌, inl, inr, ℕ, List, true, Option, Some, None, IfSome, refl, sym, subst, is_some, option_map}
use Rattle.fd_disk.specs.declared.file.File.{File}
use Rattle.fd_disk.specs.Folders.{Contents, WhereTold}
use Rattle.fd_disk.specs.Images.{synced}
use Rattle.fd_recovery.specs.Recovered.{ReadsImage, with_firm_table}
use Rattle.fd_library.specs.Stores.{KeepsFolder, KeepsTable}

-- the table that was opened is firm as it read
pub keeps_opened : (name : List ℕ) (has : Option Contents) (table : Option File) → IfSome has (λ v. true ≡ is_some v.table) → IfSome has (λ v. table ≡ option_map synced v.table) → IfSome has (λ v. ReadsImage v.table) → IfSome has (λ v. KeepsTable name v.table table)
keeps_opened name None table there firm image = tt
keeps_opened name (Some v) table there firm image = go v.table there firm image
  where
    go : (o : Option File) → true ≡ is_some o → table ≡ option_map synced o → ReadsImage o → KeepsTable name o table
    go None there firm image = absurd cc
    go (Some f) there firm image = subst (KeepsTable name (Some f)) (sym firm) (inr (refl, image))

table_same : (name : List ℕ) (o : Option File) → KeepsTable name o o
table_same name None = tt
table_same name (Some f) = inl refl

table_firm : (name : List ℕ) (o : Option File) → ReadsImage o → KeepsTable name o (option_map synced o)
table_firm name None image = tt
table_firm name (Some f) image = inr (refl, image)

folder_same : (name : List ℕ) (old new : Option Contents) → new ≡ old → WhereTold old new (KeepsFolder name)
folder_same name None new e = subst (λ (o : Option Contents). WhereTold None o (KeepsFolder name)) (sym e) tt
folder_same name (Some v) new e = subst (λ (o : Option Contents). WhereTold (Some v) o (KeepsFolder name)) (sym e) (record { files = refl; table = table_same name v.table })

folder_firm : (name : List ℕ) (old new : Option Contents) → new ≡ option_map with_firm_table old → IfSome old (λ v. ReadsImage v.table) → WhereTold old new (KeepsFolder name)
folder_firm name None new e image = subst (λ (o : Option Contents). WhereTold None o (KeepsFolder name)) (sym e) tt
folder_firm name (Some v) new e image = subst (λ (o : Option Contents). WhereTold (Some v) o (KeepsFolder name)) (sym e) (record { files = refl; table = table_firm name v.table image })

-- nothing was opened
pub keeps_refused : (name : List ℕ) (old new : Option Contents) → (new ≡ old) ⊎ (new ≡ option_map with_firm_table old) → (new ≡ old) ⊎ IfSome old (λ v. ReadsImage v.table) → WhereTold old new (KeepsFolder name)
keeps_refused name old new (inl e) image = folder_same name old new e
keeps_refused name old new (inr e) (inl same) = folder_same name old new same
keeps_refused name old new (inr e) (inr image) = folder_firm name old new e image

pub ruleset keeps = (keeps_opened, keeps_refused)
