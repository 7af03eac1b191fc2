-- A dataset that was opened isn't damaged.
use Rattle.std.proofs.Common.{◌≡◌, ℕ, false, List, [], Option, Some, None, IfSome, Ok, subst, is_some, option_map}
use Rattle.fd_disk.specs.declared.file.File.{File}
use Rattle.fd_disk.specs.Folders.{Contents, Holdings, folder_at}
use Rattle.fd_entries.specs.declared.table.Entry.{Entry}
use Rattle.fd_entries.specs.Table.{listed}
use Rattle.fd_recovery.specs.Damages.{damages}
use Rattle.fd_recovery.specs.Recovered.{IsUndamaged}

on_table : (name : List ℕ) (v : Contents) (es : List Entry) (t : Option File) → IfSome t (λ f. listed name f.reads ≡ Ok es) → damages v.files es ≡ [] → IfSome t (λ f. (ds : List Entry) × (listed name f.reads ≡ Ok ds) × (damages v.files ds ≡ []))
on_table name v es None lists none = tt
on_table name v es (Some f) lists none = (es, lists, none)

-- the table was read, and no file that it lists is damaged
pub undamaged_found : (name : List ℕ) (has : Option Contents) (es : List Entry) → IfSome has (λ v. IfSome v.table (λ f. listed name f.reads ≡ Ok es)) → IfSome has (λ v. damages v.files es ≡ []) → IfSome has (λ v. IsUndamaged name v)
undamaged_found name None es lists none = tt
undamaged_found name (Some v) es lists none = on_table name v es v.table lists none

no_table : (name : List ℕ) (v : Contents) (t : Option File) → false ≡ is_some t → IfSome t (λ f. (ds : List Entry) × (listed name f.reads ≡ Ok ds) × (damages v.files ds ≡ []))
no_table name v None is = tt
no_table name v (Some f) is = absurd cc

-- there was no table
pub undamaged_new : (name : List ℕ) (has : Option Contents) → IfSome has (λ v. false ≡ is_some v.table) → IfSome has (λ v. IsUndamaged name v)
undamaged_new name None is = tt
undamaged_new name (Some v) is = no_table name v v.table is

-- the folder that the store handed out was that of its dataset
pub undamaged_in : (store : Option Holdings) (has : Option Contents) (name : List ℕ) → has ≡ option_map (λ s. folder_at s name) store → IfSome has (λ v. IsUndamaged name v) → IfSome store (λ s. IsUndamaged name (folder_at s name))
undamaged_in None has name is none = tt
undamaged_in (Some s) has name is none = subst (λ (h : Option Contents). IfSome h (λ v. IsUndamaged name v)) is none

pub ruleset undamaged = (undamaged_found, undamaged_new)
