-- What a dataset lists that was opened.
use Rattle.std.proofs.Common.{◌≡◌, ℕ, Bool, true, false, List, [], Option, Some, None, IfSome, Ok, option_map, is_some}
use Rattle.fd_disk.specs.declared.file.File.{File}
use Rattle.fd_disk.specs.Folders.{Contents, without_table}
use Rattle.fd_entries.specs.declared.table.Entry.{Entry}
use Rattle.fd_entries.specs.Table.{listed}
use Rattle.fd_library.specs.Stores.{ListsIn}

in_table : (name : List ℕ) (es : List Entry) (t : Option File) → true ≡ is_some t → IfSome t (λ f. listed name f.reads ≡ Ok es) → ListsIn name es t
in_table name es None some lists = absurd cc
in_table name es (Some f) some lists = lists

-- the table was read
pub lists_found : (name : List ℕ) (has : Option Contents) (es : List Entry) → IfSome has (λ v. true ≡ is_some v.table) → IfSome has (λ v. IfSome v.table (λ f. listed name f.reads ≡ Ok es)) → IfSome has (λ v. ListsIn name es v.table)
lists_found name None es some lists = tt
lists_found name (Some v) es some lists = in_table name es v.table some lists

no_table : (name : List ℕ) (es : List Entry) (t : Option File) → false ≡ is_some t → es ≡ [] → ListsIn name es t
no_table name es None none empty = empty
no_table name es (Some f) none empty = absurd cc

-- there was no table, and the one that was made lists nothing
pub lists_new : (name : List ℕ) (has now : Option Contents) (es : List Entry) → now ≡ option_map without_table has → IfSome has (λ v. false ≡ is_some v.table) → IfSome now (λ v. es ≡ []) → IfSome has (λ v. ListsIn name es v.table)
lists_new name None now es same none empty = tt
lists_new name (Some v) now es same none empty = no_table name es v.table none (rw same at empty)

pub ruleset lists = (lists_found, lists_new)
