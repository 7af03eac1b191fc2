-- What a crash leaves of a folder.
use Rattle.std.proofs.Common.{◌≡◌, ◌∙◌, ℕ, List, Option, Some, None, sym, ap, subst}
use Rattle.std.specs.Prelude.{option_map}
use Rattle.fd_disk.specs.declared.file.File.{File}
use Rattle.fd_disk.specs.declared.folders.FileName.{FileName}
use Rattle.fd_disk.specs.Folders.{Contents, Holdings, IsTableLeft, folder_at}
use Rattle.fd_disk.specs.Images.{firm_file}
use Rattle.fd_archive.specs.Crashing.{IsAfterCrash, IsFirmTable, IsUntouched}
use Rattle.fd_archive.proofs.Crashed.{IsTableAfter, table_after}
use Rattle.fd_stops.specs.Found.{IsFolderAfter}

pub folder_after : (i j : Holdings) → IsAfterCrash i j → (name : List ℕ) → IsFolderAfter (folder_at i name) (folder_at j name)
folder_after i j after name = record { image = after.image.folders_are name; firm = after.firm name }

pub of_table : (v w : Contents) → IsFolderAfter v w → IsTableAfter v.table w.table
of_table v w after = table_after v.table w.table after.image.table after.firm

-- of an untouched folder
pub untouched_after : (v w x : Contents) → IsUntouched v w → IsFolderAfter w x → IsFolderAfter v x
untouched_after v w x same after = record {
  image = record {
    table = subst (λ (o : Option File). IsTableLeft o (option_map (λ f. f.reads) x.table)) same.table after.image.table;
    files = λ n. after.image.files n ∙ ap (λ (f : FileName → Option (List ℕ)). f n) same.files;
  };
  firm = after.firm;
}

-- a crash changes no firm table
firm_after : (o g : Option File) → IsFirmTable o → IsTableAfter o g → g ≡ o
firm_after None g firm after = after
firm_after (Some f) g firm (c, image, is) =
    let settled : c ≡ f.reads = image.settled (ap (λ (x : File). x.loose) firm) ∙ ap (λ (x : File). x.firm) firm in
    is ∙ ap (λ (b : List ℕ). Some (firm_file b)) settled ∙ ap Some (sym firm)

alike : (v w : Contents) → w.table ≡ v.table → ((n : FileName) → w.files n ≡ v.files n) → w ≡ v
alike v w table files = λ i. record { table = table i; files = λ n. files n i }

pub firm_same : (v w : Contents) → IsFirmTable v.table → IsFolderAfter v w → w ≡ v
firm_same v w firm after = alike v w (firm_after v.table w.table firm (of_table v w after)) after.image.files
