-- Images of a store.
use Rattle.std.proofs.Common.{◌≡◌, ℕ, List, Option, Some, None, refl, sym, subst}
use Rattle.std.specs.Prelude.{option_map, unwrap_or}
use Rattle.fd_disk.specs.declared.file.File.{File}
use Rattle.fd_disk.specs.Folders.{Contents, IsFolderLeft, IsTableLeft, Left, no_contents}
use Rattle.fd_disk.specs.Images.{firm_file}
use Rattle.fd_archive.specs.Crashing.{IsFirmTable}
use Rattle.fd_stops.specs.Found.{ImagesAreLeft, IsFolderAfter, firm_left}

table_firm : (c : Option (List ℕ)) → IsFirmTable (option_map firm_file c)
table_firm None = tt
table_firm (Some c) = refl

bytes_read : (c : Option (List ℕ)) → option_map (λ (f : File). f.reads) (option_map firm_file c) ≡ c
bytes_read None = refl
bytes_read (Some c) = refl

folder_left : (o : Option Contents) (p : Option Left) → IsFolderLeft o p → IsFolderAfter (unwrap_or o no_contents) (unwrap_or (option_map firm_left p) no_contents)
folder_left None None is = record { image = record { table = refl; files = λ n. refl }; firm = tt }
folder_left None (Some left) is = absurd (cc is)
folder_left (Some v) None image = absurd image
folder_left (Some v) (Some left) image = record {
  image = record { table = subst (IsTableLeft v.table) (sym (bytes_read left.table)) image.table; files = image.files };
  firm = table_firm left.table;
}

pub images_left : ImagesAreLeft
images_left i schema folders image = record {
  image = record {
    schema_is = image.schema_is;
    folders_are = λ name. (folder_left (i.folders name) (folders name) (image.folders_are name)).image;
  };
  firm = λ name. (folder_left (i.folders name) (folders name) (image.folders_are name)).firm;
}
