-- What a crash may leave of a store, table by table.
use Rattle.std.proofs.Common.{◌≡◌, ℕ, List, Option, Some, None, refl, sym, ap, subst}
use Rattle.std.specs.Prelude.{option_map}
use Rattle.fd_disk.specs.declared.file.File.{File}
use Rattle.fd_disk.specs.declared.folders.FileName.{FileName}
use Rattle.fd_disk.specs.Folders.{Holdings, IsTableLeft, folder_at}
use Rattle.fd_disk.specs.Images.{IsImage, firm_file}
use Rattle.fd_archive.specs.Crashing.{IsAfterCrash, IsFirmTable}

-- a crash leaves the bytes of one of the table's images, which are firm
abbrev pub IsTableAfter : Option File → Option File → Type 0
IsTableAfter None g = g ≡ None
IsTableAfter (Some f) g = (c : List ℕ) × IsImage f c × (g ≡ Some (firm_file c))

pub table_after : (o g : Option File) → IsTableLeft o (option_map (λ f. f.reads) g) → IsFirmTable g → IsTableAfter o g
table_after None None image firm = refl
table_after None (Some g) image firm = absurd (cc image)
table_after (Some f) None image firm = absurd image
table_after (Some f) (Some g) image firm = (g.reads, image, ap Some firm)

pub table_left : (o g : Option File) → IsTableAfter o g → IsTableLeft o (option_map (λ f. f.reads) g)
table_left None g after = ap (option_map (λ (f : File). f.reads)) after
table_left (Some f) g (c, image, is) = subst (λ (t : Option File). IsTableLeft (Some f) (option_map (λ (x : File). x.reads) t)) (sym is) image

pub table_firm : (o g : Option File) → IsTableAfter o g → IsFirmTable g
table_firm None g after = subst IsFirmTable (sym after) tt
table_firm (Some f) g (c, image, is) = subst IsFirmTable (sym is) refl

pub files_after : (i j : Holdings) → IsAfterCrash i j → (name : List ℕ) (n : FileName) → (folder_at j name).files n ≡ (folder_at i name).files n
files_after i j after name = (after.image.folders_are name).files

pub tables_after : (i j : Holdings) → IsAfterCrash i j → (name : List ℕ) → IsTableAfter (folder_at i name).table (folder_at j name).table
tables_after i j after name = table_after (folder_at i name).table (folder_at j name).table (after.image.folders_are name).table (after.firm name)

-- what has the schema, the files, and of each table such bytes
pub after_crash : (i j : Holdings) → j.schema ≡ i.schema → ((name : List ℕ) (n : FileName) → (folder_at j name).files n ≡ (folder_at i name).files n)
    → ((name : List ℕ) → IsTableAfter (folder_at i name).table (folder_at j name).table) → IsAfterCrash i j
after_crash i j schema files tables = record {
  image = record {
    schema_is = schema;
    folders_are = λ name. record { table = table_left (folder_at i name).table (folder_at j name).table (tables name); files = files name };
  };
  firm = λ name. table_firm (folder_at i name).table (folder_at j name).table (tables name);
}
