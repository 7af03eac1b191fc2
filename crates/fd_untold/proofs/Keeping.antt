-- What a shelf keeps that doesn't tell its files.
use Rattle.std.proofs.Common.{◌≡◌, refl, ℕ, List, Option, Some, None}
use Rattle.fd_disk.specs.declared.folders.FileName.{FileName}
use Rattle.fd_disk.specs.Folders.{keeping}

-- nothing is told of what both files of a batch are kept over
pub untold_both : (n m : FileName) (a b : Option (List ℕ)) → None ≡ keeping n a (keeping m b None)
untold_both n m None b = refl
untold_both n m (Some bytes) None = refl
untold_both n m (Some bytes) (Some more) = refl
