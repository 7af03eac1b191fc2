-- What is found where a schema was to be stored.
use Rattle.std.proofs.Common.{◌∙◌, ℕ, List, Option, Some, None, IfSome, inl, inr, subst}
use Rattle.fd_disk.specs.Folders.{Holdings, WhereTold, planted}
use Rattle.fd_streams.specs.Creating.{IsCreatedOnly}
use Rattle.fd_archive.specs.Crashing.{IsAfterCrash}
use Rattle.fd_stops.specs.Found.{EachLeft, FoundCreated}
use Rattle.fd_stops.proofs.Folders.{folder_after}

created_found : (octets : List ℕ) (h i : Holdings) → IsCreatedOnly octets h i → (j : Holdings) → IsAfterCrash i j → FoundCreated octets h j
created_found octets h i (inl same) j after =
    let left : IsAfterCrash h j = subst (λ (k : Holdings). IsAfterCrash k j) same after in
    record { schema = inl left.image.schema_is; folders = folder_after h j left }
created_found octets h i (inr (none, good, is)) j after =
    let left : IsAfterCrash (planted octets h) j = subst (λ (k : Holdings). IsAfterCrash k j) is after in
    record { schema = inr (none, left.image.schema_is, good); folders = folder_after (planted octets h) j left }

pub created : (input : Option (List ℕ)) (a b : Option Holdings) → IfSome input (λ octets. WhereTold a b (IsCreatedOnly octets)) → IfSome input (λ octets. WhereTold a b (EachLeft (FoundCreated octets)))
created None a b kept = tt
created (Some octets) None None kept = tt
created (Some octets) None (Some i) kept = absurd kept
created (Some octets) (Some h) None kept = absurd kept
created (Some octets) (Some h) (Some i) kept = created_found octets h i kept
