-- What a purge or a wipe of a dataset of a store leaves.
use Rattle.std.proofs.Common.{◌≡◌, ◌≤◌, ℕ, List, Option, Some, None, IfSome, MatchOption, option_map, refl, sym, subst, inl, inr}
use Rattle.fd_disk.specs.Folders.{Contents, Holdings, IsFolderImage, Left, SameBut, WhereTold, folder_at}
use Rattle.fd_purge.specs.Purging.{IsSafe}
use Rattle.fd_purge.specs.Stored.{IsLeftFirmly}

-- what is left now is what was left since the table was firm
safe_images : (before now : ℕ) (since : ℕ → Left → Type 0) (v w : Contents) (P : Left → Type 0) → IsSafe before now since v w P
    → ((left : Left) → IsFolderImage w left → since now left) → ((t u : ℕ) (left : Left) → u ≤ t → since t left → since u left) → IsLeftFirmly P v w
safe_images before now since v w P (inl untouched) counts earlier = inl untouched.same
safe_images before now since v w P (inr firm) counts earlier = inr (λ left image. firm.from left (earlier now firm.firm left firm.upto (counts left image)))

-- the folder of a store in which the call was made
pub firmly_in : (dataset : List ℕ) (a b : Option Holdings) (x y : Option Contents) (before now : ℕ) (since : ℕ → Left → Type 0) (P : Contents → Left → Type 0)
    → x ≡ option_map (λ s. folder_at s dataset) a → IfSome b (λ s. y ≡ Some (folder_at s dataset)) → WhereTold a b (SameBut dataset)
    → IfSome x (λ v. MatchOption y ⊥ (λ w. IsSafe before now since v w (P v)))
    → ((w : Contents) (left : Left) → y ≡ Some w → IsFolderImage w left → since now left) → ((t u : ℕ) (left : Left) → u ≤ t → since t left → since u left)
    → IfSome a (λ h. MatchOption b ⊥ (λ i. IsLeftFirmly (P (folder_at h dataset)) (folder_at h dataset) (folder_at i dataset)))
firmly_in dataset None b x y before now since P is given others safe counts earlier = tt
firmly_in dataset (Some h) None x y before now since P is given others safe counts earlier = absurd others
firmly_in dataset (Some h) (Some i) x y before now since P is given others safe counts earlier =
    let v = folder_at h dataset in
    let there = subst (λ o. IfSome o (λ v. MatchOption y ⊥ (λ w. IsSafe before now since v w (P v)))) is safe in
    safe_images before now since v (folder_at i dataset) (P v) (subst (λ o. MatchOption o ⊥ (λ w. IsSafe before now since v w (P v))) given there) (λ left image. counts (folder_at i dataset) left given image) earlier

-- where the folder wasn't handed out
pub firmly_same : (dataset : List ℕ) (a b : Option Holdings) (P : Contents → Left → Type 0) → b ≡ a
    → IfSome a (λ h. MatchOption b ⊥ (λ i. IsLeftFirmly (P (folder_at h dataset)) (folder_at h dataset) (folder_at i dataset)))
firmly_same dataset a b P same = subst (λ o. IfSome a (λ h. MatchOption o ⊥ (λ i. IsLeftFirmly (P (folder_at h dataset)) (folder_at h dataset) (folder_at i dataset)))) (sym same) (go a)
  where
    go : (o : Option Holdings) → IfSome o (λ h. MatchOption o ⊥ (λ i. IsLeftFirmly (P (folder_at h dataset)) (folder_at h dataset) (folder_at i dataset)))
    go None = tt
    go (Some h) = inl refl
