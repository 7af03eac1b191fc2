-- What is open after an opening, whatever the answer.
use Rattle.std.proofs.Common.{◌≡◌, ◌⊎◌, ◌<◌, ℕ, Bool, true, false, List, length, sym, refl, ap, ◌∙◌, subst, Option, Some, None, IfSome, Result, Ok, Err, IfOk, OnErr, MatchOption}
use Rattle.fd_disk.specs.Folders.{Contents, Holdings}
use Rattle.fd_library.specs.Calls.{Leaves, Opens}
use Rattle.fd_library.specs.Open.{AreOpen, OpenDataset, OpenDatasets, OutAre, Seated, among, names_of}
use Rattle.fd_library.proofs.Named.{added, outside_more}

module _ {D E : Type 0} (has : D → Option Contents) (name : List ℕ) (old new : OpenDatasets D) (before after : Option Holdings) where
  -- the datasets are open as before
  pub sound_either : (r : Result (Option ℕ) E) → IfOk r (λ o. IfSome o (λ n. Opens has n name old new before after)) → IfOk r (λ o. o ≡ None → Leaves name old new before after) → OnErr r (Leaves name old new before after)
      → AreOpen old → length old.each < 2048 → among name (names_of old.each) ≡ false → AreOpen new
  sound_either (Ok None) opens leaves refused all few beside = subst AreOpen (sym (leaves refl).library) all
  sound_either (Ok (Some n)) opens leaves refused all few beside =
      let b = opens.board in
      let h = opens.held in
      let other : among h.name (names_of old.each) ≡ false = ap (λ (m : List ℕ). among m (names_of old.each)) opens.opened.name_is ∙ beside in
      let own : IfSome h.pass (λ p. p.board ≡ b) = subst (λ (q : Option Seated). IfSome q (λ p. p.board ≡ b)) (sym opens.opened.pass) refl in
      added old new b h all opens.adds few other own
  sound_either (Err e) opens leaves refused all few beside = subst AreOpen (sym refused.library) all

  -- the folders that are out are those of open datasets
  pub out_either : (r : Result (Option ℕ) E) (was is : List ℕ → Bool) → IfOk r (λ o. IfSome o (λ n. Opens has n name old new before after)) → IfOk r (λ o. o ≡ None → Leaves name old new before after) → OnErr r (Leaves name old new before after)
      → IfOk r (λ o. MatchOption o ((other : List ℕ) → is other ≡ true → was other ≡ true) (λ n. (other : List ℕ) → is other ≡ true → (was other ≡ true) ⊎ (other ≡ name)))
      → OnErr r ((other : List ℕ) → is other ≡ true → was other ≡ true)
      → OutAre old.each was → OutAre new.each is
  out_either (Ok None) was is opens leaves refused more back are =
      λ m out. ap (λ (v : OpenDatasets D). among m (names_of v.each)) (leaves refl).library ∙ are m (more m out)
  out_either (Ok (Some n)) was is opens leaves refused more back are =
      λ m out. ap (λ (hs : List (OpenDataset D)). among m (names_of hs)) opens.adds.each ∙ outside_more old.each opens.held name was is opens.opened.name_is are more m out
  out_either (Err e) was is opens leaves refused more back are =
      λ m out. ap (λ (v : OpenDatasets D). among m (names_of v.each)) refused.library ∙ are m (back m out)
