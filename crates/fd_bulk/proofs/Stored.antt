-- What the workers have once a round is stored.
use Rattle.std.proofs.Common.{◌≡◌, ◌+◌, ℕ, suc, List, [], ◌∷◌, ◌++◌, slice_get, Option, Some, refl, sym, ap, subst, ◌∙◌, arith}
use Rattle.fd_disk.specs.declared.folders.FileName.{FileName}
use Rattle.fd_entries.specs.declared.batch.Pair.{Pair}
use Rattle.fd_turn.specs.declared.board.Pass.{Pass}
use Rattle.fd_turn.specs.Passes.{BoardId}
use Rattle.fd_archiver.specs.Writing.{Writing}
use Rattle.fd_library.specs.Open.{AreDistinct}
use Rattle.fd_stored.specs.Archiving.{Stored, pairs_for}
use Rattle.fd_shares.specs.Dealing.{dealt_to}
use Rattle.fd_sheets.specs.Dealt.{dealt}
use Rattle.fd_shares.specs.declared.round.Desk.{Desk}
use Rattle.fd_shares.specs.declared.round.Parcel.{Parcel}
use Rattle.fd_shares.specs.Working.{Stage}
use Rattle.fd_shares.specs.Sharing.{AllWork, AreParcels, MayWork, its_pairs, name_at, share}
use Rattle.fd_shares.proofs.Rounds.{dealt_both, pairs_both, share_is}
use Rattle.fd_shares.proofs.Shares.{at_place}

module _ {H X Y : Type 0} (kept : H → Option (FileName → Option (List ℕ))) where
  -- the pairs of the datasets that there are, told otherwise
  pub work_named : (s : ℕ → Stage) (p q : ℕ → List Pair) (k : ℕ) (bs : List BoardId) (ms : List (List ℕ)) (ds : List (Option (Desk (Writing H) (Pass X Y)))) → ((n j : ℕ) (m : List ℕ) → n ≡ k + j → slice_get ms j ≡ Some m → q n ≡ p n) → AllWork kept s p k bs ms ds → AllWork kept s q k bs ms ds
  work_named s p q k [] [] [] same all = tt
  work_named s p q k [] [] (x ∷ ds) same all = absurd all
  work_named s p q k [] (m ∷ ms) ds same all = absurd all
  work_named s p q k (b ∷ bs) [] ds same all = absurd all
  work_named s p q k (b ∷ bs) (m ∷ ms) [] same all = absurd all
  work_named s p q k (b ∷ bs) (m ∷ ms) (x ∷ ds) same all = (
    subst (λ (ps : List Pair). MayWork kept (s k) b m ps x) (sym (same k 0 m (omega arith) refl)) all.0,
    work_named s p q (suc k) bs ms ds (λ n j l is at. same n (suc j) l (omega (arith, is)) at) all.1,
  )

  -- A round was stored: each worker has what is dealt to it of the messages before and of these.
  pub round_stored : (workers w : ℕ) (names : List (List ℕ)) (all ss : List Stored) (ps : List Parcel) (s : ℕ → Stage) (bs : List BoardId) (ds : List (Option (Desk (Writing H) (Pass X Y)))) → AreDistinct names → AreParcels workers names ss ps
      → AllWork kept s (λ n. its_pairs workers names w all n ++ share w n ps) 0 bs names ds → AllWork kept s (its_pairs workers names w (all ++ ss)) 0 bs names ds
  round_stored workers w names all ss ps s bs ds distinct are work =
      work_named s (λ n. its_pairs workers names w all n ++ share w n ps) (its_pairs workers names w (all ++ ss)) 0 bs names ds
      (λ n j m is at.
      let here : n ≡ j = omega (arith, is) in
      let named : slice_get names n ≡ Some m = subst (λ (i : ℕ). slice_get names i ≡ Some m) (sym here) at in
      let name : name_at names n ≡ m = at_place names n m named [] in
      let its : slice_get names n ≡ Some (name_at names n) = named ∙ ap Some (sym name) in
      ap (dealt_to (dealt workers (name_at names n)) w) (pairs_both all ss (name_at names n))
      ∙ dealt_both (dealt workers (name_at names n)) w (pairs_for all (name_at names n)) (pairs_for ss (name_at names n))
      ∙ ap (λ (xs : List Pair). its_pairs workers names w all n ++ xs) (sym (share_is workers names w n (name_at names n) ss ps distinct its are)))
      work
