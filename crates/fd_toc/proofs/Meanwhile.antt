-- What a crash may leave while bytes are written and made firm.
use Rattle.std.proofs.Common.{◌≡◌, inl, inr, ⊎_elim, ℕ, List, length, refl, sym, ◌∙◌, ap, subst, arith, Option, Some, None, Result, Ok, Err, OnErr, option_map}
use Rattle.fd_disk.specs.declared.file.File.{File}
use Rattle.fd_disk.specs.Folders.{WhereTold}
use Rattle.fd_disk.specs.Images.{IsAfterFailedWrite, synced, written}
use Rattle.fd_disk.specs.Moments.{Elapses, LeavesOnly, MayLeave}
use Rattle.fd_disk.proofs.MomentLemmas.{goes_on}
use Rattle.fd_toc.specs.Writes.{IsUnsynced, LeftMeanwhile}

module _ (at : ℕ) (bytes : List ℕ) where
  -- before the write
  pub left_before : (o : Option File) (c : List ℕ) → MayLeave o c → LeftMeanwhile o at bytes c
  left_before (Some f) c image = (f, (inl (inl (inl refl)), image))
  left_before None c image = absurd image

  -- the file at some moment of the call
  pub left_unsynced : (o p : Option File) (c : List ℕ) → WhereTold o p (λ f g. IsUnsynced f at bytes g) → MayLeave p c → LeftMeanwhile o at bytes c
  left_unsynced (Some f) (Some g) c torn image = (g, (inl torn, image))
  left_unsynced (Some f) None c torn image = absurd image
  left_unsynced None (Some g) c torn image = absurd torn
  left_unsynced None None c torn image = absurd image

  -- the write failed
  pub failed : (o p : Option File) → WhereTold o p (λ f g. IsAfterFailedWrite f at (length bytes) g) → WhereTold o p (λ f g. IsUnsynced f at bytes g)
  failed (Some f) (Some g) torn = inl torn
  failed (Some f) None torn = absurd torn
  failed None (Some g) torn = absurd torn
  failed None None torn = tt

  -- the write succeeded
  pub wrote : (o p : Option File) → p ≡ option_map (λ f. written f at bytes) o → WhereTold o p (λ f g. IsUnsynced f at bytes g)
  wrote o p is = subst (λ (q : Option File). WhereTold o q (λ f g. IsUnsynced f at bytes g)) (sym is) (go o)
    where
      go : (o : Option File) → WhereTold o (option_map (λ f. written f at bytes) o) (λ f g. IsUnsynced f at bytes g)
      go (Some f) = inr refl
      go None = tt

  -- the sync succeeded
  pub made_firm : (o p q : Option File) → p ≡ option_map (λ f. written f at bytes) o → q ≡ option_map synced p → q ≡ option_map (λ f. synced (written f at bytes)) o
  made_firm o p q is made = made ∙ ap (option_map synced) is ∙ go o
    where
      go : (o : Option File) → option_map synced (option_map (λ f. written f at bytes) o) ≡ option_map (λ f. synced (written f at bytes)) o
      go (Some f) = refl
      go None = refl

  pub left_synced : (o q : Option File) (c : List ℕ) → q ≡ option_map (λ f. synced (written f at bytes)) o → MayLeave q c → LeftMeanwhile o at bytes c
  left_synced o q c is image = go o (subst (λ (r : Option File). MayLeave r c) is image)
    where
      go : (o : Option File) → MayLeave (option_map (λ f. synced (written f at bytes)) o) c → LeftMeanwhile o at bytes c
      go (Some f) image = (synced (written f at bytes), (inr refl, image))
      go None image = absurd image

module _ {D : Type 0} (moment : D → ℕ) (since : D → ℕ → List ℕ → Type 0) where
  -- what a crash leaves has another property too
  pub leaves_also : (old new : D) (P Q : List ℕ → Type 0) → ((c : List ℕ) → P c → Q c) → LeavesOnly moment since old new P → LeavesOnly moment since old new Q
  leaves_also old new P Q then all = record {
    later = all.later;
    each = λ c left. then c (all.each c left);
    before = λ t c le left. ⊎_elim (λ was. inl was) (λ p. inr (then c p)) (all.before t c le left);
  }

  -- one run of calls after another
  pub leaves_after : (old mid new : D) (P : List ℕ → Type 0) → LeavesOnly moment since old mid P → LeavesOnly moment since mid new P → LeavesOnly moment since old new P
  leaves_after old mid new P first next = record {
    later = omega (arith, first.later, next.later);
    each = λ c left. ⊎_elim (λ was. first.each c was) (λ p. p) (next.before (moment old) c first.later left);
    before = λ t c le left. ⊎_elim (λ was. first.before t c le was) (λ p. inr p) (next.before t c (omega (arith, le, first.later)) left);
  }

  -- one call more, which leaves the file as it is
  pub leaves_same : (old mid new : D) (o p : Option File) → LeavesOnly moment since old mid (MayLeave o) → Elapses (moment mid) (moment new) (since mid) (since new) p → p ≡ o → LeavesOnly moment since old new (MayLeave o)
  leaves_same old mid new o p so_far time same = goes_on moment since old mid new (MayLeave o) p so_far time (λ c left. subst (λ (q : Option File). MayLeave q c) same left)

pub on_err : {T E : Type 0} (r : Result T E) (P : Type 0) → P → OnErr r P
on_err (Ok x) P p = tt
on_err (Err e) P p = p
