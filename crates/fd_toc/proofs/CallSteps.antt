-- What the calls leave of a table that stands.
use Rattle.std.proofs.Common.{◌≡◌, inl, inr, ℕ, ◌+◌, ◌<◌, List, [], ◌∷◌, ◌++◌, length, refl, sym, subst, Option, Some, None, option_map, is_some, true, MatchOption}
use Rattle.fd_disk.specs.declared.file.File.{File}
use Rattle.fd_disk.specs.Folders.{WhereTold}
use Rattle.fd_disk.specs.Images.{IsImage, overwritten, synced, written}
use Rattle.fd_disk.specs.Moments.{MayLeave}
use Rattle.fd_entries.specs.declared.table.Entry.{Entry}
use Rattle.fd_entries.specs.Table.{Fits, body_of, gate_at}
use Rattle.fd_entries.specs.Standing.{IsInDoubt, IsSettled}
use Rattle.fd_entries.proofs.StandingLemmas.{body_staged, disturbed_front, doubt_image, gate_opened, loosened_doubt, loosened_settled, mended, settled_image, staged_doubt, synced_settled, written_settled}
use Rattle.fd_toc.specs.Lists.{Lists, ListsOrAlso}
use Rattle.fd_toc.specs.Sound.{IsSound}
use Rattle.fd_toc.specs.Writes.{IsUnsynced, LeftMeanwhile}

module _ (dataset : List ℕ) (es : List Entry) where
  abbrev gate : ℕ
  gate = gate_at (length es)

  -- a write behind the closed gate
  pub unsynced_settled : (f g : File) (bytes : List ℕ) → IsSettled dataset es f → IsUnsynced f (gate + 1) bytes g → IsSettled dataset es g
  unsynced_settled f g bytes s (inl (inl same)) = subst (IsSettled dataset es) (sym same) s
  unsynced_settled f g bytes s (inl (inr d)) = subst (IsSettled dataset es) (sym d.file) (loosened_settled dataset es f (length bytes) g.reads s (disturbed_front dataset es f g (length bytes) s d))
  unsynced_settled f g bytes s (inr is) = subst (IsSettled dataset es) (sym is) (written_settled dataset es f bytes s)

  -- a write of the gate of the entry in doubt
  pub unsynced_doubt : (f g : File) (e : Entry) (byte : ℕ) → IsInDoubt dataset es f e → IsUnsynced f gate (byte ∷ []) g → IsInDoubt dataset es g e
  unsynced_doubt f g e byte d (inl (inl same)) = subst (λ (h : File). IsInDoubt dataset es h e) (sym same) d
  unsynced_doubt f g e byte d (inl (inr torn)) = subst (λ (h : File). IsInDoubt dataset es h e) (sym torn.file) (loosened_doubt dataset es f e g.reads d)
  unsynced_doubt f g e byte d (inr is) = subst (λ (h : File). IsInDoubt dataset es h e) (sym is) (loosened_doubt dataset es f e (overwritten f.reads gate (byte ∷ [])) d)

  body_settled : (f : File) (e : Entry) → IsSettled dataset es f → IsSettled dataset es (synced (written f (gate + 1) (body_of e ++ 0 ∷ [])))
  body_settled f e s = synced_settled dataset es (written f (gate + 1) (body_of e ++ 0 ∷ [])) (written_settled dataset es f (body_of e ++ 0 ∷ []) s).reads

  -- while a body is written, each image lists the entries
  pub body_leaves : (o : Option File) (e : Entry) (staged : Option Entry) (c : List ℕ) → MatchOption o (Unit {0}) (IsSound dataset es None staged) → LeftMeanwhile o (gate + 1) (body_of e ++ 0 ∷ []) c → Lists dataset es c
  body_leaves None e staged c s left = absurd left
  body_leaves (Some f) e staged c s (g, (inl torn, image)) = settled_image dataset es g c (unsynced_settled f g (body_of e ++ 0 ∷ []) s.0 torn) image
  body_leaves (Some f) e staged c s (g, (inr is, image)) = settled_image dataset es g c (subst (IsSettled dataset es) (sym is) (body_settled f e s.0)) image

  -- while a gate is opened, each image lists the entries, or these and the one behind it
  pub gate_leaves : (o : Option File) (e : Entry) (c : List ℕ) → MatchOption o (Unit {0}) (IsSound dataset es None (Some e)) → LeftMeanwhile o gate (79 ∷ []) c → ListsOrAlso dataset es (Some e) c
  gate_leaves None e c s left = absurd left
  gate_leaves (Some f) e c s (g, (inl torn, image)) = doubt_image dataset es g e (unsynced_doubt f g e 79 (staged_doubt dataset es f e s.1) torn) c image
  gate_leaves (Some f) e c s (g, (inr is, image)) =
      inr (settled_image dataset (es ++ e ∷ []) g c (subst (IsSettled dataset (es ++ e ∷ [])) (sym is) (synced_settled dataset (es ++ e ∷ []) (written f gate (79 ∷ [])) (gate_opened dataset es f e s.1))) image)

  -- while a gate in doubt is closed, too
  pub mend_leaves : (o : Option File) (e : Entry) (staged : Option Entry) (c : List ℕ) → ((f : File) → o ≡ Some f → IsImage f f.reads) → MatchOption o (Unit {0}) (IsSound dataset es (Some e) staged) → LeftMeanwhile o gate (0 ∷ []) c → ListsOrAlso dataset es (Some e) c
  mend_leaves None e staged c reads s left = absurd left
  mend_leaves (Some f) e staged c reads s (g, (inl torn, image)) = doubt_image dataset es g e (unsynced_doubt f g e 0 s torn) c image
  mend_leaves (Some f) e staged c reads s (g, (inr is, image)) = inl (settled_image dataset es g c (subst (IsSettled dataset es) (sym is) (mended dataset es f e s (reads f refl))) image)

  -- what stands between two calls
  pub now_leaves : (o : Option File) (doubt staged : Option Entry) (c : List ℕ) → MatchOption o (Unit {0}) (IsSound dataset es doubt staged) → MayLeave o c → ListsOrAlso dataset es doubt c
  now_leaves None doubt staged c s image = absurd image
  now_leaves (Some f) None staged c s image = settled_image dataset es f c s.0 image
  now_leaves (Some f) (Some e) staged c s image = doubt_image dataset es f e s c image

  -- what stands after a body that failed, and after one that succeeded
  pub body_failed : (o p : Option File) (e : Entry) (staged : Option Entry) → MatchOption o (Unit {0}) (IsSound dataset es None staged) → WhereTold o p (λ f g. IsUnsynced f (gate + 1) (body_of e ++ 0 ∷ []) g) → MatchOption p (Unit {0}) (IsSound dataset es None None)
  body_failed (Some f) (Some g) e staged s torn = (unsynced_settled f g (body_of e ++ 0 ∷ []) s.0 torn, tt)
  body_failed (Some f) None e staged s torn = absurd torn
  body_failed None (Some g) e staged s torn = absurd torn
  body_failed None None e staged s torn = tt

  pub body_stands : (o p : Option File) (e : Entry) (staged : Option Entry) → Fits (length es) e → length es < 65535 → MatchOption o (Unit {0}) (IsSound dataset es None staged)
      → p ≡ option_map (λ f. synced (written f (gate + 1) (body_of e ++ 0 ∷ []))) o → MatchOption p (Unit {0}) (IsSound dataset es None (Some e))
  body_stands o p e staged fits few s is = subst (λ (q : Option File). MatchOption q (Unit {0}) (IsSound dataset es None (Some e))) (sym is) (go o s)
    where
      go : (o : Option File) → MatchOption o (Unit {0}) (IsSound dataset es None staged) → MatchOption (option_map (λ f. synced (written f (gate + 1) (body_of e ++ 0 ∷ []))) o) (Unit {0}) (IsSound dataset es None (Some e))
      go (Some f) s = (body_settled f e s.0, body_staged dataset es f e s.0 fits few)
      go None s = tt

  -- after a gate that failed, and after one that was opened
  pub gate_failed : (o p : Option File) (e : Entry) → MatchOption o (Unit {0}) (IsSound dataset es None (Some e)) → WhereTold o p (λ f g. IsUnsynced f gate (79 ∷ []) g) → MatchOption p (Unit {0}) (IsSound dataset es (Some e) None)
  gate_failed (Some f) (Some g) e s torn = unsynced_doubt f g e 79 (staged_doubt dataset es f e s.1) torn
  gate_failed (Some f) None e s torn = absurd torn
  gate_failed None (Some g) e s torn = absurd torn
  gate_failed None None e s torn = tt

  pub gate_stands : (o p : Option File) (e : Entry) → MatchOption o (Unit {0}) (IsSound dataset es None (Some e)) → p ≡ option_map (λ f. synced (written f gate (79 ∷ []))) o → MatchOption p (Unit {0}) (IsSound dataset (es ++ e ∷ []) None None)
  gate_stands o p e s is = subst (λ (q : Option File). MatchOption q (Unit {0}) (IsSound dataset (es ++ e ∷ []) None None)) (sym is) (go o s)
    where
      go : (o : Option File) → MatchOption o (Unit {0}) (IsSound dataset es None (Some e)) → MatchOption (option_map (λ f. synced (written f gate (79 ∷ []))) o) (Unit {0}) (IsSound dataset (es ++ e ∷ []) None None)
      go (Some f) s = (synced_settled dataset (es ++ e ∷ []) (written f gate (79 ∷ [])) (gate_opened dataset es f e s.1), tt)
      go None s = tt

  -- after a gate in doubt that wasn't closed, and after one that was
  pub mend_failed : (o p : Option File) (e : Entry) (staged : Option Entry) → MatchOption o (Unit {0}) (IsSound dataset es (Some e) staged) → WhereTold o p (λ f g. IsUnsynced f gate (0 ∷ []) g) → MatchOption p (Unit {0}) (IsSound dataset es (Some e) None)
  mend_failed (Some f) (Some g) e staged s torn = unsynced_doubt f g e 0 s torn
  mend_failed (Some f) None e staged s torn = absurd torn
  mend_failed None (Some g) e staged s torn = absurd torn
  mend_failed None None e staged s torn = tt

  pub mend_stands : (o p : Option File) (e : Entry) (staged : Option Entry) → ((f : File) → o ≡ Some f → IsImage f f.reads) → MatchOption o (Unit {0}) (IsSound dataset es (Some e) staged)
      → p ≡ option_map (λ f. synced (written f gate (0 ∷ []))) o → MatchOption p (Unit {0}) (IsSound dataset es None None)
  mend_stands o p e staged reads s is = subst (λ (q : Option File). MatchOption q (Unit {0}) (IsSound dataset es None None)) (sym is) (go o reads s)
    where
      go : (o : Option File) → ((f : File) → o ≡ Some f → IsImage f f.reads) → MatchOption o (Unit {0}) (IsSound dataset es (Some e) staged) → MatchOption (option_map (λ f. synced (written f gate (0 ∷ []))) o) (Unit {0}) (IsSound dataset es None None)
      go (Some f) reads s = (mended dataset es f e s (reads f refl), tt)
      go None reads s = tt

-- the gate in doubt, as an option
pub closing_leaves : (dataset : List ℕ) (es : List Entry) (o : Option File) (doubt staged : Option Entry) (c : List ℕ) → is_some doubt ≡ true → ((f : File) → o ≡ Some f → IsImage f f.reads) → MatchOption o (Unit {0}) (IsSound dataset es doubt staged)
    → LeftMeanwhile o (gate_at (length es)) (0 ∷ []) c → ListsOrAlso dataset es doubt c
closing_leaves dataset es o None staged c some reads s left = absurd (cc some)
closing_leaves dataset es o (Some e) staged c some reads s left = mend_leaves dataset es o e staged c reads s left

pub closing_failed : (dataset : List ℕ) (es : List Entry) (o p : Option File) (doubt staged : Option Entry) → is_some doubt ≡ true → MatchOption o (Unit {0}) (IsSound dataset es doubt staged)
    → WhereTold o p (λ f g. IsUnsynced f (gate_at (length es)) (0 ∷ []) g) → MatchOption p (Unit {0}) (IsSound dataset es doubt None)
closing_failed dataset es o p None staged some s torn = absurd (cc some)
closing_failed dataset es o p (Some e) staged some s torn = mend_failed dataset es o p e staged s torn

pub closing_stands : (dataset : List ℕ) (es : List Entry) (o p : Option File) (doubt staged : Option Entry) → is_some doubt ≡ true → ((f : File) → o ≡ Some f → IsImage f f.reads) → MatchOption o (Unit {0}) (IsSound dataset es doubt staged)
    → p ≡ option_map (λ f. synced (written f (gate_at (length es)) (0 ∷ []))) o → MatchOption p (Unit {0}) (IsSound dataset es None None)
closing_stands dataset es o p None staged some reads s is = absurd (cc some)
closing_stands dataset es o p (Some e) staged some reads s is = mend_stands dataset es o p e staged reads s is
