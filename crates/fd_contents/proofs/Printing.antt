-- What is printed of datasets, one after the other, of a store whose folders are only looked into.
use Rattle.std.proofs.Common.{◌≡◌, ◌∙◌, ◌++◌, ℕ, false, List, [], ◌∷◌, Option, Some, None, IfSome, refl, sym, ap, subst, append-nil}
use Rattle.std.specs.List.{AllZip, concat}
use Rattle.std.proofs.lemmas.List.Elements.{AllZip-push}
use Rattle.std.proofs.lemmas.List.Folds.{concat-append}
use Rattle.fd_io.specs.Streams.{Takes}
use Rattle.fd_disk.specs.Folders.{Holdings, WhereTold, folder_at}
use Rattle.fd_recovery.specs.Recovered.{IsUndamaged}
use Rattle.fd_stored.specs.Store.{AreNames, IsLookedThrough, Stays, has_table}
use Rattle.fd_outcome.proofs.Endings.{takes_both, takes_nothing}
use Rattle.fd_retrieve.specs.Open.{IsOpenIn, Open}
use Rattle.fd_retrieve.proofs.ReadyLemmas.{none_damaged_more}
use Rattle.fd_contents.specs.declared.lines.Lines.{Lines}
use Rattle.fd_contents.specs.Printed.{ArePrinted, IsPrinted, IsText, TakesText}
use Rattle.fd_contents.specs.Texts.{text_for, texts_for}
use Rattle.fd_contents.proofs.Looked.{recorded_before, recorded_none, sound_before, stays_looked}
use Rattle.fd_contents.proofs.Texts.{both_some, no_text, no_text_with, some_is, text_stays, with_stays}

module _ (l : Lines) where
  -- ---- one dataset

  -- a dataset without a table
  pub none_printed : (has : Option Holdings) (name : List ℕ) (a : Option (List ℕ)) → IfSome has (λ h. false ≡ has_table h name) → IfSome has (λ h. IsUndamaged name (folder_at h name)) → IfSome has (λ h. IsPrinted l h name a a)
  none_printed None name a none sound = tt
  none_printed (Some h) name a none sound = record {
    undamaged = sound;
    text = [];
    is = record { sound = subst (λ o. IfSome o (λ y. [] ≡ y)) (sym (no_text l h name none)) refl; recorded = ([], recorded_none h name none, no_text_with l h name none) };
    took = takes_nothing a;
  }

  -- a dataset that was opened
  pub printed_at_open : (has : Option Holdings) (o : Open) (name : List ℕ) (a b : Option (List ℕ)) → o.name ≡ name → IfSome has (λ h. IsOpenIn h o) → IfSome has (λ h. IsUndamaged name (folder_at h name))
      → ((h : Holdings) → IsOpenIn h o → TakesText l h o.name a b) → IfSome has (λ h. IsPrinted l h name a b)
  printed_at_open None o name a b is open_ sound took = tt
  printed_at_open (Some h) o name a b is open_ sound took =
      let x = subst (λ n. TakesText l h n a b) is (took h open_) in
      record { undamaged = sound; text = x.0; is = x.1; took = x.2 }

  -- ---- one dataset more

  -- what was printed by now
  abbrev pub Printed : Option Holdings → List (List ℕ) → Option (List ℕ) → Option (List ℕ) → Type 0
  Printed has names a b = IfSome has (λ h. ArePrinted l h names a b)

  pub none_yet : (has : Option Holdings) (a : Option (List ℕ)) → Printed has [] a a
  none_yet None a = tt
  none_yet (Some h) a = record { undamaged = λ n among. absurd cc; texts = []; each = tt; took = takes_nothing a }

  text_before : (h i : Holdings) (name x : List ℕ) → IsLookedThrough h i → Stays h i → IsText l i name x → IsText l h name x
  text_before h i name x looks stays is =
      let r = is.recorded in
      record {
        sound = subst (λ o. IfSome o (λ y. x ≡ y)) (text_stays l h i name stays) is.sound;
        recorded = (r.0, recorded_before name r.0 (folder_at h name) (folder_at i name) (looks.folders name) r.1, sym (with_stays l h i name (Some r.0) stays) ∙ r.2);
      }

  more : (h i : Holdings) (before : List (List ℕ)) (name : List ℕ) (a b c : Option (List ℕ)) → IsLookedThrough h i → Stays h i → ArePrinted l h before a b → IsPrinted l i name b c → ArePrinted l h (before ++ name ∷ []) a c
  more h i before name a b c looks stays so_far one = record {
    undamaged = none_damaged_more h before name so_far.undamaged (sound_before name (folder_at h name) (folder_at i name) (looks.folders name) one.undamaged);
    texts = so_far.texts ++ one.text ∷ [];
    each = AllZip-push (IsText l h) before so_far.texts name one.text so_far.each (text_before h i name one.text looks stays one.is);
    took = subst (Takes a c) (sym (concat-append so_far.texts (one.text ∷ []) ∙ ap (λ t. concat so_far.texts ++ t) (append-nil one.text))) (takes_both a b c (concat so_far.texts) one.text so_far.took one.took);
  }

  pub one_more : (old mid : Option Holdings) (before : List (List ℕ)) (name : List ℕ) (a b c : Option (List ℕ)) → WhereTold old mid IsLookedThrough → Printed old before a b → IfSome mid (λ h. IsPrinted l h name b c)
      → Printed old (before ++ name ∷ []) a c
  one_more None mid before name a b c looks so_far one = tt
  one_more (Some h) None before name a b c looks so_far one = absurd looks
  one_more (Some h) (Some i) before name a b c looks so_far one = more h i before name a b c looks (stays_looked (Some h) (Some i) looks) so_far one

  -- ---- where none of them is damaged, they are the lines

  texts_are : (h : Holdings) (names xs : List (List ℕ)) (text : List ℕ) → AllZip (IsText l h) names xs → texts_for l h names ≡ Some text → concat xs ≡ text
  texts_are h [] [] text each e = some_is [] text e
  texts_are h [] (x ∷ xs) text each e = absurd each
  texts_are h (n ∷ ns) [] text each e = absurd each
  texts_are h (n ∷ ns) (x ∷ xs) text each e =
      let p = both_some (text_for l h n) (texts_for l h ns) text e in
      let own : x ≡ p.one = subst (λ o. IfSome o (λ y. x ≡ y)) p.one_is each.0.sound in
      ap (λ t. t ++ concat xs) own ∙ ap (λ t. p.one ++ t) (texts_are h ns xs p.other each.1 p.other_is) ∙ sym p.text_is

  took_by : (h : Holdings) (names : List (List ℕ)) (a b : Option (List ℕ)) → ArePrinted l h names a b → (text : List ℕ) → texts_for l h names ≡ Some text → Takes a b text
  took_by h names a b p text e = subst (Takes a b) (texts_are h names p.texts text p.each e) p.took

  pub took_so_far : (has : Option Holdings) (names : List (List ℕ)) (a b : Option (List ℕ)) → Printed has names a b → IfSome has (λ h. (text : List ℕ) → texts_for l h names ≡ Some text → Takes a b text)
  took_so_far None names a b p = tt
  took_so_far (Some h) names a b p = took_by h names a b p

  pub took_all : (has : Option Holdings) (a b : Option (List ℕ)) → IfSome has (λ h. (names : List (List ℕ)) → AreNames h names → ArePrinted l h names a b)
      → IfSome has (λ h. (names : List (List ℕ)) (text : List ℕ) → AreNames h names → texts_for l h names ≡ Some text → Takes a b text)
  took_all None a b p = tt
  took_all (Some h) a b p = λ names text are e. took_by h names a b (p names are) text e
