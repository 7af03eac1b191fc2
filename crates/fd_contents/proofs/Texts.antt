-- The lines of datasets, one after the other, of a store that stays.
use Rattle.std.proofs.Common.{◌≡◌, ◌∙◌, ℕ, false, true≢false, List, [], ◌∷◌, ◌++◌, Option, Some, None, IfSome, refl, sym, ap, subst, append_assoc, ◌+◌, ◌<◌, length, map, take, drop, get_or}
use Rattle.std.specs.Prelude.{is_some, option_map, Result}
use Rattle.fd_io.specs.Streams.{Takes, TakesFront}
use Rattle.fd_disk.specs.declared.file.File.{File}
use Rattle.fd_disk.specs.Folders.{Holdings, WhereTold, folder_at}
use Rattle.fd_entries.specs.declared.batch.Pair.{Pair}
use Rattle.fd_entries.specs.declared.table.Entry.{Entry}
use Rattle.fd_entries.specs.declared.table.NotATable.{NotATable}
use Rattle.fd_entries.specs.Table.{listed}
use Rattle.fd_recovery.specs.Recovered.{held_by}
use Rattle.fd_request.specs.Expansion.{Keyword}
use Rattle.fd_outcome.specs.Outcome.{both, stats_of}
use Rattle.fd_outcome.specs.Rows.{axes_text, list_text}
use Rattle.fd_stored.specs.Store.{Stays, entries_in, has_table, if_listed, table_at}
use Rattle.fd_outcome.proofs.Endings.{front_more, nothing_of, takes_then_front}
use Rattle.fd_retrieve.specs.Open.{IsOpenIn, Open}
use Rattle.fd_retrieve.proofs.PrepareLemmas.{take_more, take_rest}
use Rattle.fd_retrieve.proofs.Staying.{same_at}
use Rattle.fd_contents.specs.declared.lines.Lines.{Lines}
use Rattle.fd_contents.specs.declared.lines.Lines.TheVariants as lines
use Rattle.fd_contents.specs.Texts.{text_for, text_with, texts_for}

pub some_is : {A : Type 0} (x y : A) → (let o : Option A = Some x in o ≡ Some y) → x ≡ y
some_is x y e = cc e

pub record Parts (a b : Option (List ℕ)) (text : List ℕ) : Type 0 where
  pub one : List ℕ
  pub other : List ℕ
  pub one_is : a ≡ Some one
  pub other_is : b ≡ Some other
  pub text_is : text ≡ one ++ other

pub both_some : (a b : Option (List ℕ)) (text : List ℕ) → both a b ≡ Some text → Parts a b text
both_some (Some x) (Some y) text e = record { one = x; other = y; one_is = refl; other_is = refl; text_is = sym (some_is (x ++ y) text e) }
both_some (Some x) None text e = absurd (true≢false (sym (ap is_some e)))
both_some None b text e = absurd (true≢false (sym (ap is_some e)))

module _ (l : Lines) where
  texts_parts : (h : Holdings) (ms ns : List (List ℕ)) (text : List ℕ) → texts_for l h (ms ++ ns) ≡ Some text → Parts (texts_for l h ms) (texts_for l h ns) text
  texts_parts h [] ns text e = record { one = []; other = text; one_is = refl; other_is = e; text_is = refl }
  texts_parts h (m ∷ ms) ns text e =
      let p = both_some (text_for l h m) (texts_for l h (ms ++ ns)) text e in
      let q = texts_parts h ms ns p.other p.other_is in
      record {
        one = p.one ++ q.one;
        other = q.other;
        one_is = ap (λ o. both o (texts_for l h ms)) p.one_is ∙ ap (both (Some p.one)) q.one_is;
        other_is = q.other_is;
        text_is = p.text_is ∙ ap (λ t. p.one ++ t) q.text_is ∙ sym (append_assoc p.one q.one q.other);
      }

  -- ---- of a store that stays

  entries_or_none : Option (Result (List Entry) NotATable) → Option (List Entry)
  entries_or_none None = None
  entries_or_none (Some r) = if_listed r

  entries_by : (name : List ℕ) (o : Option File) → entries_in name o ≡ entries_or_none (option_map (λ f. listed name f.reads) o)
  unfolding entries_or_none
  entries_by name None = refl
  entries_by name (Some f) = refl

  entries_stay : (h i : Holdings) (name : List ℕ) → Stays h i → entries_in name (folder_at i name).table ≡ entries_in name (folder_at h name).table
  entries_stay h i name stays = entries_by name (folder_at i name).table ∙ ap entries_or_none (stays.folders name).table ∙ sym (entries_by name (folder_at h name).table)

  pub text_stays : (h i : Holdings) (name : List ℕ) → Stays h i → text_for l i name ≡ text_for l h name
  text_stays h i name stays = go l
    where
      go : (k : Lines) → text_for k i name ≡ text_for k h name
      go (lines.List keywords) = ap (option_map (list_text keywords name)) (same_at h i stays name)
      go (lines.Axes keywords) = ap (option_map (axes_text keywords name)) (same_at h i stays name)
      go lines.Stats = ap (λ es. stats_of name es (table_at i name)) (entries_stay h i name stays) ∙ ap (stats_of name (entries_in name (folder_at h name).table)) (same_at h i stays name)

  -- and with given batches
  pub with_stays : (h i : Holdings) (name : List ℕ) (t : Option (List (List Pair))) → Stays h i → text_with l i name t ≡ text_with l h name t
  with_stays h i name t stays = go l
    where
      go : (k : Lines) → text_with k i name t ≡ text_with k h name t
      go (lines.List keywords) = refl
      go (lines.Axes keywords) = refl
      go lines.Stats = ap (λ es. stats_of name es t) (entries_stay h i name stays)

  -- ---- a dataset without a table

  no_list : (keywords : List Keyword) (name : List ℕ) → list_text keywords name [] ≡ []
  unfolding list_text
  no_list keywords name = refl

  no_axes : (keywords : List Keyword) (name : List ℕ) → axes_text keywords name [] ≡ []
  unfolding axes_text
  no_axes keywords name = refl

  pub no_text : (h : Holdings) (name : List ℕ) → false ≡ has_table h name → text_for l h name ≡ Some []
  no_text h name none = go (folder_at h name).table refl none
    where
      by : (k : Lines) → (folder_at h name).table ≡ None → text_for k h name ≡ Some []
      by (lines.List keywords) e = ap (λ o. option_map (list_text keywords name) (held_by name (folder_at h name).files o)) e ∙ ap (λ t. Some t) (no_list keywords name)
      by (lines.Axes keywords) e = ap (λ o. option_map (axes_text keywords name) (held_by name (folder_at h name).files o)) e ∙ ap (λ t. Some t) (no_axes keywords name)
      by lines.Stats e = ap (λ o. stats_of name (entries_in name o) (held_by name (folder_at h name).files o)) e

      go : (o : Option File) → (folder_at h name).table ≡ o → false ≡ is_some o → text_for l h name ≡ Some []
      go None e n = by l e
      go (Some f) e n = absurd (true≢false (sym n))

  no_table : (h : Holdings) (name : List ℕ) → false ≡ has_table h name → table_at h name ≡ Some []
  no_table h name none = go (folder_at h name).table refl none
    where
      go : (o : Option File) → (folder_at h name).table ≡ o → false ≡ is_some o → table_at h name ≡ Some []
      go None e n = ap (λ o. held_by name (folder_at h name).files o) e
      go (Some f) e n = absurd (true≢false (sym n))

  pub no_text_with : (h : Holdings) (name : List ℕ) → false ≡ has_table h name → text_with l h name (Some []) ≡ Some []
  no_text_with h name none = ap (text_with l h name) (sym (no_table h name none)) ∙ no_text h name none

  -- ---- one dataset more

  -- what the lines are by now
  abbrev pub Taken : Option Holdings → List (List ℕ) → Option (List ℕ) → Option (List ℕ) → Type 0
  Taken has names a b = IfSome has (λ h. (text : List ℕ) → texts_for l h names ≡ Some text → Takes a b text)

  -- a dataset at which it ends
  pub cut_at : (old mid : Option Holdings) (before later : List (List ℕ)) (name : List ℕ) (a b c : Option (List ℕ)) → WhereTold old mid Stays → Taken old before a b
      → IfSome mid (λ h. (text : List ℕ) → text_for l h name ≡ Some text → TakesFront b c text) → IfSome old (λ h. (text : List ℕ) → texts_for l h (before ++ name ∷ later) ≡ Some text → TakesFront a c text)
  cut_at None mid before later name a b c stays so_far took = tt
  cut_at (Some h) None before later name a b c stays so_far took = absurd stays
  cut_at (Some h) (Some i) before later name a b c stays so_far took = λ text e.
      let p = texts_parts h before (name ∷ later) text e in
      let q = both_some (text_for l h name) (texts_for l h later) p.other p.other_is in
      let front = took q.one (text_stays h i name stays ∙ q.one_is) in
      front_more a c (p.one ++ q.one) q.other text (p.text_is ∙ ap (λ t. p.one ++ t) q.text_is ∙ sym (append_assoc p.one q.one q.other)) (takes_then_front a b c p.one q.one (so_far p.one p.one_is) front)

-- the names before one of them, it, and those behind it
pub split_at : {A : Type 0} (f : A → List ℕ) (xs : List A) (i : ℕ) (x : A) → i < length xs → x ≡ get_or xs i x → map f xs ≡ take i (map f xs) ++ f x ∷ drop (i + 1) (map f xs)
split_at f xs i x inside is =
    let rest = take_rest (map f xs) (i + 1) in
    rest ∙ ap (λ l. l ++ drop (i + 1) (map f xs)) (take_more f xs i x inside is) ∙ append_assoc (take i (map f xs)) (f x ∷ []) (drop (i + 1) (map f xs))

-- nothing was taken yet
pub nothing_front : (l : Lines) (has : Option Holdings) (name : List ℕ) (a : Option (List ℕ)) → IfSome has (λ h. (text : List ℕ) → text_for l h name ≡ Some text → TakesFront a a text)
nothing_front l None name a = tt
nothing_front l (Some h) name a = λ text e. nothing_of a text

-- a front of the lines of a dataset that was opened
pub front_at_open : (l : Lines) (has : Option Holdings) (o : Open) (name : List ℕ) (a b : Option (List ℕ)) → o.name ≡ name → IfSome has (λ h. IsOpenIn h o)
    → ((h : Holdings) (text : List ℕ) → IsOpenIn h o → text_for l h o.name ≡ Some text → TakesFront a b text) → IfSome has (λ h. (text : List ℕ) → text_for l h name ≡ Some text → TakesFront a b text)
front_at_open l None o name a b is open_ front = tt
front_at_open l (Some h) o name a b is open_ front = λ text e. front h text open_ (subst (λ n. text_for l h n ≡ Some text) (sym is) e)
