-- What a dataset that was opened says of its lines and of its damage.
use Rattle.std.proofs.Common.{◌≡◌, ◌∙◌, ℕ, true, false, true≢false, ◌||◌, List, [], ◌∷◌, map, Option, Some, None, IfSome, refl, sym, ap, subst, inl, inr}
use Rattle.std.specs.Prelude.{MatchOption, is_some, option_map, Contains, Ok, Err, OnErr, OnOk, Result}
use Rattle.std.specs.List.{AllZip}
use Rattle.fd_bytes.specs.Causes.{Rose}
use Rattle.fd_disk.specs.declared.file.File.{File}
use Rattle.fd_disk.specs.Folders.{Contents, Holdings, folder_at}
use Rattle.fd_entries.specs.declared.batch.Pair.{Pair}
use Rattle.fd_entries.specs.declared.table.Entry.{Entry}
use Rattle.fd_entries.specs.Table.{listed}
use Rattle.fd_dataset.specs.Listed.{listing}
use Rattle.fd_recovery.specs.Damages.{index_file}
use Rattle.fd_recovery.specs.Recovered.{all_of, files_of}
use Rattle.fd_segment.specs.Causes.{IsBadIndex}
use Rattle.fd_segment.specs.Held.{Files, Standing}
use Rattle.fd_segment.specs.declared.fault.Damage.{Damage}
use Rattle.fd_inventory.specs.Indexes.{IsAmongBad, Tells}
use Rattle.fd_inventory.specs.Recorded.{AreRecorded, IsRecorded, IsTextBy, TakesBy}
use Rattle.fd_inventory.specs.Written.{HasLinesCause}
use Rattle.fd_inventory.proofs.Upserting.{self}
use Rattle.fd_stored.specs.Distinct.{is_among}
use Rattle.fd_inventory.specs.declared.fault.LinesFault.{LinesFault}
use Rattle.fd_inventory.specs.declared.fault.LinesFault.TheVariants as faults
use Rattle.fd_request.specs.Expansion.{Keyword}
use Rattle.fd_stored.specs.Causes.{BadFile}
use Rattle.fd_outcome.specs.Outcome.{stats_of}
use Rattle.fd_outcome.specs.Rows.{axes_text, list_text, stats_text}
use Rattle.fd_stored.specs.Store.{Stands, entries_in, if_listed, table_at}
use Rattle.fd_retrieve.specs.Open.{IsOpenIn, Open}
use Rattle.fd_retrieve.proofs.DatasetLemmas.{contains_mapped, contains_of}
use Rattle.fd_contents.specs.declared.lines.Lines.{Lines}
use Rattle.fd_contents.specs.declared.lines.Lines.TheVariants as lines
use Rattle.fd_telling.specs.declared.stop.Stop.{Stop}
use Rattle.fd_contents.specs.declared.datasets.Halt.{Halt}
use Rattle.fd_contents.specs.declared.datasets.Halt.TheVariants as halts
use Rattle.fd_contents.specs.Halts.{IsWrite, OnStop}
use Rattle.fd_contents.specs.Printed.{IsText, TakesText}
use Rattle.fd_contents.specs.Recorded.{AreRecordedIn}
use Rattle.fd_contents.specs.Texts.{text_for}

some_is : {A : Type 0} (x y : A) → (let o : Option A = Some x in o ≡ Some y) → x ≡ y
some_is x y e = cc e

-- what is made of something made that is there
record Made {A B : Type 0} (f : A → B) (o : Option A) (y : B) : Type 0 where
  from : A
  is : o ≡ Some from
  makes : f from ≡ y

made_of : {A B : Type 0} (f : A → B) (o : Option A) (y : B) → option_map f o ≡ Some y → Made f o y
made_of f None y e = absurd (true≢false (sym (ap is_some e)))
made_of f (Some x) y e = record { from = x; is = refl; makes = some_is (f x) y e }

-- each listing has a batch of the table
pub tells_all : (ls : List Standing) (t : List (List Pair)) → all_of (map (λ l. l.batch) (map listing ls)) ≡ Some t → Tells (map listing ls) t
tells_all [] t e = ap (map (λ (b : List Pair). Some b)) (some_is [] t e)
tells_all (l ∷ ls) t e = by (listing l).batch refl (tells_all ls) e
  where
    by : (o : Option (List Pair)) → (listing l).batch ≡ o → ((u : List (List Pair)) → all_of (map (λ x. x.batch) (map listing ls)) ≡ Some u → Tells (map listing ls) u)
        → all_of (o ∷ map (λ x. x.batch) (map listing ls)) ≡ Some t → Tells (map listing (l ∷ ls)) t
    by None is again h = absurd (true≢false (sym (ap is_some h)))
    by (Some b) is again h =
        let m = made_of (λ (more : List (List Pair)). b ∷ more) (all_of (map (λ x. x.batch) (map listing ls))) t h in
        subst (λ u. (listing l).batch ∷ map (λ x. x.batch) (map listing ls) ≡ map (λ c. Some c) u) m.makes (λ i. is i ∷ again m.from m.is i)

-- ---- the entries that its table listed

entries_at : (es : List Entry) (v : Contents) → map (λ (f : Files). f.entry) (map (files_of v.files) es) ≡ es
entries_at [] v = refl
entries_at (e ∷ es) v = ap (λ l. e ∷ l) (entries_at es v)

entries_in_files : (ss : List Standing) → map (λ (f : Files). f.entry) (map (λ s. s.files) ss) ≡ map (λ s. s.files.entry) ss
entries_in_files [] = refl
entries_in_files (s ∷ ss) = ap (λ l. s.files.entry ∷ l) (entries_in_files ss)

module _ (h : Holdings) (o : Open) (open_ : IsOpenIn h o) where
  shown_entries : map (λ s. s.files.entry) o.shown ≡ open_.listed.entries
  shown_entries =
      sym (entries_in_files o.shown)
      ∙ ap (map (λ (f : Files). f.entry)) open_.listed.files ∙ entries_at open_.listed.entries (folder_at h o.name)

  table_entries : entries_in o.name (folder_at h o.name).table ≡ Some open_.listed.entries
  table_entries = ap (entries_in o.name) open_.listed.table_is ∙ ap if_listed open_.listed.lists

  -- the lines of its table are those that are made of what it shows
  told_by : (f : List (List Pair) → List ℕ) (text : List ℕ) → option_map f (table_at h o.name) ≡ Some text → (t : List (List Pair)) × Tells (map listing o.shown) t × (f t ≡ text)
  told_by f text e =
      let m = made_of f (table_at h o.name) text e in
      (m.from, tells_all o.shown m.from (open_.held ∙ m.is), m.makes)

  pub list_told : (keywords : List Keyword) (text : List ℕ) → text_for (lines.List keywords) h o.name ≡ Some text → (t : List (List Pair)) × Tells (map listing o.shown) t × (list_text keywords o.name t ≡ text)
  list_told keywords text e = told_by (list_text keywords o.name) text e

  pub axes_told : (keywords : List Keyword) (text : List ℕ) → text_for (lines.Axes keywords) h o.name ≡ Some text → (t : List (List Pair)) × Tells (map listing o.shown) t × (axes_text keywords o.name t ≡ text)
  axes_told keywords text e = told_by (axes_text keywords o.name) text e

  pub stats_told : (text : List ℕ) → text_for lines.Stats h o.name ≡ Some text → (t : List (List Pair)) × Tells (map listing o.shown) t × (stats_text o.name (map (λ s. s.files.entry) o.shown) t ≡ text)
  stats_told text e =
      let of : stats_of o.name (Some open_.listed.entries) (table_at h o.name) ≡ Some text = ap (λ es. stats_of o.name es (table_at h o.name)) (sym table_entries) ∙ e in
      by (table_at h o.name) refl of
    where
      by : (q : Option (List (List Pair))) → table_at h o.name ≡ q → stats_of o.name (Some open_.listed.entries) q ≡ Some text
          → (t : List (List Pair)) × Tells (map listing o.shown) t × (stats_text o.name (map (λ s. s.files.entry) o.shown) t ≡ text)
      by None is h = absurd (true≢false (sym (ap is_some h)))
      by (Some t) is h = (t, tells_all o.shown t (open_.held ∙ is), ap (λ es. stats_text o.name es t) shown_entries ∙ some_is (stats_text o.name open_.listed.entries t) text h)

  -- ---- what its indexes have records of

  pub open_recorded : (t : List (List Pair)) → AreRecorded o.shown t → AreRecordedIn o.name (folder_at h o.name) t
  open_recorded t all =
      subst (λ (q : Option File). MatchOption q (t ≡ []) (λ f. (es : List Entry) × (listed o.name f.reads ≡ Ok es) × AllZip IsRecorded (map (files_of (folder_at h o.name).files) es) t)) (sym open_.listed.table_is)
      (open_.listed.entries, open_.listed.lists, subst (λ fs. AllZip IsRecorded fs t) open_.listed.files all)

  sound_by : (f : List (List Pair) → List ℕ) (x : List ℕ) → ((t : List (List Pair)) → Tells (map listing o.shown) t → x ≡ f t) → (q : Option (List (List Pair))) → table_at h o.name ≡ q → IfSome (option_map f q) (λ y. x ≡ y)
  sound_by f x is None e = tt
  sound_by f x is (Some t) e = is t (tells_all o.shown t (open_.held ∙ e))

  list_is : (keywords : List Keyword) (x : List ℕ) → IsTextBy (list_text keywords o.name) o.shown x → IsText (lines.List keywords) h o.name x
  list_is keywords x by = record { sound = sound_by (list_text keywords o.name) x by.sound (table_at h o.name) refl; recorded = (by.table, open_recorded by.table by.recorded, ap (λ (y : List ℕ). Some y) (sym by.is)) }

  axes_is : (keywords : List Keyword) (x : List ℕ) → IsTextBy (axes_text keywords o.name) o.shown x → IsText (lines.Axes keywords) h o.name x
  axes_is keywords x by = record { sound = sound_by (axes_text keywords o.name) x by.sound (table_at h o.name) refl; recorded = (by.table, open_recorded by.table by.recorded, ap (λ (y : List ℕ). Some y) (sym by.is)) }

  stats_is : (x : List ℕ) → IsTextBy (stats_text o.name (map (λ s. s.files.entry) o.shown)) o.shown x → IsText lines.Stats h o.name x
  stats_is x by = record {
    sound = subst (λ es. IfSome (stats_of o.name es (table_at h o.name)) (λ y. x ≡ y)) (sym table_entries) (told (table_at h o.name) refl);
    recorded = (by.table, open_recorded by.table by.recorded, ap (λ es. stats_of o.name es (Some by.table)) table_entries ∙ ap (λ (y : List ℕ). Some y) (sym (by.is ∙ ap (λ es. stats_text o.name es by.table) shown_entries)));
  }
    where
      told : (q : Option (List (List Pair))) → table_at h o.name ≡ q → IfSome (stats_of o.name (Some open_.listed.entries) q) (λ y. x ≡ y)
      told None e = tt
      told (Some t) e = by.sound t (tells_all o.shown t (open_.held ∙ e)) ∙ ap (λ es. stats_text o.name es t) shown_entries

-- ---- damage

pub stands_at : (h : Holdings) (o : Open) (d : Damage) → IsOpenIn h o → IsAmongBad o.shown d → Stands o.name (folder_at h o.name) (BadFile d)
stands_at h o d open_ (s, there, bad) =
    let v = folder_at h o.name in
    let l = open_.listed in
    let has = contains_mapped (λ (x : Standing). x.files) o.shown s there in
    let e = contains_of (files_of v.files) l.entries s.files (subst (λ fs. Contains fs s.files) l.files has) in
    let moved : IsBadIndex e.0 (v.files (index_file e.0)) d = subst (λ (f : Files). IsBadIndex f.entry f.index d) (sym e.2) bad in
    (l.table, l.entries, l.table_is, l.lists, inr (e.0, e.1, inl moved))

-- ---- what lines that failed say of the sink

pub rose_by : {F X : Type 0} (e : LinesFault F X) (m n : ℕ) → IsWrite e → (let r : Result (Unit {0}) (LinesFault F X) = Err e in HasLinesCause r m n) → Rose m n
rose_by (faults.Disk f) m n is cause = absurd is
rose_by (faults.Write x) m n is cause = cause
rose_by (faults.Damaged d) m n is cause = absurd is
rose_by faults.NoMemory m n is cause = absurd is

pub among_self : (name : List ℕ) → is_among (name ∷ []) name ≡ true
among_self name = ap (λ b. b || false) (self name)

pub on_stop : {F X : Type 0} (halt : Halt F X) (P Q : Stop F → Type 0) → ((stop : Stop F) → P stop → Q stop) → OnStop halt P → OnStop halt Q
on_stop (halts.Stop stop) P Q to p = to stop p
on_stop (halts.Unwritten x) P Q to p = tt

-- ---- what lines that were written say of the dataset

pub on_ok : {A E P Q : Type 0} → (P → Q) → (r : Result A E) → OnOk r P → OnOk r Q
on_ok f (Ok x) p = f p
on_ok f (Err e) p = tt

pub on_err : {A E P Q : Type 0} → (P → Q) → (r : Result A E) → OnErr r P → OnErr r Q
on_err f (Ok x) p = tt
on_err f (Err e) p = f p

module _ (o : Open) (l : Lines) (shown : List Standing) (name : List ℕ) (P : List ℕ → Type 0) (shown_is : shown ≡ o.shown) (name_is : name ≡ o.name) where
  pub list_took : (ks : List Keyword) → l ≡ lines.List ks → ((t : List (List Pair)) → Tells (map listing shown) t → P (list_text ks name t)) → (h : Holdings) (text : List ℕ) → IsOpenIn h o → text_for l h o.name ≡ Some text → P text
  list_took ks is took h text open_ e =
      let x = list_told h o open_ ks text (subst (λ k. text_for k h o.name ≡ Some text) is e) in
      subst P x.2 (subst (λ n. P (list_text ks n x.0)) name_is (took x.0 (subst (λ s. Tells (map listing s) x.0) (sym shown_is) x.1)))

  pub axes_took : (ks : List Keyword) → l ≡ lines.Axes ks → ((t : List (List Pair)) → Tells (map listing shown) t → P (axes_text ks name t)) → (h : Holdings) (text : List ℕ) → IsOpenIn h o → text_for l h o.name ≡ Some text → P text
  axes_took ks is took h text open_ e =
      let x = axes_told h o open_ ks text (subst (λ k. text_for k h o.name ≡ Some text) is e) in
      subst P x.2 (subst (λ n. P (axes_text ks n x.0)) name_is (took x.0 (subst (λ s. Tells (map listing s) x.0) (sym shown_is) x.1)))

  pub stats_took : l ≡ lines.Stats → ((t : List (List Pair)) → Tells (map listing shown) t → P (stats_text name (map (λ s. s.files.entry) shown) t)) → (h : Holdings) (text : List ℕ) → IsOpenIn h o → text_for l h o.name ≡ Some text → P text
  stats_took is took h text open_ e =
      let x = stats_told h o open_ text (subst (λ k. text_for k h o.name ≡ Some text) is e) in
      subst P x.2 (subst (λ n. P (stats_text n (map (λ s. s.files.entry) o.shown) x.0)) name_is (subst (λ s. P (stats_text name (map (λ y. y.files.entry) s) x.0)) shown_is (took x.0 (subst (λ s. Tells (map listing s) x.0) (sym shown_is) x.1))))

-- ---- which text was taken

module _ (o : Open) (l : Lines) (shown : List Standing) (name : List ℕ) (a b : Option (List ℕ)) (shown_is : shown ≡ o.shown) (name_is : name ≡ o.name) where
  -- such a text of the dataset, wherever it is open
  abbrev TakesIt : Type 0
  TakesIt = (h : Holdings) → IsOpenIn h o → TakesText l h o.name a b

  pub list_taken : (ks : List Keyword) → l ≡ lines.List ks → TakesBy (list_text ks name) shown a b → TakesIt
  list_taken ks is took h open_ =
      let t = subst (λ n. TakesBy (list_text ks n) o.shown a b) name_is (subst (λ ss. TakesBy (list_text ks name) ss a b) shown_is took) in
      (t.0, subst (λ k. IsText k h o.name t.0) (sym is) (list_is h o open_ ks t.0 t.1), t.2)

  pub axes_taken : (ks : List Keyword) → l ≡ lines.Axes ks → TakesBy (axes_text ks name) shown a b → TakesIt
  axes_taken ks is took h open_ =
      let t = subst (λ n. TakesBy (axes_text ks n) o.shown a b) name_is (subst (λ ss. TakesBy (axes_text ks name) ss a b) shown_is took) in
      (t.0, subst (λ k. IsText k h o.name t.0) (sym is) (axes_is h o open_ ks t.0 t.1), t.2)

  pub stats_taken : l ≡ lines.Stats → TakesBy (stats_text name (map (λ s. s.files.entry) shown)) shown a b → TakesIt
  stats_taken is took h open_ =
      let t = subst (λ n. TakesBy (stats_text n (map (λ s. s.files.entry) o.shown)) o.shown a b) name_is (subst (λ (ss : List Standing). TakesBy (stats_text name (map (λ s. s.files.entry) ss)) ss a b) shown_is took) in
      (t.0, subst (λ k. IsText k h o.name t.0) (sym is) (stats_is h o open_ t.0 t.1), t.2)
