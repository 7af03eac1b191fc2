-- What a listing that printed all has noticed.
use Rattle.std.proofs.Common.{◌≡◌, ◌∙◌, ℕ, List, [], ◌∷◌, Option, Some, None, IfSome, inl, refl, sym, subst}
use Rattle.std.specs.Prelude.{◌⊎◌, Contains, Ok, Result}
use Rattle.std.specs.List.{AllZip}
use Rattle.fd_io.specs.Streams.{Takes}
use Rattle.fd_disk.specs.Folders.{Holdings, folder_at}
use Rattle.fd_recovery.specs.Recovered.{IsUndamaged}
use Rattle.fd_request.specs.Expansion.{Keyword}
use Rattle.fd_words.specs.declared.command.Command.{Command}
use Rattle.fd_words.specs.declared.command.Command.TheVariants as commands
use Rattle.fd_stored.specs.declared.status.Status.{Status}
use Rattle.fd_stored.specs.declared.status.Status.TheVariants.{Done, Missed}
use Rattle.fd_stored.specs.Causes.{Cause}
use Rattle.fd_outcome.specs.Noticing.{IsTextOf, Noticed, Notices, PrintedEach, PrintedEachOf}
use Rattle.fd_outcome.specs.Objects.{Object, object}
use Rattle.fd_outcome.specs.Rows.{axes_text, list_text}
use Rattle.fd_stored.specs.Store.{AreNames}
use Rattle.fd_outcome.proofs.AnyCommand.{Seen, where_seen}
use Rattle.fd_outcome.proofs.Endings.{takes_nothing}
use Rattle.fd_retrieve.specs.Ready.{NoneIsDamaged}
use Rattle.fd_retrieve.proofs.ReadyLemmas.{among_contained}
use Rattle.fd_contents.specs.declared.lines.Lines.{Lines}
use Rattle.fd_contents.specs.declared.lines.Lines.TheVariants as lines
use Rattle.fd_contents.specs.Asked.{IsListing, asked_in}
use Rattle.fd_contents.specs.Printed.{ArePrinted, IsText, PrintsAll, text_by}
use Rattle.fd_contents.specs.Recorded.{CountsRecords, IsOfRecords, ListsRecords, PrintedByRecords}
use Rattle.fd_contents.specs.Texts.{text_for}
use Rattle.fd_contents.proofs.Exits.{both_at, store_at, uses}

-- a dataset of a store none of which is damaged
pub undamaged_at : (h : Holdings) (names : List (List ℕ)) → NoneIsDamaged h names → (name : List ℕ) → Contains names name → IsUndamaged name (folder_at h name)
undamaged_at h names all name there = all name (among_contained names name there)

sound_each : (l : Lines) (h : Holdings) (names xs : List (List ℕ)) → AllZip (IsText l h) names xs → AllZip (IsTextOf (text_for l h)) names xs
sound_each l h [] [] each = tt
sound_each l h [] (x ∷ xs) each = each
sound_each l h (n ∷ ns) [] each = each
sound_each l h (n ∷ ns) (x ∷ xs) each = (each.0.sound, sound_each l h ns xs each.1)

recorded_each : (l : Lines) (h : Holdings) (names xs : List (List ℕ)) → AllZip (IsText l h) names xs → AllZip (IsOfRecords (text_by l) h) names xs
recorded_each l h [] [] each = tt
recorded_each l h [] (x ∷ xs) each = each
recorded_each l h (n ∷ ns) [] each = each
recorded_each l h (n ∷ ns) (x ∷ xs) each = (each.0.recorded, recorded_each l h ns xs each.1)

by_records : (l : Lines) (h : Holdings) (names : List (List ℕ)) (a b : Option (List ℕ)) → ArePrinted l h names a b → PrintedByRecords (text_by l) h names a b
by_records l h names a b p = (p.texts, recorded_each l h names p.texts p.each, p.took)

printed_each : (l : Lines) (h : Holdings) (names : List (List ℕ)) (s : Status) (a b c d : Option (List ℕ)) → ArePrinted l h names a b → s ≡ Done → d ≡ c → PrintedEach (text_for l h) names s a b c d
printed_each l h names s a b c d p done quiet = (p.texts, sound_each l h names p.texts p.each, record { status = done; output = p.took; report = subst (λ x. Takes c x []) (sym quiet) (takes_nothing c) })

-- it was printed, for these keywords
list_noticed : (root : List ℕ) (keywords : List Keyword) (s : Status) (h : Holdings) (names : List (List ℕ)) (octets : List ℕ) (a b c d : Option (List ℕ)) → asked_in h octets ≡ Ok keywords → ArePrinted (lines.List keywords) h names a b → s ≡ Done → d ≡ c
    → Noticed (commands.List root) s h names octets a b c d
list_noticed root keywords s h names octets a b c d asked p done quiet = (
  λ name opens. undamaged_at h names p.undamaged name opens.1,
  subst (λ (r : Result (List Keyword) Cause). PrintedEachOf list_text h r names s a b c d) (sym asked) (printed_each (lines.List keywords) h names s a b c d p done quiet),
)

axes_noticed : (root : List ℕ) (keywords : List Keyword) (s : Status) (h : Holdings) (names : List (List ℕ)) (octets : List ℕ) (a b c d : Option (List ℕ)) → asked_in h octets ≡ Ok keywords → ArePrinted (lines.Axes keywords) h names a b → s ≡ Done → d ≡ c
    → Noticed (commands.Axes root) s h names octets a b c d
axes_noticed root keywords s h names octets a b c d asked p done quiet = (
  λ name opens. undamaged_at h names p.undamaged name opens.1,
  subst (λ (r : Result (List Keyword) Cause). PrintedEachOf axes_text h r names s a b c d) (sym asked) (printed_each (lines.Axes keywords) h names s a b c d p done quiet),
)

stats_noticed : (root : List ℕ) (s : Status) (h : Holdings) (names : List (List ℕ)) (octets : List ℕ) (a b c d : Option (List ℕ)) → ArePrinted lines.Stats h names a b → s ≡ Done → d ≡ c → Noticed (commands.Stats root) s h names octets a b c d
stats_noticed root s h names octets a b c d p done quiet = (λ name opens. undamaged_at h names p.undamaged name opens.1, printed_each lines.Stats h names s a b c d p done quiet)

-- ---- where the input and the store tell; the lines begin with a store that is as it was

module _ (before first now : Option Holdings) (sm sn : ℕ) (input output report : Object (List ℕ)) (result : Status) (same : first ≡ before) where
  -- all that a listing of these lines has printed
  abbrev PrintsWhole : Lines → Type 0
  PrintsWhole l = (result ≡ Done) ⊎ (result ≡ Missed) → PrintsAll l result first output report

  printed_at : (l : Lines) → PrintsAll l result first output report → (h : Holdings) (names : List (List ℕ)) → before ≡ Some h → AreNames h names → ArePrinted l h names output.before output.now
  printed_at l p h names e an = store_at first (λ h. (names : List (List ℕ)) → AreNames h names → ArePrinted l h names output.before output.now) p.each h (same ∙ e) names an

  notices_by : (command : Command) → IsListing command
      → ((result ≡ Done) ⊎ (result ≡ Missed) → (octets : List ℕ) (h : Holdings) (names : List (List ℕ)) → Seen command input.before octets → before ≡ Some h → AreNames h names → Noticed command result h names octets output.before output.now report.before report.now)
      → Notices command result (object before now sm sn) input output report
  notices_by command is says = λ whole. where_seen (λ octets h i. (names : List (List ℕ)) → AreNames h names → Noticed command result h names octets output.before output.now report.before report.now) input.before before now command (uses command is)
      (λ octets h i d e f names an. says whole octets h names d e an)

  pub list_notices : (root : List ℕ) (keywords : List Keyword) → IfSome before (λ h. IfSome input.before (λ octets. asked_in h octets ≡ Ok keywords)) → PrintsWhole (lines.List keywords)
      → Notices (commands.List root) result (object before now sm sn) input output report
  list_notices root keywords asked prints = notices_by (commands.List root) tt
      (λ whole octets h names d e an.
      let p = prints whole in
      list_noticed root keywords result h names octets output.before output.now report.before report.now (both_at before input.before (λ octets h. asked_in h octets ≡ Ok keywords) asked octets h d e) (printed_at (lines.List keywords) p h names e an) p.done p.quiet)

  pub axes_notices : (root : List ℕ) (keywords : List Keyword) → IfSome before (λ h. IfSome input.before (λ octets. asked_in h octets ≡ Ok keywords)) → PrintsWhole (lines.Axes keywords)
      → Notices (commands.Axes root) result (object before now sm sn) input output report
  axes_notices root keywords asked prints = notices_by (commands.Axes root) tt
      (λ whole octets h names d e an.
      let p = prints whole in
      axes_noticed root keywords result h names octets output.before output.now report.before report.now (both_at before input.before (λ octets h. asked_in h octets ≡ Ok keywords) asked octets h d e) (printed_at (lines.Axes keywords) p h names e an) p.done p.quiet)

  pub stats_notices : (root : List ℕ) → PrintsWhole lines.Stats → Notices (commands.Stats root) result (object before now sm sn) input output report
  stats_notices root prints = notices_by (commands.Stats root) tt
      (λ whole octets h names d e an. let p = prints whole in stats_noticed root result h names octets output.before output.now report.before report.now (printed_at lines.Stats p h names e an) p.done p.quiet)

  -- ---- by the records of indexes

  -- of what the input and the store tell
  told_both : (P : List ℕ → Holdings → Type 0) → ((octets : List ℕ) (h : Holdings) → input.before ≡ Some octets → before ≡ Some h → P octets h) → IfSome input.before (λ octets. IfSome before (λ h. P octets h))
  told_both P all = of_input input.before refl
    where
      of_store : (octets : List ℕ) (s : Option Holdings) → input.before ≡ Some octets → before ≡ s → IfSome s (λ h. P octets h)
      of_store octets None d e = tt
      of_store octets (Some h) d e = all octets h d e

      of_input : (o : Option (List ℕ)) → input.before ≡ o → IfSome o (λ octets. IfSome before (λ h. P octets h))
      of_input None d = tt
      of_input (Some octets) d = of_store octets before d refl

  same_keywords : (octets : List ℕ) (h : Holdings) (ks other : List Keyword) → asked_in h octets ≡ Ok ks → asked_in h octets ≡ Ok other → ks ≡ other
  same_keywords octets h ks other e f = cc (e, f)

  pub list_records : (keywords : List Keyword) → IfSome before (λ h. IfSome input.before (λ octets. asked_in h octets ≡ Ok keywords)) → PrintsWhole (lines.List keywords) → ListsRecords list_text result input.before before output
  list_records keywords asked prints = λ done. told_both (λ octets h. (names : List (List ℕ)) (ks : List Keyword) → AreNames h names → asked_in h octets ≡ Ok ks → PrintedByRecords (λ h name t. Some (list_text ks name t)) h names output.before output.now)
      (λ octets h d e names ks an is.
      let p = prints (inl done) in
      let same = same_keywords octets h keywords ks (both_at before input.before (λ octets h. asked_in h octets ≡ Ok keywords) asked octets h d e) is in
      subst (λ k. PrintedByRecords (λ h name t. Some (list_text k name t)) h names output.before output.now) same (by_records (lines.List keywords) h names output.before output.now (printed_at (lines.List keywords) p h names e an)))

  pub axes_records : (keywords : List Keyword) → IfSome before (λ h. IfSome input.before (λ octets. asked_in h octets ≡ Ok keywords)) → PrintsWhole (lines.Axes keywords) → ListsRecords axes_text result input.before before output
  axes_records keywords asked prints = λ done. told_both (λ octets h. (names : List (List ℕ)) (ks : List Keyword) → AreNames h names → asked_in h octets ≡ Ok ks → PrintedByRecords (λ h name t. Some (axes_text ks name t)) h names output.before output.now)
      (λ octets h d e names ks an is.
      let p = prints (inl done) in
      let same = same_keywords octets h keywords ks (both_at before input.before (λ octets h. asked_in h octets ≡ Ok keywords) asked octets h d e) is in
      subst (λ k. PrintedByRecords (λ h name t. Some (axes_text k name t)) h names output.before output.now) same (by_records (lines.Axes keywords) h names output.before output.now (printed_at (lines.Axes keywords) p h names e an)))

  pub stats_records : PrintsWhole lines.Stats → CountsRecords result before output
  stats_records prints = λ done. go before refl (prints (inl done))
    where
      go : (s : Option Holdings) → before ≡ s → PrintsAll lines.Stats result first output report
          → IfSome s (λ h. (names : List (List ℕ)) → AreNames h names → PrintedByRecords (text_by lines.Stats) h names output.before output.now)
      go None e p = tt
      go (Some h) e p = λ names an. by_records lines.Stats h names output.before output.now (printed_at lines.Stats p h names e an)
