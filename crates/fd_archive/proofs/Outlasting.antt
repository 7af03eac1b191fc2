-- What outlasts a crash, at each exit of `archive`.
use Rattle.std.proofs.Common.{◌≡◌, ◌∙◌, ℕ, false, true≢false, List, ◌++◌, Option, Some, None, refl, sym, ap, subst, inl, inr, string_bytes}
use Rattle.std.specs.Prelude.{◌⊎◌, IfSome, is_some, Result, Ok, Err, codes}
use Rattle.fd_io.specs.Streams.{Takes}
use Rattle.fd_disk.specs.Folders.{Holdings, WhereTold}
use Rattle.fd_listing.specs.Lines.{line}
use Rattle.fd_key.specs.Pairs as keys
use Rattle.fd_schema.specs.Rules.{Rule}
use Rattle.fd_split.specs.declared.refusal.Refusal.{Refusal}
use Rattle.fd_split.specs.declared.refusal.Refusal.TheVariants as refusals
use Rattle.fd_stored.specs.declared.status.Status.{Status}
use Rattle.fd_stored.specs.declared.status.Status.TheVariants.{Done, InputFault, DiskFault, NoMemory, Damaged, Limit, OutputFault}
use Rattle.fd_stored.specs.declared.status.Status.TheVariants as statuses
use Rattle.fd_stored.specs.Archiving.{Stored, pairs_for, taken}
use Rattle.fd_schema.specs.Grammar as schemas
use Rattle.fd_schema.specs.Reading.{IsFirst}
use Rattle.fd_schema.specs.declared.fault.SchemaKind.{SchemaKind}
use Rattle.fd_outcome.specs.Asking.{rules_of, stored_rules}
use Rattle.fd_stored.specs.Causes as causes
use Rattle.fd_stored.specs.Causes.{Cause, damaged_line, table_full, telling}
use Rattle.fd_outcome.specs.Ends.{disk_failed, input_failed, no_memory}
use Rattle.fd_outcome.specs.Objects.{object}
use Rattle.fd_words.specs.declared.command.Command.{Command}
use Rattle.fd_words.specs.declared.command.Command.TheVariants as commands
use Rattle.fd_stored.specs.Refusals.{refusal_line, refusal_status}
use Rattle.fd_stored.specs.Store.{Grows, GrowsBy}
use Rattle.fd_outcome.specs.Told.{Told, ToldOrNoMemory}
use Rattle.fd_bulk.specs.declared.bulk.Bulk.{Bulk}
use Rattle.fd_bulk.specs.declared.bulk.BulkFault.{BulkFault}
use Rattle.fd_bulk.specs.declared.bulk.BulkFault.TheVariants as faults
use Rattle.fd_bulk.specs.Archived.{HasRead, IsCause, IsFront, IsWholeTaken}
use Rattle.fd_archive.specs.Crashing.{GrowsFirmly, IsFirm, Outlasts, OutlastsBy, OutlastsCrash, OutlastsTrial}
use Rattle.fd_archive.specs.Kept.{InputKept, RefusedKept, StoppedKept, UnreadKept, WholeKept}
use Rattle.fd_archive.specs.Telling.{ToldFault, ToldRefusal}
use Rattle.fd_outcome.specs.Trying.{trial_rules}
use Rattle.fd_outcome.proofs.Exits.{apart, is_whole}
use Rattle.fd_outcome.proofs.Leaving.{grows_none}
use Rattle.fd_archive.proofs.Growing.{firm_front, firm_same, grows_front, grows_of}

module _ (given : List keys.Pair) (workers : ℕ) (start now : Option Holdings) (before left : Option (List ℕ)) (result : Status) (c d : Option (List ℕ)) (m n : ℕ) where
  abbrev full : Type 0
  full = Takes c d table_full

  abbrev ToldAs : Status → List ℕ → Type 0
  ToldAs s text = Told s text result c d m n

  abbrev Keeps : Type 0
  Keeps = IfSome before (λ octets. WhereTold start now (λ h i. OutlastsBy result full workers (rules_of h.schema) given octets left h i))

  -- of the octets of the input, of what the store held and of what it holds
  abbrev Where : (List ℕ → Holdings → Holdings → Type 0) → Type 0
  Where P = (octets : List ℕ) (h i : Holdings) → before ≡ Some octets → start ≡ Some h → now ≡ Some i → P octets h i

  at_some : {A : Type 0} (o : Option A) (P : A → Type 0) → IfSome o P → (x : A) → o ≡ Some x → P x
  at_some o P p x e = subst (λ q. IfSome q P) e p

  at_both : (P : Holdings → Holdings → Type 0) → WhereTold start now P → (h i : Holdings) → start ≡ Some h → now ≡ Some i → P h i
  at_both P w h i e f = subst (λ q. WhereTold (Some h) q P) f (subst (λ s. WhereTold s now P) e w)

  module _ (rules : List Rule) (ruled : IfSome start (λ h. rules_of h.schema ≡ Ok rules)) (told_both : is_some now ≡ is_some start) where
    keeps_by : Where (λ octets h i. Outlasts result full workers rules given octets left h i × GrowsFirmly workers (pairs_for (taken rules given octets).stored) h i) → Keeps
    keeps_by all = go before start now refl refl refl told_both ruled
      where
        go : (o : Option (List ℕ)) (s q : Option Holdings) → before ≡ o → start ≡ s → now ≡ q → is_some q ≡ is_some s → IfSome s (λ h. rules_of h.schema ≡ Ok rules) → IfSome o (λ octets. WhereTold s q (λ h i. OutlastsBy result full workers (rules_of h.schema) given octets left h i))
        go None s q e f g t r = tt
        go (Some octets) None None e f g t r = tt
        go (Some octets) None (Some i) e f g t r = absurd (true≢false t)
        go (Some octets) (Some h) None e f g t r = absurd (true≢false (sym t))
        go (Some octets) (Some h) (Some i) e f g t r = subst (λ x. OutlastsBy result full workers x given octets left h i) (sym r) (all octets h i e f g)

    abbrev Grown : Type 0
    Grown = Where (λ octets h i. Grows workers (pairs_for (taken rules given octets).stored) h i)

    abbrev Firmly : Type 0
    Firmly = Where (λ octets h i. GrowsFirmly workers (pairs_for (taken rules given octets).stored) h i)

    -- a status with its line, or a line that couldn't be told
    keeps_told : (s : Status) (text : List ℕ) → ToldAs s text → (Takes c d text → Where (λ octets h i. Outlasts s full workers rules given octets left h i)) → Grown → Firmly → Keeps
    keeps_told s text told at grown firmly = keeps_by (λ octets h i x y z. (
      elim told.told as (λ _. Outlasts result full workers rules given octets left h i) [
        | inl w ↦ subst (λ q. Outlasts q full workers rules given octets left h i) (sym w.status) (at w.took octets h i x y z)
        | inr w ↦ subst (λ q. Outlasts q full workers rules given octets left h i) (sym w.status) (grown octets h i x y z)
      ],
      firmly octets h i x y z,
    ))

    starved : ToldAs NoMemory no_memory → Grown → Firmly → Keeps
    starved told grown firmly = keeps_told NoMemory no_memory told (λ _. grown) grown firmly

    keeps_or : (s : Status) (text : List ℕ) → ToldOrNoMemory s text result c d m n → Where (λ octets h i. Outlasts s full workers rules given octets left h i) → Grown → Firmly → Keeps
    keeps_or s text told at grown firmly = elim told as (λ _. Keeps) [ inl t ↦ keeps_told s text t (λ _. at) grown firmly | inr t ↦ starved t grown firmly ]

    front_grows : (all : List Stored) → WhereTold start now (Grows workers (pairs_for all)) → IfSome before (λ octets. IsFront all (taken rules given octets)) → Grown
    front_grows all grows front octets h i x y z =
        let f = at_some before (λ o. IsFront all (taken rules given o)) front octets x in
        subst (λ ss. Grows workers (pairs_for ss) h i) (sym f.1) (grows_front workers all f.0 h i (at_both (Grows workers (pairs_for all)) grows h i y z))

    front_firmly : (all : List Stored) → WhereTold start now (GrowsFirmly workers (pairs_for all)) → IfSome before (λ octets. IsFront all (taken rules given octets)) → Firmly
    front_firmly all firmly front octets h i x y z =
        let f = at_some before (λ o. IsFront all (taken rules given o)) front octets x in
        subst (λ ss. GrowsFirmly workers (pairs_for ss) h i) (sym f.1) (firm_front workers all f.0 h i (at_both (GrowsFirmly workers (pairs_for all)) firmly h i y z))

    -- ---- all is told to be stored

    pub whole_keeps : (bulk : Bulk) (text : List ℕ) → WholeKept workers rules given before left start now bulk → ToldOrNoMemory Done text result c d m n → Keeps
    whole_keeps bulk text w told = keeps_or Done text told
        (λ octets h i x y z. subst (λ ss. IsFirm workers ss h i) (sym (stored octets x)) (at_both (IsFirm workers w.all) w.firm h i y z))
        (λ octets h i x y z. subst (λ ss. Grows workers (pairs_for ss) h i) (sym (stored octets x)) (grows_of workers w.all h i (at_both (GrowsBy workers (pairs_for w.all)) w.grows h i y z)))
        (λ octets h i x y z. subst (λ ss. GrowsFirmly workers (pairs_for ss) h i) (sym (stored octets x)) (at_both (GrowsFirmly workers (pairs_for w.all)) w.firmly h i y z))
      where
        stored : (octets : List ℕ) → before ≡ Some octets → (taken rules given octets).stored ≡ w.all
        stored octets x = (at_some before (λ o. IsWholeTaken w.all bulk.junk (taken rules given o)) w.taken_is octets x).stored

    -- ---- what stands before a refusal or a failed read

    -- what holds at 3 and at 9 holds at the status of a refusal
    by_refusal : (P : Status → Type 0) → P statuses.Refused → P Limit → (refusal : Refusal) → P (refusal_status refusal)
    by_refusal P refused limit (refusals.Message at) = refused
    by_refusal P refused limit (refusals.NoMap number field) = refused
    by_refusal P refused limit (refusals.Cut t) = refused
    by_refusal P refused limit (refusals.Key number fault) = refused
    by_refusal P refused limit (refusals.Field number fault) = refused
    by_refusal P refused limit (refusals.TooLong len) = limit
    by_refusal P refused limit (refusals.Points points) = limit
    by_refusal P refused limit refusals.Input = limit

    unread_keeps : UnreadKept workers rules given before left start now → ToldAs InputFault input_failed → Keeps
    unread_keeps u told = keeps_told InputFault input_failed told
        (λ _ octets h i x y z. let r = read octets x in record {
          seen = r.seen;
          rest = r.rest;
          input_is = r.octets_are;
          left_is = r.left_is;
          firm = subst (λ ss. IsFirm workers ss h i) (sym r.whole) (at_both (IsFirm workers u.all) u.firm h i y z);
        })
        (λ octets h i x y z. let r = read octets x in subst (λ ss. Grows workers (pairs_for ss) h i) (sym r.front.1) (grows_front workers u.all r.front.0 h i (grows_of workers u.all h i (at_both (GrowsBy workers (pairs_for u.all)) u.grows h i y z))))
        (λ octets h i x y z. let r = read octets x in subst (λ ss. GrowsFirmly workers (pairs_for ss) h i) (sym r.front.1) (firm_front workers u.all r.front.0 h i (at_both (GrowsFirmly workers (pairs_for u.all)) u.firmly h i y z)))
      where
        read : (octets : List ℕ) → before ≡ Some octets → HasRead rules given octets left u.all
        read octets x = at_some before (λ o. HasRead rules given o left u.all) u.read octets x

    module _ {X : Type 0} where
      abbrev RefusedOf : BulkFault X → Type 0
      RefusedOf fault = RefusedKept workers rules given before left start now fault

      stored_of : (fault : BulkFault X) (w : RefusedOf fault) (octets : List ℕ) → before ≡ Some octets → (taken rules given octets).stored ≡ w.all
      stored_of fault w octets x = (at_some before (λ o. ((taken rules given o).stored ≡ w.all) × ((q : Cause) × ((taken rules given o).refusal ≡ Some q) × IsCause fault q)) w.refused octets x).0

      firm_of : (fault : BulkFault X) → RefusedOf fault → Where (λ octets h i. IsFirm workers (taken rules given octets).stored h i)
      firm_of fault w octets h i x y z = subst (λ ss. IsFirm workers ss h i) (sym (stored_of fault w octets x)) (at_both (IsFirm workers w.all) w.firm h i y z)

      grown_of : (fault : BulkFault X) → RefusedOf fault → Grown
      grown_of fault w octets h i x y z = subst (λ ss. Grows workers (pairs_for ss) h i) (sym (stored_of fault w octets x)) (grows_of workers w.all h i (at_both (GrowsBy workers (pairs_for w.all)) w.grows h i y z))

      firmly_of : (fault : BulkFault X) → RefusedOf fault → Firmly
      firmly_of fault w octets h i x y z = subst (λ ss. GrowsFirmly workers (pairs_for ss) h i) (sym (stored_of fault w octets x)) (at_both (GrowsFirmly workers (pairs_for w.all)) w.firmly h i y z)

      refusal_keeps : (fault : BulkFault X) (refusal : Refusal) → RefusedOf fault → ToldRefusal refusal result c d m n → Keeps
      refusal_keeps fault refusal w told = keeps_or (refusal_status refusal) (refusal_line refusal) told
          (λ octets h i x y z. let f = firm_of fault w octets h i x y z in by_refusal (λ s. Outlasts s full workers rules given octets left h i) f (inl f) refusal) (grown_of fault w) (firmly_of fault w)

      stopped_grows : (fault : BulkFault X) → StoppedKept workers rules given before left start now fault → Grown
      stopped_grows fault w = front_grows w.all w.grows w.front

      stopped_firmly : (fault : BulkFault X) → StoppedKept workers rules given before left start now fault → Firmly
      stopped_firmly fault w = front_firmly w.all w.firmly w.front

      pub halted_keeps : (fault : BulkFault X) → InputKept workers rules given before left start now (Err fault) → ToldFault fault result c d m n → Keeps
      halted_keeps (faults.Input f) w told = unread_keeps w told
      halted_keeps (faults.Message at) w told = refusal_keeps (faults.Message at) told.0 w told.2
      halted_keeps (faults.NoMap number field) w told = refusal_keeps (faults.NoMap number field) (refusals.NoMap number field) w told
      halted_keeps (faults.Cut t) w told = refusal_keeps (faults.Cut t) (refusals.Cut t) w told
      halted_keeps (faults.Key number fault) w told = refusal_keeps (faults.Key number fault) (refusals.Key number fault) w told
      halted_keeps (faults.NoRule number text) w told = keeps_or statuses.Refused (line (codes "refused NoRule " ++ string_bytes text)) told (firm_of (faults.NoRule number text) w) (grown_of (faults.NoRule number text) w) (firmly_of (faults.NoRule number text) w)
      halted_keeps faults.Disk w told = keeps_told DiskFault disk_failed told (λ _. stopped_grows faults.Disk w) (stopped_grows faults.Disk w) (stopped_firmly faults.Disk w)
      halted_keeps (faults.NotATable dataset at want found) w told =
          let g = stopped_grows (faults.NotATable dataset at want found) w in
          keeps_or Damaged (damaged_line (string_bytes dataset) (causes.BadTable (record { at = at; want = want; found = found }))) told g g (stopped_firmly (faults.NotATable dataset at want found) w)
      halted_keeps (faults.Damaged dataset damage) w told = let g = stopped_grows (faults.Damaged dataset damage) w in keeps_or Damaged (damaged_line (string_bytes dataset) (causes.BadFile damage)) told g g (stopped_firmly (faults.Damaged dataset damage) w)
      halted_keeps (faults.TableFull count) w told =
          let g = stopped_grows (faults.TableFull count) w in
          keeps_told Limit table_full told (λ took octets h i x y z. inr (took, g octets h i x y z)) g (stopped_firmly (faults.TableFull count) w)
      halted_keeps (faults.TooMany count) w told = keeps_told (telling causes.TooManyDatasets).status (telling causes.TooManyDatasets).line told (λ _ octets h i x y z. inl (firm_of (faults.TooMany count) w octets h i x y z)) (grown_of (faults.TooMany count) w) (firmly_of (faults.TooMany count) w)
      halted_keeps faults.InputLimit w told = refusal_keeps faults.InputLimit refusals.Input w (inl told)
      halted_keeps faults.NoMemory w told = starved told (stopped_grows faults.NoMemory w) (stopped_firmly faults.NoMemory w)

-- ---- where the store has no rules, or none could be read

pub missing_rules : (has : Option Holdings) → IfSome has (λ h. h.schema ≡ None) → IfSome has (λ h. (q : Cause) × (rules_of h.schema ≡ Err q))
missing_rules None e = tt
missing_rules (Some h) e = (causes.SchemaMissing, ap rules_of e)

pub wrong_rules : (has : Option Holdings) (line : ℕ) (kind : SchemaKind) → IfSome has (λ h. (text : List ℕ) × (fault : schemas.Fault) × (h.schema ≡ Some text) × IsFirst text line kind fault) → IfSome has (λ h. (q : Cause) × (rules_of h.schema ≡ Err q))
wrong_rules None line kind e = tt
wrong_rules (Some h) line kind x = (causes.InStored x.0 x.1, ap rules_of x.2 ∙ ap (stored_rules x.0) x.3.place)

module _ (given : List keys.Pair) (workers : ℕ) (has : Option Holdings) (before left : Option (List ℕ)) (result : Status) (full : Type 0) where
  -- the store is as it was
  pub unruled_keeps : IfSome has (λ h. (q : Cause) × (rules_of h.schema ≡ Err q)) → IfSome before (λ octets. WhereTold has has (λ h i. OutlastsBy result full workers (rules_of h.schema) given octets left h i))
  unruled_keeps none = go before has none
    where
      go : (o : Option (List ℕ)) (s : Option Holdings) → IfSome s (λ h. (q : Cause) × (rules_of h.schema ≡ Err q)) → IfSome o (λ octets. WhereTold s s (λ h i. OutlastsBy result full workers (rules_of h.schema) given octets left h i))
      go None s e = tt
      go (Some octets) None e = tt
      go (Some octets) (Some h) e = subst (λ x. OutlastsBy result full workers x given octets left h h) (sym e.1) refl

  idle_by : (octets : List ℕ) (h : Holdings) (s : Status) → (s ≡ NoMemory) ⊎ ((s ≡ DiskFault) ⊎ (s ≡ OutputFault)) → (r : Result (List Rule) Cause) → OutlastsBy s full workers r given octets left h h
  idle_by octets h s is (Err q) = refl
  idle_by octets h s (inl is) (Ok rules) = (subst (λ x. Outlasts x full workers rules given octets left h h) (sym is) (grows_none workers (pairs_for (taken rules given octets).stored) h), firm_same workers (pairs_for (taken rules given octets).stored) h)
  idle_by octets h s (inr (inl is)) (Ok rules) = (subst (λ x. Outlasts x full workers rules given octets left h h) (sym is) (grows_none workers (pairs_for (taken rules given octets).stored) h), firm_same workers (pairs_for (taken rules given octets).stored) h)
  idle_by octets h s (inr (inr is)) (Ok rules) = (subst (λ x. Outlasts x full workers rules given octets left h h) (sym is) (grows_none workers (pairs_for (taken rules given octets).stored) h), firm_same workers (pairs_for (taken rules given octets).stored) h)

  -- the store is as it was, and a fault is told
  pub idle_keeps : (s : Status) (text : List ℕ) (c d : Option (List ℕ)) (m n : ℕ) → (s ≡ NoMemory) ⊎ (s ≡ DiskFault) → Told s text result c d m n → IfSome before (λ octets. WhereTold has has (λ h i. OutlastsBy result full workers (rules_of h.schema) given octets left h i))
  idle_keeps s text c d m n idle told = go before has
    where
      is : (result ≡ NoMemory) ⊎ ((result ≡ DiskFault) ⊎ (result ≡ OutputFault))
      is = elim told.told as (λ _. (result ≡ NoMemory) ⊎ ((result ≡ DiskFault) ⊎ (result ≡ OutputFault))) [
        | inl w ↦ elim idle as (λ _. (result ≡ NoMemory) ⊎ ((result ≡ DiskFault) ⊎ (result ≡ OutputFault))) [ inl e ↦ inl (w.status ∙ e) | inr e ↦ inr (inl (w.status ∙ e)) ]
        | inr w ↦ inr (inr w.status)
      ]

      go : (o : Option (List ℕ)) (s : Option Holdings) → IfSome o (λ octets. WhereTold s s (λ h i. OutlastsBy result full workers (rules_of h.schema) given octets left h i))
      go None s = tt
      go (Some octets) None = tt
      go (Some octets) (Some h) = idle_by octets h result is (rules_of h.schema)

-- a line that isn't that of 0 was told, or couldn't be
pub told_undone : (s : Status) (text : List ℕ) (result : Status) (c d : Option (List ℕ)) (m n : ℕ) → is_whole s ≡ false → Told s text result c d m n → result ≡ Done → ⊥
told_undone s text result c d m n other told e = elim told.told as (λ _. ⊥) [ inl w ↦ apart is_whole s Done other refl (sym w.status ∙ e) | inr w ↦ apart is_whole OutputFault Done refl refl (sym w.status ∙ e) ]

-- a trial that left its store as it was
pub idle_trial : (result : Status) (workers count : ℕ) (has : Option Holdings) → (result ≡ Done → ⊥) → WhereTold has has (λ h i. OutlastsTrial result workers count (trial_rules h.schema) h i)
idle_trial result workers count None undone = tt
idle_trial result workers count (Some h) undone = go (trial_rules h.schema)
  where
    go : (r : Result (List Rule) Cause) → OutlastsTrial result workers count r h h
    go (Ok rules) = ((λ e. absurd (undone e)), firm_same workers _ h)
    go (Err cause) = refl

-- memory ran out before anything was stored
pub starved_outlasts : (result : Status) (has : Option Holdings) (sm sn : ℕ) (left : Option (List ℕ)) (im io : ℕ) (c d : Option (List ℕ)) (m n : ℕ) → Told NoMemory no_memory result c d m n → (o : Option Command) → IfSome o (λ command. OutlastsCrash command result (object has has sm sn) (object left left im io) (object c d m n))
starved_outlasts result has sm sn left im io c d m n told None = tt
starved_outlasts result has sm sn left im io c d m n told (Some (commands.Pick wanted)) = tt
starved_outlasts result has sm sn left im io c d m n told (Some commands.Describe) = tt
starved_outlasts result has sm sn left im io c d m n told (Some commands.Split) = tt
starved_outlasts result has sm sn left im io c d m n told (Some (commands.Values decimals)) = tt
starved_outlasts result has sm sn left im io c d m n told (Some (commands.Generate count)) = tt
starved_outlasts result has sm sn left im io c d m n told (Some (commands.Create root)) = tt
starved_outlasts result has sm sn left im io c d m n told (Some (commands.Archive root given workers)) = idle_keeps given workers has left left result (Takes c d table_full) NoMemory no_memory c d m n (inl refl) told
starved_outlasts result has sm sn left im io c d m n told (Some (commands.Retrieve root workers)) = tt
starved_outlasts result has sm sn left im io c d m n told (Some (commands.RetrieveOver root layers workers)) = tt
starved_outlasts result has sm sn left im io c d m n told (Some (commands.List root)) = tt
starved_outlasts result has sm sn left im io c d m n told (Some (commands.Axes root)) = tt
starved_outlasts result has sm sn left im io c d m n told (Some (commands.Stats root)) = tt
starved_outlasts result has sm sn left im io c d m n told (Some (commands.Cubes root)) = tt
starved_outlasts result has sm sn left im io c d m n told (Some (commands.Session root)) = tt
starved_outlasts result has sm sn left im io c d m n told (Some (commands.Purge root dataset)) = tt
starved_outlasts result has sm sn left im io c d m n told (Some (commands.Wipe root dataset)) = tt
starved_outlasts result has sm sn left im io c d m n told (Some (commands.Trial root count workers)) = idle_trial result workers count has (told_undone NoMemory no_memory result c d m n refl told)
