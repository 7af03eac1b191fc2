-- All is given back: what the store holds then.
use Rattle.std.proofs.Common.{◌≡◌, ◌∙◌, inl, inr, ℕ, ◌+◌, ◌||◌, Bool, true, false, List, [], ◌∷◌, ◌++◌, All, Contains, length, Option, Some, None, IfSome, IsSome, is_some, unwrap_or, refl, sym, ap, subst, arith, length-append, if◌then◌else◌}
use Rattle.std.specs.Prelude.{◌⊎◌, Result, Ok, Err}
use Rattle.std.specs.Str.{bytes_eq}
use Rattle.std.proofs.lemmas.List.Elements.{All-contains, All-head, All-tail, All-weaker}
use Rattle.std.proofs.lemmas.Slice.Eq.{bytes_eq-Decides}
use Rattle.fd_disk.specs.Folders.{Contents, Holdings, WhereTold, folder_at, no_contents}
use Rattle.fd_disk.proofs.NameLemmas.{is_or_not}
use Rattle.fd_entries.specs.declared.batch.Listing.{Listing}
use Rattle.fd_entries.specs.declared.batch.Pair as batches
use Rattle.fd_entries.specs.declared.table.Entry.{Entry}
use Rattle.fd_recovery.specs.Recovered.{IsUndamaged, held}
use Rattle.fd_library.specs.Open.{OpenDataset, Seated, among, names_of}
use Rattle.fd_library.specs.Stores.{GivenBack, GivesBack, HasSeenAll, IsGivenBack, IsSettled, KeepsFolder, held_in, held_of, held_with}
use Rattle.fd_key.specs.Pairs.{Pair}
use Rattle.fd_schema.specs.Rules.{Rule}
use Rattle.fd_stored.specs.Archiving.{Stored, pairs_for, taken}
use Rattle.fd_stored.specs.Store.{Adds, AddsAll, Grows, GrowsBy, IsFull, entries_in, if_listed}
use Rattle.fd_outcome.proofs.Leaving.{grows_none}
use Rattle.fd_bulk.specs.Adding.{IsHeldBy}
use Rattle.fd_bulk.specs.Archived as bulks
use Rattle.fd_bulk.specs.Archived.{Archived, GrowsAll, IsBack, IsFront, IsSure, RefusedArchived, StoppedArchived}
use Rattle.fd_bulk.specs.declared.bulk.Bulk.{Bulk}
use Rattle.fd_bulk.specs.declared.bulk.BulkFault.{BulkFault}
use Rattle.fd_bulk.specs.declared.bulk.BulkFault.TheVariants as faults
use Rattle.fd_archive.specs.Crashing.{GrowsFirmly, IsAfterCrash, IsFirm, IsUntouched}
use Rattle.fd_archive.specs.Kept.{InputKept, IsStop, NoneDamaged, RefusedKept, StoppedKept}
use Rattle.fd_archive.proofs.Crashed.{files_after, tables_after}
use Rattle.fd_archive.proofs.Doubting.{CanDoubt, back_grown, crash_grown}
use Rattle.fd_archive.proofs.Firm.{firm, firm_among, some_pair}
use Rattle.fd_archive.proofs.Growing.{firm_same}
use Rattle.fd_archive.proofs.Tables.{few_listed}
use Rattle.fd_archive.proofs.Untouched.{firm_kept}
use Rattle.fd_archive.proofs.Told.{both_told, held_inside, through}

-- a table that was full is full
full_back : (name : List ℕ) (o : Option Contents) (p : Option Seated) (v : Contents) → GivenBack name o p v → IfSome p (λ q. q.view.opening + q.view.amount ≡ length q.view.history) → IfSome p (λ q. length q.view.history ≡ 65535)
    → (es : List Entry) × (entries_in name v.table ≡ Some es) × (length es ≡ 65535)
full_back name None p v back seen full = absurd back
full_back name (Some c) None v back seen full = absurd back
full_back name (Some c) (Some p) v back seen full = elim (back.images back.table.reads back.reads) as (λ _. (es : List Entry) × (entries_in name v.table ≡ Some es) × (length es ≡ 65535)) [
  | inl lists ↦ (back.entries, ap (entries_in name) back.table_is ∙ ap if_listed lists, back.count ∙ seen ∙ full)
  | inr d ↦
      absurd (
      let few = few_listed name back.table.reads (back.entries ++ d.0.entry ∷ []) d.2 in
      let long = length-append back.entries (d.0.entry ∷ []) in
      let count = back.count in
      omega (arith, few, long, count, seen, full)
      )
]

-- ---- all datasets

module _ {D : Type 0} (has : D → Option Contents) where
  pub seated : (workers : ℕ) (all : List Stored) (each : List (OpenDataset D)) → All (IsBack has workers all) each → All (λ (h : OpenDataset D). IsSome h.pass) each
  seated workers all each back = All-weaker (IsBack has workers all) (λ (h : OpenDataset D). IsSome h.pass) (λ h b. ap is_some b.pass_is) each back

  pub none_out : (workers : ℕ) (all : List Stored) (each : List (OpenDataset D)) → All (IsBack has workers all) each → All (λ (h : OpenDataset D). h.lent ≡ 0) each
  none_out workers all each back = All-weaker (IsBack has workers all) (λ (h : OpenDataset D). h.lent ≡ 0) (λ h b. b.none_out) each back

  abbrev IsBackSure : ℕ → List Stored → OpenDataset D → Type 0
  IsBackSure workers all h = IsBack has workers all h × IsSure has h

  settled : (workers : ℕ) (all : List Stored) (each : List (OpenDataset D)) → All (IsBackSure workers all) each → All IsSettled each
  settled workers all each back = All-weaker (IsBackSure workers all) IsSettled
      (λ h b. subst (λ (o : Option Seated). IfSome o HasSeenAll) (sym b.0.pass_is) (record {
        sure = subst (λ (o : Option Seated). IfSome o (λ p. p.view.doubts ≡ [])) b.0.pass_is b.1;
        all = b.0.seen;
      }))
      each back

  back_only : (workers : ℕ) (all : List Stored) (each : List (OpenDataset D)) → All (IsBackSure workers all) each → All (IsBack has workers all) each
  back_only workers all each back = All-weaker (IsBackSure workers all) (IsBack has workers all) (λ h b. b.0) each back

  -- ---- a dataset that holds batches of its pairs, and may have a listing in doubt

  abbrev OpensAs : Holdings → OpenDataset D → Type 0
  OpensAs s h = (b : List (List batches.Pair)) → held_of s h.name ≡ Some b → IfSome h.pass (λ p. length b ≡ p.view.opening)

  module _ (workers : ℕ) (all : List Stored) (s t u : Holdings) (b : List (List batches.Pair)) where
    can_doubt : (h : OpenDataset D) → IsBack has workers all h → IfSome h.pass (λ p. length b ≡ p.view.opening) → IfSome (has h.folder) (λ files. IfSome h.pass (CanDoubt workers (pairs_for all h.name) b files.files))
    can_doubt h back opening = go (has h.folder) refl
      where
        go : (o : Option Contents) → has h.folder ≡ o → IfSome o (λ files. IfSome h.pass (CanDoubt workers (pairs_for all h.name) b files.files))
        go None is = tt
        go (Some files) is = subst (λ (q : Option Seated). IfSome q (CanDoubt workers (pairs_for all h.name) b files.files)) (sym back.pass_is) (record {
          seen = back.seen;
          opening = subst (λ (q : Option Seated). IfSome q (λ p. length b ≡ p.view.opening)) back.pass_is opening;
          doubts = back.doubts;
          files_are = All-weaker (λ l. IfSome (has h.folder) (λ w. IsHeldBy w.files l)) (IsHeldBy files.files) (λ l d. subst (λ (q : Option Contents). IfSome q (λ w. IsHeldBy w.files l)) is d) back.pass.view.doubts back.files;
          few = back.few;
        })

    among_grown : (name : List ℕ) → held_of s name ≡ Some b → (hs : List (OpenDataset D)) → All (IsBack has workers all) hs → All (OpensAs s) hs → All (λ (h : OpenDataset D). IsGivenBack has h (folder_at u h.name)) hs → (among name (names_of hs) ≡ false → u.folders name ≡ t.folders name)
        → Adds workers (pairs_for all name) b (held_with has hs t name) → Adds workers (pairs_for all name) b (held_of u name)
    among_grown name is [] back openings given others adds = subst (Adds workers (pairs_for all name) b) (sym (ap (λ (o : Option Contents). held name (unwrap_or o no_contents)) (others refl))) adds
    among_grown name is (h ∷ hs) back openings given others adds = elim (is_or_not (bytes_eq name h.name)) as (λ _. Adds workers (pairs_for all name) b (held_of u name)) [
      | inl same ↦
          let one : name ≡ h.name = (bytes_eq-Decides name h.name).0 same in
          let here : Adds workers (pairs_for all name) b (held_in has h) = subst (Adds workers (pairs_for all name) b) (held_inside has h hs t name same) adds in
          let opening = All-head (OpensAs s) h hs openings b (ap (held_of s) (sym one) ∙ is) in
          subst (λ (m : List ℕ). Adds workers (pairs_for all m) b (held_of u m)) (sym one)
          (back_grown workers h.name (pairs_for all h.name) b (has h.folder) h.pass (folder_at u h.name) (All-head (λ (g : OpenDataset D). IsGivenBack has g (folder_at u g.name)) h hs given)
          (can_doubt h (All-head (IsBack has workers all) h hs back) opening) (subst (λ (m : List ℕ). Adds workers (pairs_for all m) b (held_in has h)) one here))
      | inr differs ↦
          among_grown name is hs (All-tail (IsBack has workers all) h hs back) (All-tail (OpensAs s) h hs openings) (All-tail (λ (g : OpenDataset D). IsGivenBack has g (folder_at u g.name)) h hs given)
          (λ out. others (ap (λ (x : Bool). x || among name (names_of hs)) differs ∙ out)) (subst (Adds workers (pairs_for all name) b) (ap (λ (x : Bool). if x then held_in has h else held_with has hs t name) differs) adds)
    ]

    -- the same, whatever a crash leaves
    among_firm : (j : Holdings) → IsAfterCrash u j → (name : List ℕ) → held_of s name ≡ Some b → (hs : List (OpenDataset D)) → All (IsBack has workers all) hs → All (OpensAs s) hs → All (λ (h : OpenDataset D). IsGivenBack has h (folder_at u h.name)) hs → among name (names_of hs) ≡ true
        → Adds workers (pairs_for all name) b (held_with has hs t name) → Adds workers (pairs_for all name) b (held_of j name)
    among_firm j left name is [] back openings given there adds = absurd (cc there)
    among_firm j left name is (h ∷ hs) back openings given there adds = elim (is_or_not (bytes_eq name h.name)) as (λ _. Adds workers (pairs_for all name) b (held_of j name)) [
      | inl same ↦
          let one : name ≡ h.name = (bytes_eq-Decides name h.name).0 same in
          let here : Adds workers (pairs_for all name) b (held_in has h) = subst (Adds workers (pairs_for all name) b) (held_inside has h hs t name same) adds in
          let opening = All-head (OpensAs s) h hs openings b (ap (held_of s) (sym one) ∙ is) in
          subst (λ (m : List ℕ). Adds workers (pairs_for all m) b (held_of j m)) (sym one)
          (crash_grown workers h.name (pairs_for all h.name) b (has h.folder) h.pass (folder_at u h.name) (folder_at j h.name) (All-head (λ (g : OpenDataset D). IsGivenBack has g (folder_at u g.name)) h hs given)
          (can_doubt h (All-head (IsBack has workers all) h hs back) opening) (subst (λ (m : List ℕ). Adds workers (pairs_for all m) b (held_in has h)) one here) (files_after u j left h.name) (tables_after u j left h.name))
      | inr differs ↦
          among_firm j left name is hs (All-tail (IsBack has workers all) h hs back) (All-tail (OpensAs s) h hs openings) (All-tail (λ (g : OpenDataset D). IsGivenBack has g (folder_at u g.name)) h hs given)
          (sym (ap (λ (x : Bool). x || among name (names_of hs)) differs) ∙ there) (subst (Adds workers (pairs_for all name) b) (ap (λ (x : Bool). if x then held_in has h else held_with has hs t name) differs) adds)
    ]

    abbrev IsFirmAt : List ℕ → Type 0
    IsFirmAt name = IsUntouched (folder_at s name) (folder_at u name) ⊎ ((j : Holdings) → IsAfterCrash u j → Adds workers (pairs_for all name) b (held_of j name))

    -- a dataset that wasn't open
    closed_firm : (name : List ℕ) → held_of s name ≡ Some b → KeepsFolder name (folder_at s name) (folder_at t name) → u.folders name ≡ t.folders name → IsFirmAt name
    closed_firm name is keeps same =
        elim (firm_kept workers (pairs_for all name) name b (folder_at s name) (folder_at u name) is (subst (λ (o : Option Contents). KeepsFolder name (folder_at s name) (unwrap_or o no_contents)) (sym same) keeps)) as (λ _. IsFirmAt name) [
          | inl x ↦ inl x
          | inr f ↦ inr (λ j left. f (folder_at j name) (files_after u j left name) (tables_after u j left name))
        ]

  module _ (workers : ℕ) (all : List Stored) (each : List (OpenDataset D)) (start now later : Option Holdings) (given : WhereTold now later (GivesBack has each)) where
    abbrev HoldsWith : Holdings → Holdings → Type 0
    HoldsWith s t = (n : List ℕ) → held_of t n ≡ held_with has each s n

    all_grow : WhereTold start now (GrowsAll has workers all each) → All (IsBackSure workers all) each → (All IsSettled each → WhereTold now later HoldsWith) → WhereTold start later (GrowsBy workers (pairs_for all))
    all_grow grows back kept =
        through start now later (GrowsAll has workers all each) (λ s t. GivesBack has each s t × HoldsWith s t) (GrowsBy workers (pairs_for all)) grows
        (both_told now later (GivesBack has each) HoldsWith (λ s t. GivesBack has each s t × HoldsWith s t) (λ s t p q. (p, q)) given (kept (settled workers all each back)))
        (λ s t u g r. record {
          schema = r.0.schema ∙ g.schema;
          each = λ name b is. subst (AddsAll workers (pairs_for all name) b) (sym (r.1 name)) (g.each_is name b is);
        })

    some_grow : WhereTold start now (bulks.Grows has workers all each) → All (IsBack has workers all) each → WhereTold start later (Grows workers (pairs_for all))
    some_grow grows back =
        through start now later (bulks.Grows has workers all each) (GivesBack has each) (Grows workers (pairs_for all)) grows given
        (λ s t u g r. record {
          schema = r.schema ∙ g.schema;
          each = λ name b is. among_grown workers all s t u b name is each back g.openings r.given (r.others name) (g.each_is name b is);
        })

    -- the same after a crash
    all_firmly : WhereTold start now (GrowsAll has workers all each) → All (IsBackSure workers all) each → WhereTold start later (GrowsFirmly workers (pairs_for all))
    all_firmly grows back =
        through start now later (GrowsAll has workers all each) (GivesBack has each) (GrowsFirmly workers (pairs_for all)) grows given
        (λ s t u g r. record {
          each = λ name b is. elim (is_or_not (among name (names_of each))) as (λ _. IsFirmAt workers all s t u b name) [
            | inl there ↦ inr (λ j left. subst (Adds workers (pairs_for all name) b) (sym (firm_among has u j t left name each r.given (settled workers all each back) there)) (g.each_is name b is).adds)
            | inr out ↦ closed_firm workers all s t u b name is (g.keeps name out) (r.others name out)
          ];
        })

    some_firmly : WhereTold start now (bulks.Grows has workers all each) → All (IsBack has workers all) each → WhereTold start later (GrowsFirmly workers (pairs_for all))
    some_firmly grows back =
        through start now later (bulks.Grows has workers all each) (GivesBack has each) (GrowsFirmly workers (pairs_for all)) grows given
        (λ s t u g r. record {
          each = λ name b is. elim (is_or_not (among name (names_of each))) as (λ _. IsFirmAt workers all s t u b name) [
            | inl there ↦ inr (λ j left. among_firm workers all s t u b j left name is each back g.openings r.given there (g.each_is name b is))
            | inr out ↦ closed_firm workers all s t u b name is (g.keeps name out) (r.others name out)
          ];
        })

  -- none of the datasets of the messages was damaged
  undamaged_first : (workers : ℕ) (all : List Stored) (each : List (OpenDataset D)) (start now : Option Holdings) → WhereTold start now (GrowsAll has workers all each) → IfSome start (NoneDamaged all)
  undamaged_first workers all each None now grows = tt
  undamaged_first workers all each (Some s) None grows = absurd grows
  undamaged_first workers all each (Some s) (Some t) grows = λ name there. elim (is_or_not (among name (names_of each))) as (λ _. IsUndamaged name (folder_at s name)) [
    | inl opened ↦ grows.sound name opened
    | inr out ↦ absurd (some_pair all name there (grows.only name out))
  ]

  is_full : (workers : ℕ) (all : List Stored) (each : List (OpenDataset D)) (now later : Option Holdings) → WhereTold now later (GivesBack has each) → All (IsBack has workers all) each → (h : OpenDataset D) → Contains each h → IfSome h.pass (λ p. length p.view.history ≡ 65535)
      → IfSome later (λ u. IsFull u h.name)
  is_full workers all each None None given back h there full = tt
  is_full workers all each None (Some u) given back h there full = absurd given
  is_full workers all each (Some t) None given back h there full = tt
  is_full workers all each (Some t) (Some u) given back h there full =
      let one = All-contains (IsBack has workers all) each h back there in
      full_back h.name (has h.folder) h.pass (folder_at u h.name) (All-contains (λ (g : OpenDataset D). IsGivenBack has g (folder_at u g.name)) each h given.given there)
      (subst (λ (q : Option Seated). IfSome q (λ p. p.view.opening + p.view.amount ≡ length p.view.history)) (sym one.pass_is) one.seen) full

  -- ---- what each answer says

  module _ (workers : ℕ) (rules : List Rule) (pairs : List Pair) (left after : Option (List ℕ)) (start now : Option Holdings) (each : List (OpenDataset D)) where
    abbrev pub SomeBack : Type 0
    SomeBack = (all : List Stored) × All (IsBack has workers all) each

    module _ {X : Type 0} where
      refused_back : (fault : BulkFault X) → RefusedArchived has workers rules pairs left after start now each fault → SomeBack
      refused_back fault w = (w.all, back_only workers w.all each w.back)

      stopped_back : (fault : BulkFault X) → StoppedArchived has workers rules pairs left after start now each fault → SomeBack
      stopped_back fault w = (w.all, w.back)

      pub back_of : (r : Result Bulk (BulkFault X)) → Archived has workers rules pairs left after start now each r → SomeBack
      back_of (Ok bulk) w = (w.all, back_only workers w.all each w.back)
      back_of (Err (faults.Input f)) w = (w.all, back_only workers w.all each w.back)
      back_of (Err (faults.Message at)) w = refused_back (faults.Message at) w
      back_of (Err (faults.NoMap number field)) w = refused_back (faults.NoMap number field) w
      back_of (Err (faults.Cut t)) w = refused_back (faults.Cut t) w
      back_of (Err (faults.Key number fault)) w = refused_back (faults.Key number fault) w
      back_of (Err (faults.NoRule number text)) w = refused_back (faults.NoRule number text) w
      back_of (Err faults.Disk) w = stopped_back faults.Disk w
      back_of (Err (faults.NotATable dataset at want found)) w = stopped_back (faults.NotATable dataset at want found) w
      back_of (Err (faults.Damaged dataset damage)) w = stopped_back (faults.Damaged dataset damage) w
      back_of (Err (faults.TableFull count)) w = stopped_back (faults.TableFull count) w
      back_of (Err (faults.TooMany count)) w = refused_back (faults.TooMany count) w
      back_of (Err faults.InputLimit) w = refused_back faults.InputLimit w
      back_of (Err faults.NoMemory) w = stopped_back faults.NoMemory w

    module _ (later : Option Holdings) (given : WhereTold now later (GivesBack has each)) (kept : All IsSettled each → WhereTold now later (λ s t. (n : List ℕ) → held_of t n ≡ held_with has each s n)) where
      firm_all : (all : List Stored) → WhereTold start now (GrowsAll has workers all each) → All (IsBackSure workers all) each → WhereTold start later (IsFirm workers all)
      firm_all all grows back = firm has workers all each start now later grows (settled workers all each back) given

      module _ {X : Type 0} where
        refused_kept : (fault : BulkFault X) → RefusedArchived has workers rules pairs left after start now each fault → RefusedKept workers rules pairs left after start later fault
        refused_kept fault w = record { all = w.all; grows = all_grow workers w.all each start now later given w.grows w.back kept; firm = firm_all w.all w.grows w.back; firmly = all_firmly workers w.all each start now later given w.grows w.back; undamaged = undamaged_first workers w.all each start now w.grows; messages = w.messages; numbered = w.numbered; next_is = w.next_is; refused = w.refused }

        stopped_kept : (fault : BulkFault X) → StoppedArchived has workers rules pairs left after start now each fault → IsStop workers rules pairs left after start later fault → StoppedKept workers rules pairs left after start later fault
        stopped_kept fault w stop = record { all = w.all; grows = some_grow workers w.all each start now later given w.grows w.back; firmly = some_firmly workers w.all each start now later given w.grows w.back; front = w.front; stop = stop }

        pub kept_of : (r : Result Bulk (BulkFault X)) → Archived has workers rules pairs left after start now each r → InputKept workers rules pairs left after start later r
        kept_of (Ok bulk) w = record { all = w.all; grows = all_grow workers w.all each start now later given w.grows w.back kept; firm = firm_all w.all w.grows w.back; firmly = all_firmly workers w.all each start now later given w.grows w.back; undamaged = undamaged_first workers w.all each start now w.grows; fields = w.fields; datasets = w.datasets; taken_is = w.taken_is }
        kept_of (Err (faults.Input f)) w = record { all = w.all; grows = all_grow workers w.all each start now later given w.grows w.back kept; firm = firm_all w.all w.grows w.back; firmly = all_firmly workers w.all each start now later given w.grows w.back; read = w.read }
        kept_of (Err (faults.Message at)) w = refused_kept (faults.Message at) w
        kept_of (Err (faults.NoMap number field)) w = refused_kept (faults.NoMap number field) w
        kept_of (Err (faults.Cut t)) w = refused_kept (faults.Cut t) w
        kept_of (Err (faults.Key number fault)) w = refused_kept (faults.Key number fault) w
        kept_of (Err (faults.NoRule number text)) w = refused_kept (faults.NoRule number text) w
        kept_of (Err faults.Disk) w = stopped_kept faults.Disk w tt
        kept_of (Err (faults.NotATable dataset at want found)) w = stopped_kept (faults.NotATable dataset at want found) w w.stop
        kept_of (Err (faults.Damaged dataset damage)) w = stopped_kept (faults.Damaged dataset damage) w w.stop
        kept_of (Err (faults.TableFull count)) w = stopped_kept (faults.TableFull count) w (w.stop.0, (w.stop.1.0.name, is_full workers w.all each now later given w.back w.stop.1.0 w.stop.1.1 w.stop.1.2, w.stop.1.3))
        kept_of (Err (faults.TooMany count)) w = refused_kept (faults.TooMany count) w
        kept_of (Err faults.InputLimit) w = refused_kept faults.InputLimit w
        kept_of (Err faults.NoMemory) w = stopped_kept faults.NoMemory w tt

-- ---- nothing was stored

same_grown : (workers : ℕ) (start : Option Holdings) → WhereTold start start (Grows workers (pairs_for []))
same_grown workers None = tt
same_grown workers (Some s) = grows_none workers (pairs_for []) s

same_firm : (workers : ℕ) (start : Option Holdings) → WhereTold start start (GrowsFirmly workers (pairs_for []))
same_firm workers None = tt
same_firm workers (Some s) = firm_same workers (pairs_for []) s

front_none : (rules : List Rule) (pairs : List Pair) (left : Option (List ℕ)) → IfSome left (λ octets. IsFront [] (taken rules pairs octets))
front_none rules pairs None = tt
front_none rules pairs (Some octets) = ((taken rules pairs octets).stored, refl)

pub starved_kept : (X : Type 0) (workers : ℕ) (rules : List Rule) (pairs : List Pair) (left : Option (List ℕ)) (start : Option Holdings) → StoppedKept workers rules pairs left left start start {X = X} faults.NoMemory
starved_kept X workers rules pairs left start = record { all = []; grows = same_grown workers start; firmly = same_firm workers start; front = front_none rules pairs left; stop = tt }
