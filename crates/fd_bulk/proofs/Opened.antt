-- The run, where a dataset is open already, is opened, or can't be.
use Rattle.std.proofs.Common.{◌≡◌, inl, inr, ℕ, ◌+◌, ◌||◌, Bool, true, false, List, [], ◌∷◌, ◌++◌, length, slice_get, slice_set, Option, Some, None, IfSome, Ok, refl, sym, ap, ap₂, subst, ◌∙◌, arith, length-append}
use mathlib.Core.List.{map-append}
use Rattle.std.specs.Str.{bytes_eq}
use Rattle.std.specs.Prelude.{string_bytes}
use Rattle.std.proofs.lemmas.List.{length-map}
use Rattle.fd_disk.specs.declared.folders.FileName.{FileName}
use Rattle.fd_disk.specs.Folders.{Contents, Holdings, SameBut, WhereTold, folder_at, no_contents}
use Rattle.fd_entries.specs.declared.batch.Pair.{Pair}
use Rattle.fd_turn.specs.declared.board.Pass.{Pass}
use Rattle.fd_turn.specs.Passes.{BoardId, IsOf}
use Rattle.fd_archiver.specs.Writing.{Writing}
use Rattle.fd_recovery.specs.Recovered.{IsUndamaged, held}
use Rattle.fd_library.specs.Answers.{HoldsAs}
use Rattle.fd_library.specs.Calls.{Changes, Opens}
use Rattle.fd_library.specs.Open.{AreOpen, IsWhole, OpenDataset, OpenDatasets, among, names_of, seat_of}
use Rattle.fd_library.specs.Stores.{held_in, held_of}
use Rattle.fd_stored.specs.Archiving.{Stored, datasets_in, pairs_for}
use Rattle.fd_stored.specs.Distinct.{is_among}
use Rattle.fd_shares.specs.declared.round.Job.{Job}
use Rattle.fd_shares.specs.declared.round.Parcel.{Parcel}
use Rattle.fd_bulk.specs.Crewing.{AllBegun, AreUntouched, Closes, Crewed, Deals, HasBegun, HoldsRest, OpenedAs, Running, Waits, desks_at}
use Rattle.fd_bulk.specs.Halting.{Each, HasOneMore, IsSameJob}
use Rattle.fd_shares.specs.Working.{Filling}
use Rattle.fd_bulk.proofs.Desks.{all_begun_on}
use Rattle.fd_bulk.proofs.Joined.{at_end, begun_lost, begun_new, desks_more, desks_none, each_back, each_same_on, running_more, running_same, set_end, waits_more, waits_on, work_long}
use Rattle.fd_bulk.proofs.Keeping.{keeps_on}
use Rattle.fd_bulk.proofs.Matching.{matched_long, matched_map, matched_push}
use Rattle.fd_bulk.proofs.Tellings.{at_first, through}
use Rattle.fd_bulk.proofs.Texts.{among_apart, among_push, count_new, count_old, is_among_push, no_pairs_for, one_text, true_or_false}

pub folder_same : (s t : Holdings) (n : List ℕ) → t.folders n ≡ s.folders n → held_of t n ≡ held_of s n
folder_same s t n e = ap (λ (o : Option Contents). held n (Rattle.std.specs.Prelude.unwrap_or o no_contents)) e

-- the datasets of the first messages are among those of all
not_among_front : (a b : List Stored) (name : List ℕ) → is_among (datasets_in (a ++ b)) name ≡ false → is_among (datasets_in a) name ≡ false
not_among_front [] b name out = refl
not_among_front (s ∷ a) b name out = go (bytes_eq name s.dataset) refl out (λ o. not_among_front a b name o)
  where
    go : (e : Bool) → bytes_eq name s.dataset ≡ e → (e || is_among (datasets_in (a ++ b)) name) ≡ false → (is_among (datasets_in (a ++ b)) name ≡ false → is_among (datasets_in a) name ≡ false) → is_among (s.dataset ∷ datasets_in a) name ≡ false
    go true is out rest = absurd (cc out)
    go false is out rest = ap (λ (e : Bool). e || is_among (datasets_in a) name) is ∙ rest out

module _ {D H X Y E : Type 0} (has : D → Option Contents) (kept : H → Option (FileName → Option (List ℕ))) where
  -- ---- the same workers

  pub crewed_same : (workers : ℕ) (all : List Stored) (start now : Option Holdings) (lost : ℕ) (l : OpenDatasets D) (ps : List (Pass X Y)) (js ks : List (Job (Writing H) (Pass X Y) E)) → Each (λ i. IsSameJob) js ks → Crewed has (Running kept workers all) start now lost l ps js
      → Crewed has (Running kept workers all) start now lost l ps ks
  crewed_same workers all start now lost l ps js ks e c = record {
    some = (let n = e.long in let s = c.some in omega (arith, n, s));
    few = (let n = e.long in let s = c.few in omega (arith, n, s));
    opened = c.opened;
    each = all_begun_on has start lost js ks l.boards l.each ps (each_same_on js ks e) c.each;
    works = λ w k at. let j = each_back IsSameJob js ks w k e at in running_same kept workers all w l.boards (names_of l.each) j.0 k j.2 (c.works w j.0 j.1);
    rest = c.rest;
  }

  -- more archivers may have been asked for in vain
  pub crewed_lost : (workers : ℕ) (all : List Stored) (start now : Option Holdings) (l : OpenDatasets D) (ps : List (Pass X Y)) (js : List (Job (Writing H) (Pass X Y) E)) → Crewed has (Running kept workers all) start now 0 l ps js → Crewed has (Running kept workers all) start now 1 l ps js
  crewed_lost workers all start now l ps js c = record {
    some = c.some;
    few = c.few;
    opened = c.opened;
    each = matched_map (λ n b h p. HasBegun has start 0 b h p (desks_at n js)) (λ n b h p. HasBegun has start 1 b h p (desks_at n js)) 0 l.boards l.each ps (λ n b h p r. begun_lost has start b h p (desks_at n js) r) c.each;
    works = c.works;
    rest = c.rest;
  }

  crewed_workers : (a b : ℕ) (all : List Stored) (start now : Option Holdings) (lost : ℕ) (l : OpenDatasets D) (ps : List (Pass X Y)) (js : List (Job (Writing H) (Pass X Y) E)) → a ≡ b → Crewed has (Running kept a all) start now lost l ps js → Crewed has (Running kept b all) start now lost l ps js
  crewed_workers a b all start now lost l ps js same c = subst (λ (n : ℕ). Crewed has (Running kept n all) start now lost l ps js) same c

  module _ (start : Option Holdings) (all waiting : List Stored) where
    pub deals_same : (now : Option Holdings) (datasets : List (List ℕ)) (l : OpenDatasets D) (ps : List (Pass X Y)) (js ks : List (Job (Writing H) (Pass X Y) E)) (parcels : List Parcel) → Each (λ i. IsSameJob) js ks → Deals has kept start now all waiting datasets l ps js parcels
        → Deals has kept start now all waiting datasets l ps ks parcels
    deals_same now datasets l ps js ks parcels e d = record {
      crewed = crewed_workers (length js) (length ks) all start now 0 l ps ks (sym e.long) (crewed_same (length js) all start now 0 l ps js ks e d.crewed);
      waits = waits_on (names_of l.each) waiting js ks parcels (each_same_on js ks e) d.waits;
      met = d.met;
      untouched = d.untouched;
    }

    pub deals_closes : (now : Option Holdings) (datasets : List (List ℕ)) (l : OpenDatasets D) (ps : List (Pass X Y)) (js : List (Job (Writing H) (Pass X Y) E)) (parcels : List Parcel) → Deals has kept start now all waiting datasets l ps js parcels → Closes has kept start now all waiting l ps js parcels
    deals_closes now datasets l ps js parcels d = record { crewed = crewed_lost (length js) all start now l ps js d.crewed; waits = d.waits }

    module _ (name : List ℕ) (before after : Option Holdings) (l : OpenDatasets D) (ps : List (Pass X Y)) (js ks : List (Job (Writing H) (Pass X Y) E)) (parcels : List Parcel) (d : Deals has kept start before all waiting (datasets_in (all ++ waiting)) l ps js parcels) where
      -- ---- it is open already

      pub opened_again : (Z : Type 0) (n : ℕ) → among name (names_of l.each) ≡ true → slice_get (names_of l.each) n ≡ Some name → before ≡ after → Each (λ i. IsSameJob) js ks
          → OpenedAs has kept start after all waiting {Z = Z} name (datasets_in (all ++ waiting)) (Ok n) l ps ks parcels
      opened_again Z n there at same e =
          let r = deals_same before (datasets_in (all ++ waiting)) l ps js ks parcels e d in
          let known : is_among (datasets_in (all ++ waiting)) name ≡ true = d.met.among_is name ∙ there in (
            subst (λ (o : Option Holdings). Deals has kept start o all waiting (datasets_in (all ++ waiting) ++ name ∷ []) l ps ks parcels) same (record {
              crewed = r.crewed;
              waits = r.waits;
              met = record {
                among_is = λ m. is_among_push (datasets_in (all ++ waiting)) name m ∙ elim (true_or_false (bytes_eq m name)) as (λ _. (is_among (datasets_in (all ++ waiting)) m || bytes_eq m name) ≡ among m (names_of l.each)) [
                  | inl s ↦
                      let one : m ≡ name = one_text m name s in
                      let here : is_among (datasets_in (all ++ waiting)) m ≡ true = ap (is_among (datasets_in (all ++ waiting))) one ∙ known in
                      ap (λ (b : Bool). b || bytes_eq m name) here ∙ sym (ap (λ (x : List ℕ). among x (names_of l.each)) one ∙ there)
                  | inr s ↦ ap (λ (b : Bool). is_among (datasets_in (all ++ waiting)) m || b) s ∙ or_false (is_among (datasets_in (all ++ waiting)) m) ∙ d.met.among_is m
                ];
                count = count_old (datasets_in (all ++ waiting)) name known ∙ d.met.count;
              };
              untouched = r.untouched;
            }),
            at,
          )
        where
          or_false : (b : Bool) → (b || false) ≡ b
          or_false true = refl
          or_false false = refl

      -- ---- it was opened, and its pass handed out

      module _ (new : among name (names_of l.each) ≡ false) (n : ℕ) (l₁ l₂ : OpenDatasets D) (p : Pass X Y) (o : Opens has n name l l₁ before after)
          (ch : Changes n l₁ l₂ (λ h g. (h.pass ≡ Some (seat_of p)) × IsWhole h.name (seat_of p) × (g ≡ record h { pass = None }))) (own : IfSome (slice_get l₁.boards n) (λ b. IsOf b p)) (sound : AreOpen l₂) (e : Each (λ i. HasOneMore) js ks) (undamaged : IfSome before (λ s. IsUndamaged name (folder_at s name))) where
        before_is : ch.before ≡ o.held
        before_is = let a : slice_get l₁.each n ≡ Some o.held = ap₂ slice_get o.adds.each o.number ∙ at_end l.each o.held in let b = ch.was in cc (a, b)

        rest_is : ch.after ≡ record o.held { pass = None }
        rest_is = ch.how.2 ∙ ap (λ (h : OpenDataset D). record h { pass = None }) before_is

        name_is : ch.after.name ≡ name
        name_is = ap (λ (h : OpenDataset D). h.name) rest_is ∙ o.opened.name_is

        each_is : l₂.each ≡ l.each ++ ch.after ∷ []
        each_is = ch.is ∙ ap₂ (λ (hs : List (OpenDataset D)) (m : ℕ). slice_set hs m ch.after) o.adds.each o.number ∙ set_end l.each o.held ch.after

        boards_are : l₂.boards ≡ l.boards ++ o.board ∷ []
        boards_are = ch.boards ∙ o.adds.boards

        names_are : names_of l₂.each ≡ names_of l.each ++ name ∷ []
        names_are = ap names_of each_is ∙ map-append (λ (h : OpenDataset D). h.name) l.each (ch.after ∷ []) ∙ ap (λ (m : List ℕ). names_of l.each ++ m ∷ []) name_is

        long : (length l.boards ≡ length l.each) × (length ps ≡ length l.each)
        long = matched_long (λ k b h q. HasBegun has start 0 b h q (desks_at k js)) 0 l.boards l.each ps d.crewed.each

        is_own : IsOf o.board p
        is_own = subst (λ (b : Option BoardId). IfSome b (λ z. IsOf z p)) (ap₂ slice_get o.adds.boards (o.number ∙ sym long.0) ∙ at_end l.boards o.board) own

        unknown : is_among (datasets_in (all ++ waiting)) name ≡ false
        unknown = d.met.among_is name ∙ new

        none_yet : pairs_for all name ≡ []
        none_yet = no_pairs_for all name (not_among_front all waiting name unknown)

        held_first : (s : Holdings) (t : List (List Pair)) → start ≡ Some s → held_of s o.held.name ≡ Some t → held_in has o.held ≡ Some t
        held_first s t is base = go before (subst (λ (a : Option Holdings). WhereTold a before (λ s b. (m : List ℕ) → among m (names_of l.each) ≡ false → b.folders m ≡ s.folders m)) is d.untouched) o.holds
          where
            go : (b : Option Holdings) → WhereTold (Some s) b (λ s b. (m : List ℕ) → among m (names_of l.each) ≡ false → b.folders m ≡ s.folders m) → IfSome b (λ v. HoldsAs has v o.held) → held_in has o.held ≡ Some t
            go None u h = absurd u
            go (Some b) u h = h.files ∙ ap (held_of b) o.opened.name_is ∙ folder_same s b name (u name new) ∙ ap (held_of s) (sym o.opened.name_is) ∙ base

        undamaged_first : IfSome start (λ s. IsUndamaged o.held.name (folder_at s o.held.name))
        undamaged_first = subst (λ (n : List ℕ). IfSome start (λ s. IsUndamaged n (folder_at s n))) (sym o.opened.name_is) (at_first start before (names_of l.each) name (IsUndamaged name) d.untouched new undamaged)

        begun : HasBegun has start 0 o.board ch.after p (desks_at (length l.each) ks)
        begun = subst (HasBegun has start 0 o.board ch.after p)
            (sym (desks_more (length l.each) js ks e ∙ desks_none (length l.each) js (λ w j at. let r = d.crewed.works w j at in let s = work_long kept (λ k. Filling) _ 0 l.boards (names_of l.each) j.desks.items r.works in let t = length-map l.each (λ (h : OpenDataset D). h.name) in omega (arith, s, t))))
            (begun_new has start name o.board o.held ch.after p o.opened (ap (λ (h : OpenDataset D). h.pass) (sym before_is) ∙ ch.how.0) (subst (λ (h : OpenDataset D). IsWhole h.name (seat_of p)) before_is ch.how.1) rest_is is_own held_first undamaged_first)

        each_begun : AllBegun has start 0 ks l₂.boards l₂.each (ps ++ p ∷ [])
        each_begun = subst (λ (bs : List BoardId). AllBegun has start 0 ks bs l₂.each (ps ++ p ∷ [])) (sym boards_are) (subst (λ (hs : List (OpenDataset D)). AllBegun has start 0 ks (l.boards ++ o.board ∷ []) hs (ps ++ p ∷ [])) (sym each_is)
            (matched_push (λ k b h q. HasBegun has start 0 b h q (desks_at k ks)) 0 (length l.each) l.boards l.each ps o.board ch.after p (omega arith) begun
            (matched_map (λ k b h q. HasBegun has start 0 b h q (desks_at k js)) (λ k b h q. HasBegun has start 0 b h q (desks_at k ks)) 0 l.boards l.each ps (λ k b h q r. subst (HasBegun has start 0 b h q) (sym (desks_more k js ks e)) r) d.crewed.each)))

        rest_names : WhereTold start after (HoldsRest (names_of l.each ++ name ∷ []))
        rest_names = through start before after (HoldsRest (names_of l.each)) (SameBut name) (HoldsRest (names_of l.each ++ name ∷ [])) d.crewed.rest o.store (λ s b t first second. record {
          schema = second.schema ∙ first.schema;
          rest = λ m out. let apart = among_apart m name (names_of l.each) out in folder_same b t m (second.others m apart.1) ∙ first.rest m apart.0;
          keeps = λ m out. let apart = among_apart m name (names_of l.each) out in keeps_on m s b t (second.others m apart.1) (first.keeps m apart.0);
        })

        untouched_names : AreUntouched start after (names_of l.each ++ name ∷ [])
        untouched_names = through start before after _ (SameBut name) _ d.untouched o.store (λ s b t first second m out. let apart = among_apart m name (names_of l.each) out in second.others m apart.1 ∙ first m apart.0)

        pub opened_new : (Z : Type 0) → OpenedAs has kept start after all waiting {Z = Z} name (datasets_in (all ++ waiting)) (Ok n) l₂ (ps ++ p ∷ []) ks parcels
        opened_new Z = (
          record {
            crewed = record {
              some = (let k = e.long in let s = d.crewed.some in omega (arith, k, s));
              few = (let k = e.long in let s = d.crewed.few in omega (arith, k, s));
              opened = sound;
              each = each_begun;
              works = λ w k at.
                  let j = each_back HasOneMore js ks w k e at in
                  subst (λ (bs : List BoardId). Running kept (length ks) all w bs (names_of l₂.each) k) (sym boards_are) (subst (λ (ns : List (List ℕ)). Running kept (length ks) all w (l.boards ++ o.board ∷ []) ns k) (sym names_are)
                  (subst (λ (m : ℕ). Running kept m all w (l.boards ++ o.board ∷ []) (names_of l.each ++ name ∷ []) k) (sym e.long) (running_more kept (length js) all w l.boards (names_of l.each) o.board name j.0 k none_yet j.2 (d.crewed.works w j.0 j.1))));
              rest = subst (λ (ns : List (List ℕ)). WhereTold start after (HoldsRest ns)) (sym names_are) rest_names;
            };
            waits = subst (λ (ns : List (List ℕ)). Waits ns waiting ks parcels) (sym names_are) (waits_more (names_of l.each) name waiting js ks parcels e d.waits);
            met = record {
              among_is = λ m. is_among_push (datasets_in (all ++ waiting)) name m ∙ ap (λ (b : Bool). b || bytes_eq m name) (d.met.among_is m) ∙ sym (among_push (names_of l.each) name m) ∙ sym (ap (among m) names_are);
              count = count_new (datasets_in (all ++ waiting)) name unknown ∙ ap (λ (i : ℕ). i + 1) d.met.count ∙ sym (ap length names_are ∙ length-append (names_of l.each) (name ∷ []));
            };
            untouched = subst (AreUntouched start after) (sym names_are) untouched_names;
          },
          ap₂ slice_get names_are (o.number ∙ sym (length-map l.each (λ (h : OpenDataset D). h.name))) ∙ at_end (names_of l.each) name,
        )
