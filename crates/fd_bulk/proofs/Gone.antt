-- How far a stream was gone over, and what was dealt of it.
use Rattle.std.proofs.Common.{◌≡◌, inl, inr, ◌≤◌, ◌<◌, ◌^◌, ℕ, ◌+◌, ◌-◌, ◌*◌, Bool, false, List, [], ◌∷◌, ◌++◌, length, Option, Some, IfSome, Ok, Err, refl, sym, ap, subst, ◌∙◌, arith, append_assoc, append-nil, length-append}
use Rattle.fd_disk.specs.declared.folders.FileName.{FileName}
use Rattle.fd_disk.specs.Folders.{Contents, Holdings, folder_at}
use Rattle.fd_sections.specs.declared.refusal.BadAt.{BadAt}
use Rattle.fd_sections.specs.Message.{Sections, message_octets}
use Rattle.fd_split.specs.declared.refusal.Refusal.TheVariants as refusals
use Rattle.fd_split.specs.Fields.{numbered, refusal_at}
use Rattle.fd_split.specs.Positions.{FieldsOn, Position, RefusesNext, weight}
use Rattle.fd_key.specs.Keys.{key_of}
use Rattle.fd_key.specs.Pairs.{Pair}
use Rattle.fd_schema.specs.Rules.{Rule, Texts, place_from}
use Rattle.fd_turn.specs.declared.board.Pass.{Pass}
use Rattle.fd_archiver.specs.declared.fault.FlushFault.{FlushFault}
use Rattle.fd_archiver.specs.Writing.{Writing}
use Rattle.fd_library.specs.Open.{OpenDatasets, names_of}
use Rattle.fd_stored.specs.Causes.{BadFile, BadTable}
use Rattle.fd_stored.specs.Store.{Stands}
use Rattle.fd_stored.specs.Archiving.{Stored, datasets_in, is_too_many, stored_at}
use Rattle.fd_sheets.specs.Sheets.{Passes}
use Rattle.fd_bulk.specs.declared.bulk.BulkFault.{BulkFault}
use Rattle.fd_bulk.specs.declared.bulk.BulkFault.TheVariants as faults
use Rattle.fd_shares.specs.declared.round.Job.{Job}
use Rattle.fd_shares.specs.declared.round.Parcel.{Parcel}
use Rattle.fd_bulk.specs.Crewing.{AreMet, CanRun, Deals, RanAs, TooManyAt, Undealt, Waits, message_at, octets_of}
use Rattle.fd_bulk.specs.Inputs.{CanGo, EndedThere, EndsFor, GoesOn, Going, PlacedAs, WentOn, is_unread}
use Rattle.fd_bulk.specs.Taking.{StoredOn}
use Rattle.fd_bulk.proofs.Opened.{deals_closes}
use Rattle.fd_bulk.proofs.Single.{never_several}
use Rattle.fd_bulk.proofs.Steps.{ended_later, ended_now, ends_there, ends_unmapped, placed_ends, stored_is, stored_more, stored_nothing, too_many_ends, unopened_ends, went_none, went_one}

-- the number of a message, as it is told
from_one : (n k : ℕ) → k ≡ n → 1 ≤ n → k ≡ (n - 1) + 1
from_one n k is one = omega (arith, is, one)

octets_push : (all : List Stored) (s : Stored) → octets_of (all ++ s ∷ []) ≡ octets_of all + (length s.pair.bytes + 32)
octets_push [] s = omega arith
octets_push (x ∷ xs) s = omega (arith, octets_push xs s)

module _ {D H X Y F : Type 0} (has : D → Option Contents) (kept : H → Option (FileName → Option (List ℕ))) where
  -- ---- why a message isn't dealt, and what stands then

  module _ (start : Option Holdings) (all waiting : List Stored) where
    placed_stands : {Z : Type 0} (rules : List Rule) (given : List Pair) (m : Sections) (now : Option Holdings) (l : OpenDatasets D) (ps : List (Pass X Y)) (js : List (Job (Writing H) (Pass X Y) (FlushFault F))) (parcels : List Parcel) (n : ℕ) (fault : BulkFault Z)
        → 1 ≤ n → Deals has kept start now all waiting (datasets_in (all ++ waiting)) l ps js parcels → PlacedAs rules given n m (Err fault) → EndsFor has kept start now all waiting l ps js parcels fault
    placed_stands rules given m now l ps js parcels n (faults.Input f) count d h = absurd h
    placed_stands rules given m now l ps js parcels n (faults.Message at) count d h = absurd h
    placed_stands rules given m now l ps js parcels n (faults.NoMap k field) count d h = absurd h
    placed_stands rules given m now l ps js parcels n (faults.Cut t) count d h = absurd h
    placed_stands rules given m now l ps js parcels n (faults.Key k why) count d h = (deals_closes has kept start all waiting now (datasets_in (all ++ waiting)) l ps js parcels d, d.met, (n - 1, from_one n k h.0 count, tt))
    placed_stands rules given m now l ps js parcels n (faults.NoRule k text) count d h = (deals_closes has kept start all waiting now (datasets_in (all ++ waiting)) l ps js parcels d, d.met, (n - 1, from_one n k h.0 count, tt))
    placed_stands rules given m now l ps js parcels n faults.Disk count d h = absurd h
    placed_stands rules given m now l ps js parcels n (faults.NotATable dataset at want found) count d h = absurd h
    placed_stands rules given m now l ps js parcels n (faults.Damaged dataset damage) count d h = absurd h
    placed_stands rules given m now l ps js parcels n (faults.TableFull k) count d h = absurd h
    placed_stands rules given m now l ps js parcels n (faults.TooMany k) count d h = absurd h
    placed_stands rules given m now l ps js parcels n faults.InputLimit count d h = absurd h
    placed_stands rules given m now l ps js parcels n faults.NoMemory count d h = inl (deals_closes has kept start all waiting now (datasets_in (all ++ waiting)) l ps js parcels d)

    dealt_stands : {Z : Type 0} (name : List ℕ) (now : Option Holdings) (l : OpenDatasets D) (ps : List (Pass X Y)) (js : List (Job (Writing H) (Pass X Y) (FlushFault F))) (parcels : List Parcel) (fault : BulkFault Z)
        → Undealt has kept start now all waiting name (datasets_in (all ++ waiting)) fault l ps js parcels → EndsFor has kept start now all waiting l ps js parcels fault
    dealt_stands name now l ps js parcels (faults.Input f) h = absurd h
    dealt_stands name now l ps js parcels (faults.Message at) h = absurd h
    dealt_stands name now l ps js parcels (faults.NoMap k field) h = absurd h
    dealt_stands name now l ps js parcels (faults.Cut t) h = absurd h
    dealt_stands name now l ps js parcels (faults.Key k why) h = absurd h
    dealt_stands name now l ps js parcels (faults.NoRule k text) h = absurd h
    dealt_stands name now l ps js parcels faults.Disk h = inl h
    dealt_stands name now l ps js parcels (faults.NotATable dataset at want found) h =
        (h.0, subst (λ (x : List ℕ). IfSome start (λ s. Stands x (folder_at s x) (BadTable (record { at = at; want = want; found = found })))) (sym h.1) h.2)
    dealt_stands name now l ps js parcels (faults.Damaged dataset damage) h = (h.0, subst (λ (x : List ℕ). IfSome start (λ s. Stands x (folder_at s x) (BadFile damage))) (sym h.1) h.2)
    dealt_stands name now l ps js parcels (faults.TableFull k) h = absurd h
    dealt_stands name now l ps js parcels (faults.TooMany k) h = (h.0, h.1, (0, tt, tt))
    dealt_stands name now l ps js parcels faults.InputLimit h = absurd h
    dealt_stands name now l ps js parcels faults.NoMemory h = inl h

  -- ---- one message

  module _ (rules : List Rule) (given : List Pair) (start before : Option Holdings) (all waits : List Stored) (l : OpenDatasets D) (ps : List (Pass X Y)) (js : List (Job (Writing H) (Pass X Y) (FlushFault F))) (parcels : List Parcel) (p : Position) (few : p.split.fed ≤ 68719476736)
      (g : Going has kept start before all waits l ps js parcels p) where
    few_octets : octets_of (all ++ waits) < 2 ^ 63
    few_octets = let sizes = g.sizes in let count = g.count in omega (arith, sizes, count, few)

    pub gone_none : (now : Option Holdings) (q : Position) → now ≡ before → Passes p q → WentOn has kept rules given p q start now (all ++ waits) l ps js parcels
    gone_none now q same t =
        let count = g.count in
        let rest = t.fits in
        let came = t.on.is_fed in
        record {
          all = all;
          waiting = waits;
          on = went_none rules given p q (all ++ waits) t.on;
          going = record {
            deals = subst (λ (n : Option Holdings). Deals has kept start n all waits (datasets_in (all ++ waits)) l ps js parcels) (sym same) g.deals;
            given = let more = t.on.counts in let so_far = g.given in omega (arith, more, so_far);
            sizes = g.sizes;
            count = omega (arith, count, rest, came);
          };
        }

    module _ (q : Position) (m : Sections) (n : ℕ) (t : FieldsOn p q (numbered n m ∷ [])) (octets : List ℕ) (whole : octets ≡ message_octets m) (limit : length octets ≤ 134217728) (fits : weight q + 16 ≤ weight p) (key : List Pair) (place : Texts) (keyed_is : key_of m given ≡ Ok key) (placed : place_from 0 rules key ≡ Some place) where
      message_is : stored_at place m ≡ message_at place octets
      message_is = ap (message_at place) (sym whole)

      pub gone_one : (now : Option Holdings) (l₂ : OpenDatasets D) (qs : List (Pass X Y)) (ks : List (Job (Writing H) (Pass X Y) (FlushFault F))) (more : List Parcel) → is_too_many (datasets_in (all ++ waits)) place.dataset ≡ false
          → Deals has kept start now all (waits ++ message_at place octets ∷ []) (datasets_in (all ++ (waits ++ message_at place octets ∷ []))) l₂ qs ks more → WentOn has kept rules given p q start now (all ++ waits) l₂ qs ks more
      gone_one now l₂ qs ks more room d =
          let s : Stored = message_at place octets in
          let sizes = g.sizes in
          let count = g.count in
          let came = t.is_fed in
          let all_is : all ++ (waits ++ s ∷ []) ≡ (all ++ waits) ++ s ∷ [] = sym (append_assoc all waits (s ∷ [])) in
          let size : octets_of (all ++ (waits ++ s ∷ [])) ≡ octets_of (all ++ waits) + (length octets + 32) = ap octets_of all_is ∙ octets_push (all ++ waits) s in
          let number : length (all ++ (waits ++ s ∷ [])) ≡ length (all ++ waits) + 1 = ap length all_is ∙ length-append (all ++ waits) (s ∷ []) in
          record {
            all = all;
            waiting = waits ++ s ∷ [];
            on = went_one rules given p q (numbered n m) s (all ++ waits) (all ++ (waits ++ s ∷ [])) t
                (stored_is rules given (datasets_in (all ++ waits)) n m key keyed_is place placed room ∙ ap (λ (x : Stored). Ok x) message_is) all_is;
            going = record { deals = d; given = let more = t.counts in let so_far = g.given in omega (arith, more, so_far, number); sizes = omega (arith, size, limit, sizes, number); count = omega (arith, fits, count, came, number) };
          }

      -- its dataset isn't opened, or the store failed
      dealt_ends : (Z : Type 0) (now : Option Holdings) (l₂ : OpenDatasets D) (qs : List (Pass X Y)) (ks : List (Job (Writing H) (Pass X Y) (FlushFault F))) (more : List Parcel) (fault : BulkFault Z) → TooManyAt {A = Unit {0}} (is_too_many (datasets_in (all ++ waits)) place.dataset) (Err fault)
          → Undealt has kept start now all waits place.dataset (datasets_in (all ++ waits)) fault l₂ qs ks more → (past : Bool) (others : List ℕ) → Rattle.fd_bulk.specs.Inputs.EndsTaken fault (Rattle.fd_bulk.specs.Taking.taken_from rules given (datasets_in (all ++ waits)) p past others)
      dealt_ends Z now l₂ qs ks more (faults.Input f) too h past others = absurd h
      dealt_ends Z now l₂ qs ks more (faults.Message at) too h past others = absurd h
      dealt_ends Z now l₂ qs ks more (faults.NoMap k field) too h past others = absurd h
      dealt_ends Z now l₂ qs ks more (faults.Cut t) too h past others = absurd h
      dealt_ends Z now l₂ qs ks more (faults.Key k why) too h past others = absurd h
      dealt_ends Z now l₂ qs ks more (faults.NoRule k text) too h past others = absurd h
      dealt_ends Z now l₂ qs ks more faults.Disk too h past others = tt
      dealt_ends Z now l₂ qs ks more (faults.NotATable dataset at want found) too h past others = unopened_ends rules given (datasets_in (all ++ waits)) p q (numbered n m) t key place keyed_is placed dataset h.1 too past others
      dealt_ends Z now l₂ qs ks more (faults.Damaged dataset damage) too h past others = unopened_ends rules given (datasets_in (all ++ waits)) p q (numbered n m) t key place keyed_is placed dataset h.1 too past others
      dealt_ends Z now l₂ qs ks more (faults.TableFull k) too h past others = absurd h
      dealt_ends Z now l₂ qs ks more (faults.TooMany k) too h past others = too_many_ends rules given (datasets_in (all ++ waits)) p q (numbered n m) t key place keyed_is placed Z k h.2 too past others
      dealt_ends Z now l₂ qs ks more faults.InputLimit too h past others = absurd h
      dealt_ends Z now l₂ qs ks more faults.NoMemory too h past others = tt

      pub ended_dealt : {Z : Type 0} (now : Option Holdings) (l₂ : OpenDatasets D) (qs : List (Pass X Y)) (ks : List (Job (Writing H) (Pass X Y) (FlushFault F))) (more : List Parcel) (fault : BulkFault Z) → TooManyAt {A = Unit {0}} (is_too_many (datasets_in (all ++ waits)) place.dataset) (Err fault)
          → Undealt has kept start now all waits place.dataset (datasets_in (all ++ waits)) fault l₂ qs ks more → EndedThere has kept rules given p start now (all ++ waits) l₂ qs ks more fault
      ended_dealt now l₂ qs ks more fault too h = record {
        all = all;
        waiting = waits;
        on = ended_now rules given fault p (all ++ waits) (dealt_ends _ now l₂ qs ks more fault too h);
        ends = dealt_stands start all waits place.dataset now l₂ qs ks more fault h;
        sum = few_octets;
      }

    -- it has no place
    pub ended_placed : {Z : Type 0} (q : Position) (m : Sections) (n : ℕ) → FieldsOn p q (numbered n m ∷ []) → 1 ≤ n → (fault : BulkFault Z) → PlacedAs rules given n m (Err fault) → EndedThere has kept rules given p start before (all ++ waits) l ps js parcels fault
    ended_placed q m n t count fault h = record {
      all = all;
      waiting = waits;
      on = ended_now rules given fault p (all ++ waits) (placed_ends rules given (datasets_in (all ++ waits)) p q (numbered n m) t fault h);
      ends = placed_stands start all waits rules given m before l ps js parcels n fault count g.deals h;
      sum = few_octets;
    }

    -- the next message is refused, since a field of it lacks a bit map
    pub ended_unmapped : (Z : Type 0) (n field : ℕ) → RefusesNext p (refusals.NoMap n field) n → 1 ≤ n → EndedThere has kept {Z = Z} rules given p start before (all ++ waits) l ps js parcels (faults.NoMap n field)
    ended_unmapped Z n field b one = record {
      all = all;
      waiting = waits;
      on = ended_now rules given (faults.NoMap n field) p (all ++ waits) (ends_unmapped rules given Z (datasets_in (all ++ waits)) p n field b);
      ends = (deals_closes has kept start all waits before (datasets_in (all ++ waits)) l ps js parcels g.deals, g.deals.met, (n - 1, from_one n n refl one, tt));
      sum = few_octets;
    }

    -- or for another cause
    pub ended_stream : (Z : Type 0) (at : BadAt) → RefusesNext p (refusal_at at.number at.bad) at.number → 1 ≤ at.number → EndedThere has kept {Z = Z} rules given p start before (all ++ waits) l ps js parcels (faults.Message at)
    ended_stream Z at b one = record {
      all = all;
      waiting = waits;
      on = ended_now rules given (faults.Message at) p (all ++ waits) (ends_there rules given Z (datasets_in (all ++ waits)) p at b);
      ends = (deals_closes has kept start all waits before (datasets_in (all ++ waits)) l ps js parcels g.deals, g.deals.met, (at.number - 1, from_one at.number at.number refl one, never_several p at b));
      sum = few_octets;
    }

    -- memory is wanted
    pub ended_starved : (Z : Type 0) → EndedThere has kept {Z = Z} rules given p start before (all ++ waits) l ps js parcels faults.NoMemory
    ended_starved Z = record {
      all = all;
      waiting = waits;
      on = ended_now rules given faults.NoMemory p (all ++ waits) (λ past more. tt);
      ends = inl (deals_closes has kept start all waits before (datasets_in (all ++ waits)) l ps js parcels g.deals);
      sum = few_octets;
    }

    pub gone_nowhere : WentOn has kept rules given p p start before (all ++ waits) l ps js parcels
    gone_nowhere = record { all = all; waiting = waits; on = stored_nothing rules given p (all ++ waits); going = g }

    -- ---- the round

    pub can_run : CanRun has kept l ps js parcels
    can_run = record { start = start; now = before; lost = 0; all = all; waiting = waits; crewed = g.deals.crewed; waits = g.deals.waits; sum = few_octets }

    module _ (now : Option Holdings) (same : now ≡ before) (qs : List (Pass X Y)) (ks : List (Job (Writing H) (Pass X Y) (FlushFault F))) (more : List Parcel) (none : more ≡ []) where
      none_waits : Waits (names_of l.each) [] ks more
      none_waits = subst (λ (xs : List Parcel). Waits (names_of l.each) [] ks xs) (sym none) (record { parcels_are = tt; fit = tt; met = λ i x at. absurd (cc at) })

      all_now : (all ++ waits) ++ [] ≡ all ++ waits
      all_now = append-nil (all ++ waits)

      pub gone_round : (Z : Type 0) → RanAs has kept {Z = Z} start before 0 (all ++ waits) (Ok tt) l qs ks → Going has kept start now (all ++ waits) [] l qs ks more p
      gone_round Z c = subst (λ (n : Option Holdings). Going has kept start n (all ++ waits) [] l qs ks more p) (sym same) (record {
        deals = record {
          crewed = c;
          waits = none_waits;
          met = subst (λ (xs : List Stored). AreMet (datasets_in xs) (names_of l.each)) (sym all_now) g.deals.met;
          untouched = g.deals.untouched;
        };
        given = g.given ∙ ap length (sym all_now);
        sizes = let sizes = g.sizes in let same = ap octets_of all_now in let long = ap length all_now in omega (arith, sizes, same, long);
        count = let count = g.count in let long = ap length all_now in omega (arith, count, long);
      })

      -- a worker stopped
      pub halts_round : {Z : Type 0} (fault : BulkFault Z) → RanAs has kept start before 0 (all ++ waits) (Err fault) l qs ks → EndsFor has kept start before all waits l qs ks more fault
      halts_round (faults.Input f) c = absurd c.1
      halts_round (faults.Message at) c = absurd c.1
      halts_round (faults.NoMap k field) c = absurd c.1
      halts_round (faults.Cut t) c = absurd c.1
      halts_round (faults.Key k why) c = absurd c.1
      halts_round (faults.NoRule k text) c = absurd c.1
      halts_round faults.Disk c = inr (record { lost = 0; crewed = c.0; none = none }, tt)
      halts_round (faults.NotATable dataset at want found) c = absurd c.1
      halts_round (faults.Damaged dataset damage) c = absurd c.1
      halts_round (faults.TableFull k) c = (record { lost = 0; crewed = c.0; none = none }, c.1)
      halts_round (faults.TooMany k) c = absurd c.1
      halts_round faults.InputLimit c = absurd c.1
      halts_round faults.NoMemory c = inr (record { lost = 0; crewed = c.0; none = none }, tt)

      halts_ends : {Z : Type 0} (fault : BulkFault Z) → RanAs has kept start before 0 (all ++ waits) (Err fault) l qs ks → (t : Rattle.fd_stored.specs.Archiving.Taken) → Rattle.fd_bulk.specs.Inputs.EndsTaken fault t
      halts_ends (faults.Input f) c t = absurd c.1
      halts_ends (faults.Message at) c t = absurd c.1
      halts_ends (faults.NoMap k field) c t = absurd c.1
      halts_ends (faults.Cut x) c t = absurd c.1
      halts_ends (faults.Key k why) c t = absurd c.1
      halts_ends (faults.NoRule k text) c t = absurd c.1
      halts_ends faults.Disk c t = tt
      halts_ends (faults.NotATable dataset at want found) c t = absurd c.1
      halts_ends (faults.Damaged dataset damage) c t = absurd c.1
      halts_ends (faults.TableFull k) c t = tt
      halts_ends (faults.TooMany k) c t = absurd c.1
      halts_ends faults.InputLimit c t = absurd c.1
      halts_ends faults.NoMemory c t = tt

      pub ended_round : {Z : Type 0} (fault : BulkFault Z) → RanAs has kept start before 0 (all ++ waits) (Err fault) l qs ks → EndedThere has kept rules given p start now (all ++ waits) l qs ks more fault
      ended_round fault c = subst (λ (n : Option Holdings). EndedThere has kept rules given p start n (all ++ waits) l qs ks more fault) (sym same) (record {
        all = all;
        waiting = waits;
        on = ended_now rules given fault p (all ++ waits) (λ past others. halts_ends fault c _);
        ends = halts_round fault c;
        sum = few_octets;
      })

  -- ---- one part after another

  module _ (rules : List Rule) (given : List Pair) (start middle : Option Holdings) (a : List Stored) (l : OpenDatasets D) (ps : List (Pass X Y)) (js : List (Job (Writing H) (Pass X Y) (FlushFault F))) (parcels : List Parcel) (p q : Position) (w : WentOn has kept rules given p q start middle a l ps js parcels) where
    pub gone_more : (now : Option Holdings) (l₂ : OpenDatasets D) (qs : List (Pass X Y)) (ks : List (Job (Writing H) (Pass X Y) (FlushFault F))) (more : List Parcel) (r : Position) → WentOn has kept rules given q r start now (w.all ++ w.waiting) l₂ qs ks more → WentOn has kept rules given p r start now a l₂ qs ks more
    gone_more now l₂ qs ks more r v = record { all = v.all; waiting = v.waiting; on = stored_more rules given p q r a (w.all ++ w.waiting) (v.all ++ v.waiting) w.on v.on; going = v.going }

    pub ended_more : {Z : Type 0} (now : Option Holdings) (l₂ : OpenDatasets D) (qs : List (Pass X Y)) (ks : List (Job (Writing H) (Pass X Y) (FlushFault F))) (more : List Parcel) (fault : BulkFault Z) → EndedThere has kept rules given q start now (w.all ++ w.waiting) l₂ qs ks more fault → EndedThere has kept rules given p start now a l₂ qs ks more fault
    ended_more now l₂ qs ks more fault v = record { all = v.all; waiting = v.waiting; on = ended_later rules given fault p q a (w.all ++ w.waiting) (v.all ++ v.waiting) w.on v.on; ends = v.ends; sum = v.sum }

    module _ (few : q.split.fed ≤ 68719476736) (now : Option Holdings) (same : now ≡ middle) (qs : List (Pass X Y)) (ks : List (Job (Writing H) (Pass X Y) (FlushFault F))) (more : List Parcel) (none : more ≡ []) where
      -- and the round was stored
      pub gone_run : (Z : Type 0) → RanAs has kept {Z = Z} start middle 0 (w.all ++ w.waiting) (Ok tt) l qs ks → WentOn has kept rules given p q start now a l qs ks more
      gone_run Z c = record {
        all = w.all ++ w.waiting;
        waiting = [];
        on = subst (StoredOn rules given p q a) (sym (append-nil (w.all ++ w.waiting))) w.on;
        going = gone_round rules given start middle w.all w.waiting l ps js parcels q few w.going now same qs ks more none Z c;
      }

      pub ended_run : {Z : Type 0} (fault : BulkFault Z) → RanAs has kept start middle 0 (w.all ++ w.waiting) (Err fault) l qs ks → EndedThere has kept rules given p start now a l qs ks more fault
      ended_run fault c = ended_more now l qs ks more fault (ended_round rules given start middle w.all w.waiting l ps js parcels q few w.going now same qs ks more none fault c)
