-- Messages are taken, their places are looked for, and they are dealt.
use Rattle.std.proofs.Common.{◌≡◌, ◌≤◌, ◌<◌, ◌+◌, ℕ, List, [], ◌∷◌, ◌++◌, length, drop, get_or, Option, Some, None, Result, Ok, Err, refl, sym, ap, subst, ◌∙◌, arith, length-append}
use Rattle.std.proofs.lemmas.List.{drop_all, drop_more}
use Rattle.fd_disk.specs.declared.folders.FileName.{FileName}
use Rattle.fd_disk.specs.Folders.{Contents, Holdings}
use Rattle.fd_sections.specs.Message.{Sections}
use Rattle.fd_split.specs.Positions.{Position}
use Rattle.fd_key.specs.Pairs.{Pair}
use Rattle.fd_schema.specs.Rules.{IsShort, Rule}
use Rattle.fd_schema.specs.Reading.{seen_place}
use Rattle.fd_schema.specs.declared.place.Place.{Place}
use Rattle.fd_sheets.specs.declared.sheets.Sheet.{Sheet}
use Rattle.fd_sheets.specs.declared.sheets.Unplaced.{Unplaced}
use Rattle.fd_sheets.specs.Sheets.{FoundAs, IsFound, IsSheet, Passes, Placed}
use Rattle.fd_sheets.proofs.Placing.{passes_none, sheet_passes}
use Rattle.fd_turn.specs.declared.board.Pass.{Pass}
use Rattle.fd_archiver.specs.declared.fault.FlushFault.{FlushFault}
use Rattle.fd_archiver.specs.Writing.{Writing}
use Rattle.fd_library.specs.Open.{OpenDatasets}
use Rattle.fd_stored.specs.Archiving.{Stored, datasets_in, is_too_many}
use Rattle.fd_bulk.specs.declared.bulk.BulkFault.{BulkFault}
use Rattle.fd_bulk.specs.declared.bulk.BulkFault.TheVariants as faults
use Rattle.fd_shares.specs.declared.round.Job.{Job}
use Rattle.fd_shares.specs.declared.round.Parcel.{Parcel}
use Rattle.fd_bulk.specs.Crewing.{DealtAs, TooManyAt, message_at}
use Rattle.fd_bulk.specs.Halting.{OnStore}
use Rattle.fd_bulk.specs.Inputs.{EndedThere, GoesOn, Going, PlacedAs, WentOn}
use Rattle.fd_bulk.specs.Sheets.{CanDeal, ToldAs}
use Rattle.fd_bulk.proofs.Gone.{ended_dealt, ended_more, ended_placed, gone_more, gone_none, gone_nowhere, gone_one}

module _ (rules : List Rule) (given : List Pair) (p q : Position) (s : Sheet) (h : Placed rules given p (s ∷ []) q) where
  here_is : IsSheet p q h.0 s
  here_is = sheet_passes p h.1 q h.0 s h.2 h.4

  found_here : (found : Result Place Unplaced) → s.found ≡ Some found → FoundAs rules given h.0 found
  found_here found is = subst (λ (o : Option (Result Place Unplaced)). IsFound rules given h.0 o) is h.3

  never_none : s.found ≡ None → ⊥
  never_none is = subst (λ (o : Option (Result Place Unplaced)). IsFound rules given h.0 o) is h.3

-- what is told of a message that has no place is no fault of the store
placed_quiet : {Z : Type 0} (C : Type 0) (rules : List Rule) (given : List Pair) (number : ℕ) (m : Sections) (fault : BulkFault Z) → PlacedAs rules given number m (Err fault) → OnStore fault C
placed_quiet C rules given number m (faults.Input f) h = absurd h
placed_quiet C rules given number m (faults.Message at) h = absurd h
placed_quiet C rules given number m (faults.NoMap k field) h = absurd h
placed_quiet C rules given number m (faults.Cut t) h = absurd h
placed_quiet C rules given number m (faults.Key k why) h = tt
placed_quiet C rules given number m (faults.NoRule k text) h = tt
placed_quiet C rules given number m faults.Disk h = absurd h
placed_quiet C rules given number m (faults.NotATable dataset at want found) h = absurd h
placed_quiet C rules given number m (faults.Damaged dataset damage) h = absurd h
placed_quiet C rules given number m (faults.TableFull k) h = absurd h
placed_quiet C rules given number m (faults.TooMany k) h = absurd h
placed_quiet C rules given number m faults.InputLimit h = absurd h
placed_quiet C rules given number m faults.NoMemory h = tt

module _ {D H X Y F : Type 0} (has : D → Option Contents) (kept : H → Option (FileName → Option (List ℕ))) where
  -- ---- what a message that comes first has

  module _ (now : Option Holdings) (s : Sheet) (l : OpenDatasets D) (ps : List (Pass X Y)) (js : List (Job (Writing H) (Pass X Y) (FlushFault F))) (parcels : List Parcel) (c : CanDeal has kept now (s ∷ []) l ps js parcels) where
    pub first_short : (place : Place) → s.found ≡ Some (Ok place) → IsShort (seen_place place)
    first_short place is = (found_here c.rules c.given c.from c.to s c.placed (Ok place) is).0

    pub first_limit : length s.bytes ≤ 134217728
    first_limit = c.placed.2.whole.limit

    pub first_told : {Z : Type 0} (C : Type 0) (reason : Unplaced) (fault : BulkFault Z) → s.found ≡ Some (Err reason) → ToldAs s.number reason fault → OnStore fault C
    first_told C reason fault is told = placed_quiet C c.rules c.given s.number c.placed.0 fault (told c.rules c.given c.placed.0 (found_here c.rules c.given c.from c.to s c.placed (Err reason) is))

    pub first_found : s.found ≡ None → ⊥
    first_found is = never_none c.rules c.given c.from c.to s c.placed is

  module _ (rules : List Rule) (given : List Pair) (p q : Position) (start before : Option Holdings) (all waits : List Stored) (l : OpenDatasets D) (ps : List (Pass X Y)) (js : List (Job (Writing H) (Pass X Y) (FlushFault F))) (parcels : List Parcel) (few : p.split.fed ≤ 68719476736)
      (g : Going has kept start before all waits l ps js parcels p) where
    module _ {Z : Type 0} where
      -- it is dealt, or why not
      pub dealt_sheet : (s : Sheet) (place : Place) → s.found ≡ Some (Ok place) → Placed rules given p (s ∷ []) q → (now : Option Holdings) (l₂ : OpenDatasets D) (qs : List (Pass X Y)) (ks : List (Job (Writing H) (Pass X Y) (FlushFault F))) (more : List Parcel) (result : Result (Unit {0}) (BulkFault Z))
          → TooManyAt (is_too_many (datasets_in (all ++ waits)) (seen_place place).dataset) result → DealtAs has kept start now all waits (message_at (seen_place place) s.bytes) result l₂ qs ks more → GoesOn has kept rules given p q start now (all ++ waits) l₂ qs ks more result
      dealt_sheet s place found h now l₂ qs ks more (Ok done) too d =
          let k = (found_here rules given p q s h (Ok place) found).1 in
          let is = here_is rules given p q s h in
          gone_one has kept rules given start before all waits l ps js parcels p few g q h.0 s.number is.on s.bytes is.whole.octets is.whole.limit is.fits k.0 (seen_place place) k.1 k.2 now l₂ qs ks more too d
      dealt_sheet s place found h now l₂ qs ks more (Err fault) too d =
          let k = (found_here rules given p q s h (Ok place) found).1 in
          let is = here_is rules given p q s h in
          ended_dealt has kept rules given start before all waits l ps js parcels p few g q h.0 s.number is.on s.bytes is.whole.octets is.whole.limit is.fits k.0 (seen_place place) k.1 k.2 now l₂ qs ks more fault too d

      -- it has no place
      pub unplaced_sheet : (s : Sheet) (reason : Unplaced) (fault : BulkFault Z) → s.found ≡ Some (Err reason) → Placed rules given p (s ∷ []) q → ToldAs s.number reason fault → EndedThere has kept rules given p start before (all ++ waits) l ps js parcels fault
      unplaced_sheet s reason fault found h told =
          let is = here_is rules given p q s h in
          ended_placed has kept rules given start before all waits l ps js parcels p few g q h.0 s.number is.on is.from_one fault (told rules given h.0 (found_here rules given p q s h (Err reason) found))

  -- ---- one message after the other

  -- Some of the messages were dealt, and these come next.
  pub record WentBy (rules : List Rule) (given : List Pair) (p q : Position) (start now : Option Holdings) (before : List Stored) (sheets : List Sheet) (l : OpenDatasets D) (passes : List (Pass X Y)) (jobs : List (Job (Writing H) (Pass X Y) (FlushFault F))) (parcels : List Parcel) : Type 0 where
    pub middle : Position
    pub few : middle.split.fed ≤ 68719476736
    pub placed : Placed rules given middle sheets q
    pub went : WentOn has kept rules given p middle start now before l passes jobs parcels

  pub went_none : (rules : List Rule) (given : List Pair) (p q : Position) (start before : Option Holdings) (all waits : List Stored) (sheets : List Sheet) (l : OpenDatasets D) (ps : List (Pass X Y)) (js : List (Job (Writing H) (Pass X Y) (FlushFault F))) (parcels : List Parcel) → p.split.fed ≤ 68719476736
      → Placed rules given p sheets q → Going has kept start before all waits l ps js parcels p → WentBy rules given p q start before (all ++ waits) sheets l ps js parcels
  went_none rules given p q start before all waits sheets l ps js parcels few placed g = record { middle = p; few = few; placed = placed; went = gone_nowhere has kept rules given start before all waits l ps js parcels p few g }

  module _ (rules : List Rule) (given : List Pair) (p q : Position) (start middle : Option Holdings) (before : List Stored) (s : Sheet) (sheets rest : List Sheet) (is : sheets ≡ s ∷ rest) (l : OpenDatasets D) (ps : List (Pass X Y)) (js : List (Job (Writing H) (Pass X Y) (FlushFault F))) (parcels : List Parcel)
      (w : WentBy rules given p q start middle before sheets l ps js parcels) where
    abbrev here : Placed rules given w.middle (s ∷ rest) q
    here = subst (λ (ss : List Sheet). Placed rules given w.middle ss q) is w.placed

    abbrev pub next_at : Position
    next_at = here.1

    pub next_placed : Placed rules given w.middle (s ∷ []) here.1
    next_placed = (here.0, here.1, here.2, here.3, passes_none here.1)

    pub next_few : here.1.split.fed ≤ 68719476736
    next_few = let few = w.few in let came = here.2.on.is_fed in omega (arith, few, came)

    pub can_deal_next : CanDeal has kept middle (s ∷ []) l ps js parcels
    can_deal_next = record {
      rules = rules;
      given = given;
      from = w.middle;
      to = here.1;
      few = w.few;
      placed = next_placed;
      start = start;
      all = w.went.all;
      waiting = w.went.waiting;
      going = w.went.going;
    }

    pub went_more : (now : Option Holdings) (l₂ : OpenDatasets D) (qs : List (Pass X Y)) (ks : List (Job (Writing H) (Pass X Y) (FlushFault F))) (more : List Parcel) → WentOn has kept rules given w.middle here.1 start now (w.went.all ++ w.went.waiting) l₂ qs ks more
        → WentBy rules given p q start now before rest l₂ qs ks more
    went_more now l₂ qs ks more v = record {
      middle = here.1;
      few = next_few;
      placed = here.4;
      went = gone_more has kept rules given start middle before l ps js parcels p w.middle w.went now l₂ qs ks more here.1 v;
    }

    pub ended_next : {Z : Type 0} (now : Option Holdings) (l₂ : OpenDatasets D) (qs : List (Pass X Y)) (ks : List (Job (Writing H) (Pass X Y) (FlushFault F))) (more : List Parcel) (fault : BulkFault Z) → EndedThere has kept rules given w.middle start now (w.went.all ++ w.went.waiting) l₂ qs ks more fault
        → EndedThere has kept rules given p start now before l₂ qs ks more fault
    ended_next now l₂ qs ks more fault v = ended_more has kept rules given start middle before l ps js parcels p w.middle w.went now l₂ qs ks more fault v

  -- all were dealt
  pub went_all : (rules : List Rule) (given : List Pair) (p q : Position) (start now : Option Holdings) (before : List Stored) (sheets : List Sheet) (l : OpenDatasets D) (ps : List (Pass X Y)) (js : List (Job (Writing H) (Pass X Y) (FlushFault F))) (parcels : List Parcel) → sheets ≡ [] → WentBy rules given p q start now before sheets l ps js parcels
      → WentOn has kept rules given p q start now before l ps js parcels
  went_all rules given p q start now before sheets l ps js parcels none w =
      let end : Passes w.middle q = subst (λ (ss : List Sheet). Placed rules given w.middle ss q) none w.placed in
      gone_more has kept rules given start now before l ps js parcels p w.middle w.went now l ps js parcels q (gone_none has kept rules given start now w.went.all w.went.waiting l ps js parcels w.middle w.few w.went.going now q refl end)

-- ---- lists

-- what is left of a list behind some of it, where this one comes next, and where none does
pub next_of : {A : Type 0} (xs ys : List A) (x : A) → length ys < length xs → x ≡ get_or xs (length ys) x → drop (length ys) xs ≡ x ∷ drop (length (ys ++ x ∷ [])) xs
next_of xs ys x lt is = drop_more xs (length ys) x lt ∙ ap (λ y. y ∷ drop (length ys + 1) xs) (sym is) ∙ ap (λ (n : ℕ). x ∷ drop n xs) (sym (length-append ys (x ∷ [])))

pub none_of : {A : Type 0} (xs ys : List A) → length ys ≡ length xs → drop (length ys) xs ≡ []
none_of xs ys long = drop_all (length ys) xs (omega (arith, long))
