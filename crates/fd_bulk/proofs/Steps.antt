-- One field after the other is dealt.
use Rattle.std.proofs.Common.{◌≡◌, ℕ, ◌+◌, Bool, true, false, List, [], ◌∷◌, ◌++◌, Some, None, Result, Ok, Err, refl, sym, ap, ◌∙◌, subst, append_assoc, append-nil, if◌then◌else◌}
use Rattle.std.specs.Prelude.{String, string_bytes}
use Rattle.std.specs.declared.alloc.Global.{Global}
use Rattle.fd_sections.specs.declared.refusal.BadAt.{BadAt}
use Rattle.fd_sections.specs.Message.{Sections}
use Rattle.fd_key.specs.Keys.{key_of}
use Rattle.fd_key.specs.Pairs.{Pair}
use Rattle.fd_schema.specs.Rules.{Rule, Texts, place_from}
use Rattle.fd_split.specs.declared.refusal.Refusal.{Refusal}
use Rattle.fd_split.specs.declared.refusal.Refusal.TheVariants as refusals
use Rattle.fd_stored.specs.Causes.{Cause, InStream, NoRule, TooManyDatasets}
use Rattle.fd_split.specs.Fields.{Numbered, refusal_at}
use Rattle.fd_split.specs.Positions.{FieldsOn, Position, RefusesNext}
use Rattle.fd_stored.specs.Archiving.{Stored, Taken, datasets_in, is_too_many, keyed, stored_at, stored_in, stored_of}
use Rattle.fd_bulk.specs.declared.bulk.BulkFault.{BulkFault}
use Rattle.fd_bulk.specs.declared.bulk.BulkFault.TheVariants as faults
use Rattle.fd_bulk.specs.Inputs.{BeginsIn, EndedOn, EndsTaken, PlacedAs}
use Rattle.fd_bulk.specs.Taking.{StoredOn, StoresOn, behind, taken_from}
use Rattle.fd_bulk.proofs.Takings.{behind_both, datasets_both, refused_one, refused_there, stored_none, stored_one, stores_more, stores_nothing}

-- ---- where a field is stored

abbrev in_place : Texts → Sections → Bool → Result Stored Cause
in_place place m b = if b then Err TooManyDatasets else Ok (stored_at place m)

module _ (rules : List Rule) (given : List Pair) (ds : List (List ℕ)) (n : ℕ) (m : Sections) (key : List Pair) (keyed_is : key_of m given ≡ Ok key) where
  by_place : (place : Texts) → place_from 0 rules key ≡ Some place → (b : Bool) → is_too_many ds place.dataset ≡ b → stored_of rules given ds n m ≡ in_place place m b
  by_place place placed b is = ap (keyed rules ds n m) keyed_is ∙ ap (stored_in ds m key) placed ∙ ap (in_place place m) is

  pub stored_is : (place : Texts) → place_from 0 rules key ≡ Some place → is_too_many ds place.dataset ≡ false → stored_of rules given ds n m ≡ Ok (stored_at place m)
  stored_is place placed few = by_place place placed false few

  pub too_many_is : (place : Texts) → place_from 0 rules key ≡ Some place → is_too_many ds place.dataset ≡ true → stored_of rules given ds n m ≡ Err TooManyDatasets
  too_many_is place placed many = by_place place placed true many

  pub unruled_is : place_from 0 rules key ≡ None → stored_of rules given ds n m ≡ Err (NoRule key)
  unruled_is unplaced = ap (keyed rules ds n m) keyed_is ∙ ap (stored_in ds m key) unplaced

module _ (rules : List Rule) (given : List Pair) where
  pub went_none : (a b : Position) (x : List Stored) → FieldsOn a b [] → StoredOn rules given a b x x
  went_none a b x t = record { new = []; adds = sym (append-nil x); on = stored_none rules given (datasets_in x) a b t }

  pub went_one : (a b : Position) (f : Numbered) (s : Stored) (x y : List Stored) → FieldsOn a b (f ∷ []) → stored_of rules given (datasets_in x) f.number f.sections ≡ Ok s → y ≡ x ++ s ∷ [] → StoredOn rules given a b x y
  went_one a b f s x y t is adds = record { new = s ∷ []; adds = adds; on = stored_one rules given (datasets_in x) a b f s t is }

  module _ (ds : List (List ℕ)) (a b : Position) (f : Numbered) (t : FieldsOn a b (f ∷ [])) where
    by_cause : (cause : Cause) → stored_of rules given ds f.number f.sections ≡ Err cause → (past : Bool) (more : List ℕ)
        → ((taken_from rules given ds a past more).stored ≡ []) × ((taken_from rules given ds a past more).refusal ≡ Some cause) × ((taken_from rules given ds a past more).next ≡ f.number)
    by_cause cause is past more =
        let whole = refused_one rules given ds a b f cause t is past more in
        (ap (λ (x : Taken). x.stored) whole, ap (λ (x : Taken). x.refusal) whole, ap (λ (x : Taken). x.next) whole)

    -- the field would be stored
    in_dataset : (name : List ℕ) (s : Stored) → stored_of rules given ds f.number f.sections ≡ Ok s → s.dataset ≡ name → (past : Bool) (more : List ℕ) → BeginsIn name (taken_from rules given ds a past more)
    in_dataset name s is named past more =
        let on = stored_one rules given ds a b f s t is in
        (s, (_, ap (λ (x : Taken). x.stored) (on.on past more), named))

    module _ {Z : Type 0} where
      -- a field has no place
      pub placed_ends : (fault : BulkFault Z) → PlacedAs rules given f.number f.sections (Err fault) → (past : Bool) (more : List ℕ) → EndsTaken fault (taken_from rules given ds a past more)
      placed_ends (faults.Input x) h past more = absurd h
      placed_ends (faults.Message at) h past more = absurd h
      placed_ends (faults.NoMap k field) h past more = absurd h
      placed_ends (faults.Cut x) h past more = absurd h
      placed_ends (faults.Key k why) h past more =
          let is : stored_of rules given ds f.number f.sections ≡ Err (InStream (refusals.Key f.number why)) = ap (keyed rules ds f.number f.sections) h.1 in
          let c = by_cause (InStream (refusals.Key f.number why)) is past more in
          (c.0, (InStream (refusals.Key f.number why), c.1, ap (λ (i : ℕ). InStream (refusals.Key i why)) (sym h.0), h.0 ∙ sym c.2))
      placed_ends (faults.NoRule k text) h past more =
          let c = by_cause (NoRule h.1.0) (unruled_is rules given ds f.number f.sections h.1.0 h.1.1 h.1.2) past more in
          (c.0, (NoRule h.1.0, c.1, (h.1.0, refl, h.1.3), h.0 ∙ sym c.2))
      placed_ends faults.Disk h past more = absurd h
      placed_ends (faults.NotATable dataset at want found) h past more = absurd h
      placed_ends (faults.Damaged dataset damage) h past more = absurd h
      placed_ends (faults.TableFull k) h past more = absurd h
      placed_ends (faults.TooMany k) h past more = absurd h
      placed_ends faults.InputLimit h past more = absurd h
      placed_ends faults.NoMemory h past more = tt

    -- its dataset isn't opened
    module _ (key : List Pair) (place : Texts) (keyed_is : key_of f.sections given ≡ Ok key) (placed : place_from 0 rules key ≡ Some place) where
      pub unopened_ends : (dataset : String Global) → string_bytes dataset ≡ place.dataset → is_too_many ds place.dataset ≡ false → (past : Bool) (more : List ℕ) → BeginsIn (string_bytes dataset) (taken_from rules given ds a past more)
      unopened_ends dataset named few past more = in_dataset (string_bytes dataset) (stored_at place f.sections) (stored_is rules given ds f.number f.sections key keyed_is place placed few) (sym named) past more

      pub too_many_ends : (Z : Type 0) (k : ℕ) → k ≡ 2049 → is_too_many ds place.dataset ≡ true → (past : Bool) (more : List ℕ) → EndsTaken {Z = Z} (faults.TooMany k) (taken_from rules given ds a past more)
      too_many_ends Z k is many past more =
          let c = by_cause TooManyDatasets (too_many_is rules given ds f.number f.sections key keyed_is place placed many) past more in
          (c.0, (TooManyDatasets, c.1, (refl, is), tt))

  -- ---- the next message is refused

  pub ends_there : (Z : Type 0) (ds : List (List ℕ)) (a : Position) (at : BadAt) → RefusesNext a (refusal_at at.number at.bad) at.number → (past : Bool) (more : List ℕ) → EndsTaken {Z = Z} (faults.Message at) (taken_from rules given ds a past more)
  ends_there Z ds a at e past more =
      let whole = refused_there rules given ds a (refusal_at at.number at.bad) at.number e past more in
      (ap (λ (x : Taken). x.stored) whole, (InStream (refusal_at at.number at.bad), ap (λ (x : Taken). x.refusal) whole, refl, sym (ap (λ (x : Taken). x.next) whole)))

  pub ends_unmapped : (Z : Type 0) (ds : List (List ℕ)) (a : Position) (n field : ℕ) → RefusesNext a (refusals.NoMap n field) n → (past : Bool) (more : List ℕ) → EndsTaken {Z = Z} (faults.NoMap n field) (taken_from rules given ds a past more)
  ends_unmapped Z ds a n field e past more =
      let whole = refused_there rules given ds a (refusals.NoMap n field) n e past more in
      (ap (λ (x : Taken). x.stored) whole, (InStream (refusals.NoMap n field), ap (λ (x : Taken). x.refusal) whole, refl, sym (ap (λ (x : Taken). x.next) whole)))

  -- ---- one part after another

  pub stored_nothing : (a : Position) (x : List Stored) → StoredOn rules given a a x x
  stored_nothing a x = record { new = []; adds = sym (append-nil x); on = stores_nothing rules given (datasets_in x) a }

  pub stored_more : (a b c : Position) (x y z : List Stored) → StoredOn rules given a b x y → StoredOn rules given b c y z → StoredOn rules given a c x z
  stored_more a b c x y z s t =
      let there : datasets_in y ≡ datasets_in x ++ datasets_in s.new = ap datasets_in s.adds ∙ datasets_both x s.new in
      record {
        new = s.new ++ t.new;
        adds = t.adds ∙ ap (λ (xs : List Stored). xs ++ t.new) s.adds ∙ append_assoc x s.new t.new;
        on = stores_more rules given (datasets_in x) a b c s.new t.new s.on (subst (λ (ds : List (List ℕ)). StoresOn rules given ds b c t.new) there t.on);
      }

  module _ {Z : Type 0} where
    -- it ends here
    pub ended_now : (e : BulkFault Z) (a : Position) (x : List Stored) → ((past : Bool) (more : List ℕ) → EndsTaken e (taken_from rules given (datasets_in x) a past more)) → EndedOn e (taken_from rules given (datasets_in x) a) x x
    ended_now e a x h = record { new = []; adds = sym (append-nil x); ends = λ past more. record { rest = taken_from rules given (datasets_in x) a past more; is = refl; ends = h past more } }

    -- fields were dealt, and it ended behind them
    pub ended_later : (e : BulkFault Z) (a b : Position) (x y z : List Stored) → StoredOn rules given a b x y → EndedOn e (taken_from rules given (datasets_in y) b) y z → EndedOn e (taken_from rules given (datasets_in x) a) x z
    ended_later e a b x y z s t =
        let there : datasets_in y ≡ datasets_in x ++ datasets_in s.new = ap datasets_in s.adds ∙ datasets_both x s.new in
        record {
          new = s.new ++ t.new;
          adds = t.adds ∙ ap (λ (xs : List Stored). xs ++ t.new) s.adds ∙ append_assoc x s.new t.new;
          ends = λ past more.
              let w = t.ends past more in
              record {
                rest = w.rest;
                is = s.on.on past more ∙ ap (λ (ds : List (List ℕ)). behind s.new (taken_from rules given ds b past more)) (sym there) ∙ ap (behind s.new) w.is ∙ behind_both s.new t.new w.rest;
                ends = w.ends;
              };
        }
