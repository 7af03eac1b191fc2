-- Messages that are made, as they are stored, and the places that are asked for.
use Rattle.std.proofs.Common.{◌≡◌, ◌∙◌, ◌<◌, ◌≤◌, ◌+◌, ℕ, zero, suc, Bool, true, false, true≢false, List, [], ◌∷◌, ◌++◌, append-nil, append_assoc, inl, inr, length, map, Option, Some, None, refl, sym, ap, subst, arith, cond, eqb}
use Rattle.std.specs.Prelude.{◌&&◌, Result, Ok, Err, if◌then◌else◌, is_some, nat_lt, not}
use Rattle.std.specs.List.{range_with_len}
use Rattle.std.proofs.lemmas.Bool.Decides.{nat_tests}
use Rattle.fd_disk.proofs.NameLemmas.{is_or_not}
use Rattle.fd_key.specs.declared.fault.KeyFault.{KeyFault}
use Rattle.fd_key.specs.Keys.{key_of}
use Rattle.fd_key.specs.Pairs.{Pair}
use Rattle.fd_schema.specs.Rules.{Rule, Texts, file_key, place_from}
use Rattle.fd_gen.specs.Generated.{generated_sections}
use Rattle.fd_stored.specs.Distinct.{count_distinct, is_among}
use Rattle.fd_stored.specs.Archiving.{Stored, Taken, before, datasets_in, is_too_many, keyed, stored_at, stored_in, stored_of, taken, taken_fields}
use Rattle.fd_split.specs.declared.refusal.Refusal.TheVariants.{Key}
use Rattle.fd_stored.specs.Causes.{Cause, InStream, NoRule, TooManyDatasets}
use Rattle.fd_outcome.specs.Outcome.{generated_messages}
use Rattle.fd_retrieve.proofs.TableLemmas.{count_push}
use Rattle.fd_trial.specs.Placed.{ArePlaced, IsPlacedAt}
use Rattle.fd_trial.proofs.Streaming.{made_field, taken_made}

-- each place is that of the message that is stored
abbrev pub AreStored : List Texts → List Stored → Type 0
AreStored [] [] = Unit {0}
AreStored [] (s ∷ ss) = ⊥
AreStored (p ∷ ps) [] = ⊥
AreStored (p ∷ ps) (s ∷ ss) = ((s.dataset ≡ p.dataset) × (s.pair.key ≡ file_key p)) × AreStored ps ss

stored_so : (rules : List Rule) (given : List Pair) (ds : List (List ℕ)) (n i : ℕ) (p : Texts) → IsPlacedAt rules given i p → (b : Bool) → is_too_many ds p.dataset ≡ b → stored_of rules given ds n (generated_sections i) ≡ cond b (Err TooManyDatasets) (Ok (stored_at p (generated_sections i)))
stored_so rules given ds n i p (key, keyed_is, placed) b many =
    ap (keyed rules ds n (generated_sections i)) keyed_is ∙ ap (stored_in ds (generated_sections i) key) placed
    ∙ ap (λ (x : Bool). cond x (Err TooManyDatasets) (Ok (stored_at p (generated_sections i)))) many

first_stored : (n : ℕ) (r : Result Stored Cause) (b : Bool) (s : Stored) (others : List ℕ → Taken) → r ≡ cond b (Err TooManyDatasets) (Ok s) → (before n r others).refusal ≡ None → (before n r others ≡ before n (Ok s) others)
first_stored n r true s others is none = absurd (true≢false (ap is_some (sym (ap (λ x. (before n x others).refusal) is) ∙ none)))
first_stored n r false s others is none = ap (λ x. before n x others) is

-- what is taken of so many messages, from this one on and after datasets
abbrev taken_on : List Rule → List Pair → List (List ℕ) → ℕ → ℕ → ℕ → Taken
taken_on rules given ds last next k = taken_fields rules given ds None 0 last (map made_field (range_with_len next k))

are_stored : (rules : List Rule) (given : List Pair) (ds : List (List ℕ)) (last next k : ℕ) (ps : List Texts) → ArePlaced rules given next ps → length ps ≡ k
    → (taken_on rules given ds last next k).refusal ≡ None → AreStored ps (taken_on rules given ds last next k).stored
are_stored rules given ds last next zero [] all long none = tt
are_stored rules given ds last next (suc k) [] all long none = absurd (omega (arith, long))
are_stored rules given ds last next zero (p ∷ ps) all long none = absurd (omega (arith, long))
are_stored rules given ds last next (suc k) (p ∷ ps) (one, all) long none =
    let s = stored_at p (generated_sections next) in
    let others = λ (d : List ℕ). taken_on rules given (ds ++ d ∷ []) last (next + 1) k in
    let is = first_stored (next + 1) (stored_of rules given ds (next + 1) (generated_sections next)) (is_too_many ds p.dataset) s others (stored_so rules given ds (next + 1) next p one (is_too_many ds p.dataset) refl) none in
    let less : length ps ≡ k = omega (arith, long) in
    subst (λ (t : Taken). AreStored (p ∷ ps) t.stored) (sym is)
    ((refl, refl), are_stored rules given (ds ++ p.dataset ∷ []) last (next + 1) k ps all less (sym (ap (λ (t : Taken). t.refusal) is) ∙ none))

-- where no message is refused, the places are those of what is stored
pub places_stored : (rules : List Rule) (given : List Pair) (count : ℕ) (ps : List Texts) → count ≤ 100000 → ArePlaced rules given 0 ps → length ps ≡ count → (taken rules given (generated_messages count)).refusal ≡ None → AreStored ps (taken rules given (generated_messages count)).stored
places_stored rules given count ps few all long none =
    let is = taken_made rules given count few in
    subst (λ (t : Taken). AreStored ps t.stored) (sym is) (are_stored rules given [] (0 + 1 + count) 0 count ps all long (sym (ap (λ (t : Taken). t.refusal) is) ∙ none))

-- ---- a message that is stored has a place

no_error : (c : Cause) (s : Stored) → (let r : Result Stored Cause = Err c in r ≡ Ok s) → ⊥
no_error c s e = absurd cc

stored_placed : (rules : List Rule) (given : List Pair) (ds : List (List ℕ)) (n i : ℕ) (s : Stored) → stored_of rules given ds n (generated_sections i) ≡ Ok s → (p : Texts) × IsPlacedAt rules given i p
stored_placed rules given ds n i s is = by_key (key_of (generated_sections i) given) refl is
  where
    by_place : (key : List Pair) → key_of (generated_sections i) given ≡ Ok key → (o : Option Texts) → place_from 0 rules key ≡ o → stored_in ds (generated_sections i) key o ≡ Ok s → (p : Texts) × IsPlacedAt rules given i p
    by_place key has None placed e = absurd (no_error (NoRule key) s e)
    by_place key has (Some p) placed e = (p, (key, has, placed))

    by_key : (r : Result (List Pair) KeyFault) → key_of (generated_sections i) given ≡ r → keyed rules ds n (generated_sections i) r ≡ Ok s → (p : Texts) × IsPlacedAt rules given i p
    by_key (Err fault) e k = absurd (no_error (InStream (Key n fault)) s k)
    by_key (Ok key) e k = by_place key e (place_from 0 rules key) refl k

placed_on : (rules : List Rule) (given : List Pair) (ds : List (List ℕ)) (last next k : ℕ) → (taken_on rules given ds last next k).refusal ≡ None → (i : ℕ) → next ≤ i → i < next + k → (p : Texts) × IsPlacedAt rules given i p
placed_on rules given ds last next zero none i from below = absurd (omega (arith, from, below))
placed_on rules given ds last next (suc k) none i from below = by (λ d h up less. placed_on rules given (ds ++ d ∷ []) last (next + 1) k h i up less) (stored_of rules given ds (next + 1) (generated_sections next)) refl none
  where
    others : List ℕ → Taken
    others d = taken_on rules given (ds ++ d ∷ []) last (next + 1) k

    by : ((d : List ℕ) → (others d).refusal ≡ None → next + 1 ≤ i → i < next + 1 + k → (p : Texts) × IsPlacedAt rules given i p)
        → (r : Result Stored Cause) → stored_of rules given ds (next + 1) (generated_sections next) ≡ r → (before (next + 1) r others).refusal ≡ None → (p : Texts) × IsPlacedAt rules given i p
    by later (Err c) e h = absurd (true≢false (ap is_some h))
    by later (Ok s) e h = at (eqb next i) refl
      where
        at : (b : Bool) → eqb next i ≡ b → (p : Texts) × IsPlacedAt rules given i p
        at true same =
            let is : next ≡ i = grind (arith, nat_tests, same) in
            subst (λ (x : ℕ). (p : Texts) × IsPlacedAt rules given x p) is (stored_placed rules given ds (next + 1) next s e)
        at false differs =
            let up : next + 1 ≤ i = grind (arith, nat_tests, differs, from) in
            let less : i < next + 1 + k = omega (arith, below) in
            later s.dataset h up less

-- where no message is refused, each has a place
pub all_placed : (rules : List Rule) (given : List Pair) (count : ℕ) → count ≤ 100000 → (taken rules given (generated_messages count)).refusal ≡ None → (i : ℕ) → i < count → (p : Texts) × IsPlacedAt rules given i p
all_placed rules given count few none i below =
    let is = taken_made rules given count few in
    placed_on rules given [] (0 + 1 + count) 0 count (sym (ap (λ (t : Taken). t.refusal) is) ∙ none) i (omega arith) (omega (arith, below))

-- ---- what is stored is in few datasets

ok_stored : (x y : Stored) → (let r : Result Stored Cause = Ok x in r ≡ Ok y) → x ≡ y
ok_stored x y e = cc

stored_few : (rules : List Rule) (given : List Pair) (ds : List (List ℕ)) (n i : ℕ) (s : Stored) → stored_of rules given ds n (generated_sections i) ≡ Ok s → is_too_many ds s.dataset ≡ false
stored_few rules given ds n i s is = by_key (key_of (generated_sections i) given) is
  where
    by_many : (p : Texts) (b : Bool) → is_too_many ds p.dataset ≡ b → cond b (Err TooManyDatasets) (Ok (stored_at p (generated_sections i))) ≡ Ok s → is_too_many ds s.dataset ≡ false
    by_many p true many e = absurd (no_error TooManyDatasets s e)
    by_many p false many e = let same : stored_at p (generated_sections i) ≡ s = ok_stored (stored_at p (generated_sections i)) s e in ap (λ (t : Stored). is_too_many ds t.dataset) (sym same) ∙ many

    by_place : (key : List Pair) (o : Option Texts) → stored_in ds (generated_sections i) key o ≡ Ok s → is_too_many ds s.dataset ≡ false
    by_place key None e = absurd (no_error (NoRule key) s e)
    by_place key (Some p) e = by_many p (is_too_many ds p.dataset) refl e

    by_key : (r : Result (List Pair) KeyFault) → keyed rules ds n (generated_sections i) r ≡ Ok s → is_too_many ds s.dataset ≡ false
    by_key (Err fault) k = absurd (no_error (InStream (Key n fault)) s k)
    by_key (Ok key) k = by_place key (place_from 0 rules key) k

-- one dataset more, where there aren't too many
few_here : (ds : List (List ℕ)) (d : List ℕ) → is_too_many ds d ≡ false → count_distinct ds ≤ 2048 → count_distinct (ds ++ d ∷ []) ≤ 2048
few_here ds d not_many few =
    let push = count_push ds d in
    elim (is_or_not (is_among ds d)) [
      | inl there ↦ let none = ap (λ b. count_distinct ds + (if b then 0 else 1)) there in omega (arith, push, none, few)
      | inr new ↦
          let one = ap (λ b. count_distinct ds + (if b then 0 else 1)) new in
          let room : not (nat_lt (count_distinct ds) 2048) ≡ false = sym (ap (λ b. not b && not (nat_lt (count_distinct ds) 2048)) new) ∙ not_many in
          elim (is_or_not (nat_lt (count_distinct ds) 2048)) [
            | inl less ↦ let below : count_distinct ds < 2048 = grind (arith, nat_tests, less) in omega (arith, push, one, below)
            | inr full ↦ absurd (cc (room, ap not full))
          ]
    ]

few_on : (rules : List Rule) (given : List Pair) (ds : List (List ℕ)) (last next k : ℕ) → count_distinct ds ≤ 2048 → (taken_on rules given ds last next k).refusal ≡ None → count_distinct (ds ++ datasets_in (taken_on rules given ds last next k).stored) ≤ 2048
few_on rules given ds last next zero few none = let same = ap count_distinct (append-nil ds) in omega (arith, same, few)
few_on rules given ds last next (suc k) few none = by (λ d here h. few_on rules given (ds ++ d ∷ []) last (next + 1) k here h) (stored_of rules given ds (next + 1) (generated_sections next)) refl none
  where
    others : List ℕ → Taken
    others d = taken_on rules given (ds ++ d ∷ []) last (next + 1) k

    by : ((d : List ℕ) → count_distinct (ds ++ d ∷ []) ≤ 2048 → (others d).refusal ≡ None → count_distinct ((ds ++ d ∷ []) ++ datasets_in (others d).stored) ≤ 2048)
        → (r : Result Stored Cause) → stored_of rules given ds (next + 1) (generated_sections next) ≡ r → (before (next + 1) r others).refusal ≡ None → count_distinct (ds ++ datasets_in (before (next + 1) r others).stored) ≤ 2048
    by later (Err c) e h = absurd (true≢false (ap is_some h))
    by later (Ok s) e h =
        let here = few_here ds s.dataset (stored_few rules given ds (next + 1) next s e) few in
        let rest = later s.dataset here h in
        let same = ap count_distinct (append_assoc ds (s.dataset ∷ []) (datasets_in (others s.dataset).stored)) in
        omega (arith, rest, same)

-- where no message is refused, the datasets are few enough to be opened
pub few_stored : (rules : List Rule) (given : List Pair) (count : ℕ) → count ≤ 100000 → (taken rules given (generated_messages count)).refusal ≡ None → count_distinct (datasets_in (taken rules given (generated_messages count)).stored) ≤ 2048
few_stored rules given count few none =
    let is = taken_made rules given count few in
    let all = few_on rules given [] (0 + 1 + count) 0 count (omega arith) (sym (ap (λ (t : Taken). t.refusal) is) ∙ none) in
    let same = ap (λ (t : Taken). count_distinct (datasets_in t.stored)) is in
    omega (arith, all, same)

-- the datasets of the places are those of what is stored
pub stored_datasets : (ps : List Texts) (ss : List Stored) → AreStored ps ss → map (λ (p : Texts). p.dataset) ps ≡ datasets_in ss
stored_datasets [] [] all = refl
stored_datasets [] (s ∷ ss) all = absurd all
stored_datasets (p ∷ ps) [] all = absurd all
stored_datasets (p ∷ ps) (s ∷ ss) ((same, key), all) = ap (λ d. d ∷ map (λ (q : Texts). q.dataset) ps) (sym same) ∙ ap (λ ds. s.dataset ∷ ds) (stored_datasets ps ss all)
