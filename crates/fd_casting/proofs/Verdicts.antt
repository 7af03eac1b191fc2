-- A step that can be done, and one that can't.
use Rattle.std.proofs.Common.{◌≡◌, ◌≤◌, ◌<◌, ◌+◌, ◌&&◌, ◌⊎◌, inl, inr, ℕ, zero, suc, Bool, true, false, List, [], ◌∷◌, length, slice_get, Option, Some, None, Result, Ok, Err, IfOk, IfErr, refl, sym, ap, subst, ◌∙◌, arith}
use Rattle.std.proofs.lemmas.Option.{slice_get_within}
use Rattle.fd_sections.specs.Message.{Sections, IsMessage}
use Rattle.fd_sections.proofs.Laws.{reading_again}
use Rattle.fd_key.specs.Pairs as keys
use Rattle.fd_key.specs.Keys.{key_of}
use Rattle.fd_key.specs.declared.fault.KeyFault.{KeyFault}
use Rattle.fd_key.proofs.Short.{key_short}
use Rattle.fd_schema.specs.Grammar.{IsSchema}
use Rattle.fd_schema.specs.Reading.{seen_place}
use Rattle.fd_schema.specs.declared.place.Place.{Place}
use Rattle.fd_schema.specs.Rules.{Rule, Texts, place_from}
use Rattle.fd_schema.proofs.Places.{short_place}
use Rattle.fd_request.specs.Expansion.{Keyword, expand}
use Rattle.fd_script.specs.declared.script.Step.{Step}
use Rattle.fd_script.specs.declared.script.Step.TheVariants as steps
use Rattle.fd_lanes.specs.Acts.{IsPlacedIn, message_at}
use Rattle.fd_casting.specs.declared.fault.Refusal.{Refusal}
use Rattle.fd_casting.specs.declared.fault.Refusal.TheVariants as refusals
use Rattle.fd_casting.specs.declared.fault.Miscast.{Miscast}
use Rattle.fd_casting.specs.declared.fault.Miscast.TheVariants as kinds
use Rattle.fd_casting.specs.Miscasts.{Fails, GetFails, HasNumber, IsElsewhere, IsKeyOf, IsUnruled, KeyFails, OnMiscast, PutFails}
use Rattle.fd_casting.specs.Done.{Can, CanPut, IsJudged}

there_is : {A : Type 0} (xs : List A) (i : ℕ) → i < length xs → (x : A) × (slice_get xs i ≡ Some x)
there_is [] i lt = absurd (omega (arith, lt))
there_is (x ∷ xs) zero lt = (x, refl)
there_is (x ∷ xs) (suc i) lt = there_is xs i (omega (arith, lt))

-- a number below the next one is below this one, or is it
less_or : (i n : ℕ) → i < n + 1 → (i < n) ⊎ (i ≡ n)
less_or zero zero lt = inr refl
less_or zero (suc n) lt = inl (omega arith)
less_or (suc i) zero lt = absurd (omega (arith, lt))
less_or (suc i) (suc n) lt = elim (less_or i n (omega (arith, lt))) [ inl less ↦ inl (omega (arith, less)) | inr is ↦ inr (ap suc is) ]

-- ---- the key of a message

-- a message has one key, or one reason for which it has none
one_key : (message : List ℕ) (given : List keys.Pair) (a b : Result (List keys.Pair) KeyFault) → IsKeyOf message given a → IsKeyOf message given b → a ≡ b
one_key message given a b x y =
    let first = reading_again message x.sections x.is_message in
    let second = reading_again message y.sections y.is_message in
    let same : x.sections ≡ y.sections = cc in
    sym x.is ∙ (ap (λ (s : Sections). key_of s given) same ∙ y.is)

module _ (rules : List Rule) (text : List ℕ) where
  -- a key has a place
  abbrev pub HasPlace : List keys.Pair → Type 0
  HasPlace key = (t : Texts) × (place_from 0 rules key ≡ Some t)

  unruled_not : (key : List keys.Pair) → IsUnruled rules text key → HasPlace key → ⊥
  unruled_not key none there = let a = none in let b = there.1 in absurd cc

  inside_not : (key : List keys.Pair) → IsElsewhere rules text key → IsPlacedIn rules text key → ⊥
  inside_not key other there =
      let a = other.1 in
      let b = there.1 in
      let same : other.0 ≡ there.0 = cc in
      other.2 (ap (λ (t : Texts). t.dataset) same ∙ there.2)

  -- the key at a place is one
  pub inside_at : (ks : List (List keys.Pair)) (n : ℕ) (k : List keys.Pair) (t : Texts) → slice_get ks n ≡ Some k → place_from 0 rules k ≡ Some t → t.dataset ≡ text → (key : List keys.Pair) → slice_get ks n ≡ Some key → IsPlacedIn rules text key
  inside_at ks n k t at place dataset key also =
      let same : k ≡ key = cc in
      (t, subst (λ (x : List keys.Pair). place_from 0 rules x ≡ Some t) same place, dataset)

  pub elsewhere_at : (ks : List (List keys.Pair)) (n : ℕ) (k : List keys.Pair) → slice_get ks n ≡ Some k → IsElsewhere rules text k → (key : List keys.Pair) → slice_get ks n ≡ Some key → IsElsewhere rules text key
  elsewhere_at ks n k at other key also = let same : k ≡ key = cc in subst (IsElsewhere rules text) same other

  -- ---- the keys of a request

  -- How far the keys of a request were judged.
  abbrev pub IsJudgedTo : List (List keys.Pair) → ℕ → Bool → Type 0
  IsJudgedTo ks n true = (i : ℕ) (key : List keys.Pair) → i < n → slice_get ks i ≡ Some key → IsPlacedIn rules text key
  IsJudgedTo ks n false = ((i : ℕ) × (key : List keys.Pair) × (slice_get ks i ≡ Some key) × IsElsewhere rules text key) × ((i : ℕ) (key : List keys.Pair) → i < n → slice_get ks i ≡ Some key → HasPlace key)

  has_place : (key : List keys.Pair) (b : Bool) → IsJudged rules text key b → HasPlace key
  has_place key true j = (j.0, j.1)
  has_place key false j = (j.0, j.1)

  have_places : (ks : List (List keys.Pair)) (n : ℕ) (b : Bool) → IsJudgedTo ks n b → (i : ℕ) (key : List keys.Pair) → i < n → slice_get ks i ≡ Some key → HasPlace key
  have_places ks n true j i key lt at = let p = j i key lt at in (p.0, p.1)
  have_places ks n false j i key lt at = j.1 i key lt at

  -- the key at a place below the next one is one of those before, or the one here
  below : (P : List keys.Pair → Type 0) (ks : List (List keys.Pair)) (n : ℕ) → ((i : ℕ) (key : List keys.Pair) → i < n → slice_get ks i ≡ Some key → P key) → ((key : List keys.Pair) → slice_get ks n ≡ Some key → P key)
      → (i : ℕ) (key : List keys.Pair) → i < n + 1 → slice_get ks i ≡ Some key → P key
  below P ks n before here i key lt at = elim (less_or i n lt) as (λ _. P key) [
    | inl less ↦ before i key less at
    | inr is ↦ here key (subst (λ (k : ℕ). slice_get ks k ≡ Some key) is at)
  ]

  pub judged_more : (ks : List (List keys.Pair)) (n : ℕ) (a b : Bool) → n < length ks → IsJudgedTo ks n a → ((key : List keys.Pair) → slice_get ks n ≡ Some key → IsJudged rules text key b) → IsJudgedTo ks (n + 1) (a && b)
  judged_more ks n true true lt so_far here = below (IsPlacedIn rules text) ks n so_far here
  judged_more ks n true false lt so_far here =
      let k = there_is ks n lt in
      ((n, k.0, k.1, here k.0 k.1), below HasPlace ks n (have_places ks n true so_far) (λ key at. has_place key false (here key at)))
  judged_more ks n false b lt so_far here = (so_far.0, below HasPlace ks n so_far.1 (λ key at. has_place key b (here key at)))

  pub all_inside : (request : List Keyword) (n : ℕ) → length (expand request) ≤ n → IsJudgedTo (expand request) n true → (i : ℕ) (key : List keys.Pair) → slice_get (expand request) i ≡ Some key → IsPlacedIn rules text key
  all_inside request n long j i key at = j i key (let lt = slice_get_within (expand request) i key at in omega (arith, lt, long)) at

  pub not_inside : (request : List Keyword) (n : ℕ) → length (expand request) ≤ n → IsJudgedTo (expand request) n false → GetFails rules text request kinds.OtherDataset
  not_inside request n long j = (
    λ some. unruled_not some.1 some.3 (j.1 some.0 some.1 (let lt = slice_get_within (expand request) some.0 some.1 some.2 in omega (arith, lt, long)) some.2),
    j.0,
  )

  module _ (messages : List (List ℕ)) where
    -- ---- the key of a message

    -- a message of which a reason holds for its key can't be put for that reason
    key_fails : (given : List keys.Pair) (n : ℕ) (key : List keys.Pair) (kind : Miscast) → HasNumber messages n → IsKeyOf (message_at messages n) given (Ok key) → KeyFails rules text key kind → PutFails rules text messages given n kind
    key_fails given n key kinds.Message number is fails = absurd fails
    key_fails given n key (kinds.Key fault) number is fails = absurd fails
    key_fails given n key kinds.NoRule number is fails = (number, (key, is, fails))
    key_fails given n key kinds.OtherDataset number is fails = (number, (key, is, fails))

    on_put : (given : List keys.Pair) (n : ℕ) (key : List keys.Pair) (e : Refusal) → HasNumber messages n → IsKeyOf (message_at messages n) given (Ok key) → OnMiscast e (KeyFails rules text key) → OnMiscast e (PutFails rules text messages given n)
    on_put given n key (refusals.Miscast kind) number is fails = key_fails given n key kind number is fails
    on_put given n key refusals.NoMemory number is fails = tt

    pub put_refused : (given : List keys.Pair) (n : ℕ) (key : List keys.Pair) (r : Result Place Refusal) → HasNumber messages n → IsKeyOf (message_at messages n) given (Ok key) → IfErr r (λ e. OnMiscast e (KeyFails rules text key)) → IfErr r (λ e. OnMiscast e (PutFails rules text messages given n))
    put_refused given n key (Ok place) number is fails = tt
    put_refused given n key (Err e) number is fails = on_put given n key e number is fails

    pub put_placed : (given : List keys.Pair) (n : ℕ) (key : List keys.Pair) (s : Sections) (r : Result Place Refusal) → IsSchema rules → HasNumber messages n → IsMessage (message_at messages n) s → key_of s given ≡ Ok key
        → IfOk r (λ p. place_from 0 rules key ≡ Some (seen_place p)) → IfOk r (λ p. (seen_place p).dataset ≡ text) → IfOk r (λ p. CanPut rules text messages given n (seen_place p))
    put_placed given n key s (Err e) schema number is has place dataset = tt
    put_placed given n key s (Ok p) schema number is has place dataset = record {
      number = number;
      place = record { sections = s; is_message = is; key = key; has_key = has; place = place };
      dataset = dataset;
      key = (short_place rules key (seen_place p) schema place (key_short s given key has)).key;
      bytes = is.indicator.limit;
    }

    -- ---- what can be done doesn't fail

    key_is : (given : List keys.Pair) (n : ℕ) (t : Texts) (can : CanPut rules text messages given n t) → IsKeyOf (message_at messages n) given (Ok can.place.key)
    key_is given n t can = record { sections = can.place.sections; is_message = can.place.is_message; is = can.place.has_key }

    put_not : (given : List keys.Pair) (n : ℕ) (t : Texts) (kind : Miscast) → CanPut rules text messages given n t → PutFails rules text messages given n kind → ⊥
    put_not given n t kinds.Message can fails = fails can.number
    put_not given n t (kinds.Key fault) can fails =
        let e : Ok can.place.key ≡ Err fault = one_key (message_at messages n) given (Ok can.place.key) (Err fault) (key_is given n t can) fails.1 in
        absurd cc
    put_not given n t kinds.NoRule can fails =
        let e : Ok can.place.key ≡ Ok fails.1.0 = one_key (message_at messages n) given (Ok can.place.key) (Ok fails.1.0) (key_is given n t can) fails.1.1 in
        let same : fails.1.0 ≡ can.place.key = cc in
        unruled_not can.place.key (subst (IsUnruled rules text) same fails.1.2) (t, can.place.place)
    put_not given n t kinds.OtherDataset can fails =
        let e : Ok can.place.key ≡ Ok fails.1.0 = one_key (message_at messages n) given (Ok can.place.key) (Ok fails.1.0) (key_is given n t can) fails.1.1 in
        let same : fails.1.0 ≡ can.place.key = cc in
        inside_not can.place.key (subst (IsElsewhere rules text) same fails.1.2) (t, can.place.place, can.dataset)

    get_not : (request : List Keyword) (kind : Miscast) → ((i : ℕ) (key : List keys.Pair) → slice_get (expand request) i ≡ Some key → IsPlacedIn rules text key) → GetFails rules text request kind → ⊥
    get_not request kinds.Message can fails = fails
    get_not request (kinds.Key fault) can fails = fails
    get_not request kinds.NoRule can fails = let p = can fails.0 fails.1 fails.2 in unruled_not fails.1 fails.3 (p.0, p.1)
    get_not request kinds.OtherDataset can fails = inside_not fails.1.1 fails.1.3 (can fails.1.0 fails.1.1 fails.1.2)

    pub can_not_fail : (given : List keys.Pair) (step : Step) (o : Option Texts) (kind : Miscast) → Can rules text messages given step o → Fails rules text messages given step kind → ⊥
    can_not_fail given (steps.Put n) None kind can fails = can
    can_not_fail given (steps.Put n) (Some t) kind can fails = put_not given n t kind can fails
    can_not_fail given steps.Flush o kind can fails = fails
    can_not_fail given (steps.Get request) None kind can fails = get_not request kind can fails
    can_not_fail given (steps.Get request) (Some t) kind can fails = absurd can
