-- Steps that are gone over one after the other.
use Rattle.std.proofs.Common.{◌≡◌, ◌≤◌, ◌⊎◌, inl, inr, ℕ, true, false, List, [], ◌∷◌, ◌++◌, Option, Some, None, Result, Ok, Err, OnOk, refl, sym, ap, subst, ◌∙◌, arith, map}
use Rattle.std.proofs.lemmas.List.{map-append}
use Rattle.std.proofs.lemmas.Bool.{leb-true, leb-false}
use Rattle.fd_bytes.specs.declared.memory.NoMemory.{NoMemory}
use Rattle.fd_numbers.specs.Numbers.{IsIn}
use Rattle.fd_schema.specs.Rules.{Rule, Texts}
use Rattle.fd_schema.specs.Reading.{seen_place}
use Rattle.fd_schema.specs.declared.place.Place.{Place}
use Rattle.fd_casting.specs.declared.fault.Miscast.{Miscast}
use Rattle.fd_casting.specs.Steps.{Posed}
use Rattle.fd_casting.specs.Miscasts.{Fails, IsFirst, NoneFails}
use Rattle.fd_casting.specs.Done.{AllCan, Can, IsSoFar, before, is_behind, seen_if}
use Rattle.fd_casting.proofs.Verdicts.{can_not_fail}

-- ---- lists

pub in_either : {A : Type 0} (xs ys : List A) (x : A) → IsIn (xs ++ ys) x → IsIn xs x ⊎ IsIn ys x
in_either [] ys x h = inr h
in_either (y ∷ xs) ys x (inl e) = inl (inl e)
in_either (y ∷ xs) ys x (inr h) = elim (in_either xs ys x h) [ inl a ↦ inl (inr a) | inr b ↦ inr b ]

in_front : {A : Type 0} (xs ys : List A) (x : A) → IsIn xs x → IsIn (xs ++ ys) x
in_front [] ys x h = absurd h
in_front (y ∷ xs) ys x (inl e) = inl e
in_front (y ∷ xs) ys x (inr h) = inr (in_front xs ys x h)

in_back : {A : Type 0} (xs ys : List A) (x : A) → IsIn ys x → IsIn (xs ++ ys) x
in_back [] ys x h = h
in_back (y ∷ xs) ys x h = inr (in_back xs ys x h)

-- what stands in a list with one more stands in it, or is the last
in_more : {A : Type 0} (xs : List A) (y x : A) → IsIn (xs ++ y ∷ []) x → IsIn xs x ⊎ (y ≡ x)
in_more xs y x h = elim (in_either xs (y ∷ []) x h) [ inl a ↦ inl a | inr b ↦ elim b [ inl e ↦ inr e | inr n ↦ absurd n ] ]

before_more : (o : Option Texts) (xs ys : List Texts) → before o xs ++ ys ≡ before o (xs ++ ys)
before_more None xs ys = refl
before_more (Some t) xs ys = refl

module _ (rules : List Rule) (text : List ℕ) (messages : List (List ℕ)) where
  -- ---- steps that can be done

  pub all_more : (ps : List Posed) (p : Posed) (o : Option Texts) (ts us : List Texts) → AllCan rules text messages ps ts → Can rules text messages p.given p.step o → us ≡ ts ++ before o [] → AllCan rules text messages (ps ++ p ∷ []) us
  all_more [] p o ts us all can is = (o, [], is ∙ ap (λ (xs : List Texts). xs ++ before o []) all, can, refl)
  all_more (q ∷ ps) p o ts us all can is = (
    all.0,
    all.1 ++ before o [],
    is ∙ ap (λ (xs : List Texts). xs ++ before o []) all.2 ∙ before_more all.0 all.1 (before o []),
    all.3,
    all_more ps p o all.1 (all.1 ++ before o []) all.4 can refl,
  )

  pub none_fails : (ps : List Posed) (ts : List Texts) → AllCan rules text messages ps ts → NoneFails rules text messages ps
  none_fails [] ts all = λ p k h fails. h
  none_fails (q ∷ ps) ts all = λ p k h fails. elim h as (λ _. ⊥) [
    | inl e ↦ can_not_fail rules text messages p.given p.step all.0 k (subst (λ (x : Posed). Can rules text messages x.given x.step all.0) e all.3) fails
    | inr there ↦ none_fails ps all.1 all.4 p k there fails
  ]

  -- ---- one step more

  module _ (ps : List Posed) (p : Posed) where
    -- the lowest line stays the lowest, where the new step can be done or stands behind it
    first_stays : (line : ℕ) (kind : Miscast) → IsFirst rules text messages ps line kind → ((k : Miscast) → Fails rules text messages p.given p.step k → line ≤ p.line) → IsFirst rules text messages (ps ++ p ∷ []) line kind
    first_stays line kind first behind = record {
      at = first.at;
      there = in_front ps (p ∷ []) first.at first.there;
      line_is = first.line_is;
      fails = first.fails;
      lowest = λ q k h fails. elim (in_more ps p q h) as (λ _. line ≤ q.line) [
        | inl old ↦ first.lowest q k old fails
        | inr e ↦ subst (λ (x : Posed). line ≤ x.line) e (behind k (subst (λ (x : Posed). Fails rules text messages x.given x.step k) (sym e) fails))
      ];
    }

    pub skipped : (places : List Place) (lowest : Option (ℕ × Miscast)) → is_behind p.line lowest ≡ true → IsSoFar rules text messages ps places lowest → IsSoFar rules text messages (ps ++ p ∷ []) places lowest
    skipped places None behind so_far = absurd (cc behind)
    skipped places (Some l) behind so_far = first_stays l.0 l.1 so_far (λ k fails. leb-true l.0 p.line behind)

    pub done_more : (o : Option Place) (old new : List Place) (lowest : Option (ℕ × Miscast)) → Can rules text messages p.given p.step (seen_if o) → map seen_place new ≡ map seen_place old ++ before (seen_if o) [] → IsSoFar rules text messages ps old lowest → IsSoFar rules text messages (ps ++ p ∷ []) new lowest
    done_more o old new None can is so_far = all_more ps p (seen_if o) (map seen_place old) (map seen_place new) so_far can is
    done_more o old new (Some l) can is so_far = first_stays l.0 l.1 so_far (λ k fails. absurd (can_not_fail rules text messages p.given p.step (seen_if o) k can fails))

    pub failed_now : (places : List Place) (lowest : Option (ℕ × Miscast)) (kind : Miscast) → is_behind p.line lowest ≡ false → Fails rules text messages p.given p.step kind → IsSoFar rules text messages ps places lowest → IsFirst rules text messages (ps ++ p ∷ []) p.line kind
    failed_now places None kind behind fails so_far = record {
      at = p;
      there = in_back ps (p ∷ []) p (inl refl);
      line_is = refl;
      fails = fails;
      lowest = λ q k h f. elim (in_more ps p q h) as (λ _. p.line ≤ q.line) [
        | inl old ↦ absurd (none_fails ps (map seen_place places) so_far q k old f)
        | inr e ↦ subst (λ (x : Posed). p.line ≤ x.line) e (omega arith)
      ];
    }
    failed_now places (Some l) kind behind fails so_far = record {
      at = p;
      there = in_back ps (p ∷ []) p (inl refl);
      line_is = refl;
      fails = fails;
      lowest = λ q k h f. elim (in_more ps p q h) as (λ _. p.line ≤ q.line) [
        | inl old ↦ (let a = so_far.lowest q k old f in let b = leb-false l.0 p.line behind in omega (arith, a, b))
        | inr e ↦ subst (λ (x : Posed). p.line ≤ x.line) e (omega arith)
      ];
    }

pub place_pushed : (old : List Place) (place : Place) (new : List Place) → new ≡ old ++ place ∷ [] → map seen_place new ≡ map seen_place old ++ before (seen_if (Some place)) []
place_pushed old place new is = ap (map seen_place) is ∙ map-append seen_place old (place ∷ [])

-- a place was pushed, unless memory was refused
pub pushed_more : (rules : List Rule) (text : List ℕ) (messages : List (List ℕ)) (p : Posed) (place : Place) (old new : List Place) (lowest : Option (ℕ × Miscast)) (r : Result (Unit {0}) NoMemory) → Can rules text messages p.given p.step (Some (seen_place place)) → OnOk r (new ≡ old ++ place ∷ [])
    → OnOk r ((ps : List Posed) → IsSoFar rules text messages ps old lowest → IsSoFar rules text messages (ps ++ p ∷ []) new lowest)
pushed_more rules text messages p place old new lowest (Ok done) can is = λ ps so_far. done_more rules text messages ps p (Some place) old new lowest can (place_pushed old place new is) so_far
pushed_more rules text messages p place old new lowest (Err e) can is = tt
