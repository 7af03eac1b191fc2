-- Rounds that are read one behind the other, and fields that are cut one behind the other.
use Rattle.std.proofs.Common.{◌≡◌, ℕ, zero, suc, ◌+◌, ◌-◌, ◌<◌, ◌≤◌, Bool, true, false, cond, List, [], ◌∷◌, ◌++◌, length, map, drop, Option, Some, None, Result, Ok, Err, IfOk, OnOk, refl, sym, ap, subst, ◌∙◌, append_assoc, append-nil, arith, length-append}
use Rattle.std.specs.Prelude.{slice_index_or}
use Rattle.std.proofs.Math.Seq.{drop-cons, drop-nil}
use Rattle.fd_sections.specs.declared.bad.Bad.{Bad}
use Rattle.fd_sections.specs.declared.bad.Bad.TheVariants.{NoEnd}
use Rattle.fd_sections.specs.Message.{Sections}
use Rattle.fd_sections.specs.Reading.{repeats}
use Rattle.fd_split.specs.declared.fault.SplitFault.{SplitFault}
use Rattle.fd_split.specs.declared.fault.SplitFault.TheVariants as faults
use Rattle.fd_split.specs.declared.slices.Slices.{Slices}
use Rattle.fd_split.specs.declared.cutting.InForce.{InForce}
use Rattle.fd_split.specs.declared.cutting.Parts.{Parts}
use Rattle.fd_split.specs.Rounds.{Force, Round, field_in, fields_in, forced, lacks_by, lacks_map, no_force, unmapped}
use Rattle.fd_split.specs.Reading.{before, ends, next_round, round_at, round_before, rounds_at}
use Rattle.fd_split.specs.Seen.{AreRead, all_seen, seen, seen_force, seen_parts}
use Rattle.fd_split.proofs.RoundLaws.{round_shorter, rounds_step}

-- rounds before those that are read, if they are
abbrev pub behind_rounds : List Round → Result (List Round) Bad → Result (List Round) Bad
behind_rounds fresh (Ok rs) = Ok (fresh ++ rs)
behind_rounds fresh (Err bad) = Err bad

pub behind_nothing : (r : Result (List Round) Bad) → r ≡ behind_rounds [] r
behind_nothing (Ok rs) = refl
behind_nothing (Err bad) = refl

pub behind_one : (fresh : List Round) (x : Round) (r : Result (List Round) Bad) → behind_rounds fresh (before x r) ≡ behind_rounds (fresh ++ x ∷ []) r
behind_one fresh x (Ok rs) = ap (λ (t : List Round). Ok t) (sym (append_assoc fresh (x ∷ []) rs))
behind_one fresh x (Err bad) = refl

pub map_append : {A B : Type 0} (f : A → B) (xs ys : List A) → map f (xs ++ ys) ≡ map f xs ++ map f ys
map_append f [] ys = refl
map_append f (x ∷ xs) ys = ap (λ zs. f x ∷ zs) (map_append f xs ys)

-- Of the octets `from` some rounds were read, behind which `to` is left.
pub record GoesRounds (total : ℕ) (from to : List ℕ) (old now : List Slices) : Type 0 where
  pub fresh : List Round
  pub adds : all_seen now ≡ all_seen old ++ fresh
  pub goes : rounds_at total from ≡ behind_rounds fresh (rounds_at total to)
  pub few : length now + length to ≤ length old + length from

pub rounds_none : (total : ℕ) (from : List ℕ) (old : List Slices) → GoesRounds total from from old old
rounds_none total from old = record { fresh = []; adds = sym (append-nil (all_seen old)); goes = behind_nothing (rounds_at total from); few = omega arith }

next_is : (total : ℕ) (to : List ℕ) (x : Round × List ℕ) → ends to ≡ false → repeats to ≡ true → round_at false to ≡ Ok x → rounds_at total to ≡ before x.0 (rounds_at total x.1)
next_is total to x isnt more is = rounds_step total to ∙ rw (isnt, more, is) refl

pub rounds_next : (total : ℕ) (from to : List ℕ) (old now new : List Slices) (x : Slices) (after : List ℕ) → GoesRounds total from to old now → ends to ≡ false → repeats to ≡ true → round_at false to ≡ Ok (seen x, after) → new ≡ now ++ x ∷ []
    → GoesRounds total from after old new
rounds_next total from to old now new x after g isnt more is pushed =
    let lt = round_shorter false to (seen x, after) is in
    record {
      fresh = g.fresh ++ seen x ∷ [];
      adds = ap all_seen pushed ∙ map_append seen now (x ∷ []) ∙ ap (λ (t : List Round). t ++ seen x ∷ []) g.adds ∙ append_assoc (all_seen old) g.fresh (seen x ∷ []);
      goes = g.goes ∙ ap (behind_rounds g.fresh) (next_is total to (seen x, after) isnt more is) ∙ behind_one g.fresh (seen x) (rounds_at total after);
      few = let f = g.few in omega (arith, f, lt, ap length pushed, length-append now (x ∷ []));
    }

pub rounds_end : (total : ℕ) (from to : List ℕ) (old now : List Slices) → GoesRounds total from to old now → ends to ≡ true → AreRead (rounds_at total from) old now (Ok tt)
rounds_end total from to old now g is =
    let last : rounds_at total to ≡ Ok [] = rounds_step total to ∙ rw is refl in
    (g.fresh ++ [], g.goes ∙ ap (behind_rounds g.fresh) last, g.adds ∙ ap (λ (t : List Round). all_seen old ++ t) (sym (append-nil g.fresh)))

pub rounds_no_end : (total : ℕ) (from to : List ℕ) (old now : List Slices) → GoesRounds total from to old now → ends to ≡ false → repeats to ≡ false → rounds_at total from ≡ Err (NoEnd (total - length to))
rounds_no_end total from to old now g isnt none =
    let last : rounds_at total to ≡ Err (NoEnd (total - length to)) = rounds_step total to ∙ rw (isnt, none) refl in
    g.goes ∙ ap (behind_rounds g.fresh) last

pub rounds_bad : (total : ℕ) (from to : List ℕ) (old now : List Slices) (bad : Bad) → GoesRounds total from to old now → ends to ≡ false → repeats to ≡ true → round_at false to ≡ Err bad → rounds_at total from ≡ Err bad
rounds_bad total from to old now bad g isnt more is =
    let last : rounds_at total to ≡ Err bad = rounds_step total to ∙ rw (isnt, more, is) refl in
    g.goes ∙ ap (behind_rounds g.fresh) last

-- the first round, and those behind it
pub rounds_all : (total : ℕ) (rest after : List ℕ) (x : Slices) (one new : List Slices) (result : Result (Unit {0}) SplitFault) → round_at true rest ≡ Ok (seen x, after) → one ≡ x ∷ [] → AreRead (rounds_at total after) one new result
    → AreRead (round_before (round_at true rest) (rounds_at total)) [] new result
rounds_all total rest after x one new (Ok done) is pushed (rs, e, all) = (seen x ∷ rs, rw (is, e) refl, all ∙ ap (λ (t : List Slices). all_seen t ++ rs) pushed)
rounds_all total rest after x one new (Err (faults.Bad bad)) is pushed e = rw (is, e) refl
rounds_all total rest after x one new (Err (faults.NoMap field)) is pushed e = absurd e
rounds_all total rest after x one new (Err faults.NoMemory) is pushed e = tt

-- ---- cutting

abbrev pub first_some : Option ℕ → Option ℕ → Option ℕ
first_some (Some n) o = Some n
first_some None o = o

-- The fields of the first rounds were cut, and those behind them are left.
pub record Cuts (rounds : List Slices) (i : ℕ) (force : InForce) (lacking : Option ℕ) (parts : List Parts) : Type 0 where
  pub long : length parts ≡ i
  pub fields : (s0 s1 : List ℕ) → fields_in s0 s1 no_force (all_seen rounds) ≡ map (seen_parts s0 s1) parts ++ fields_in s0 s1 (seen_force force) (all_seen (drop i rounds))
  pub lacks : unmapped 1 no_force (all_seen rounds) ≡ first_some lacking (unmapped (i + 1) (seen_force force) (all_seen (drop i rounds)))

pub cuts_none : (rounds : List Slices) (force : InForce) → seen_force force ≡ no_force → Cuts rounds 0 force None []
cuts_none rounds force is = record {
  long = refl;
  fields = λ s0 s1. ap (λ (f : Force). fields_in s0 s1 f (all_seen rounds)) (sym is);
  lacks = ap (λ (f : Force). unmapped 1 f (all_seen rounds)) (sym is);
}

left_are : (rounds : List Slices) (i : ℕ) (x : Slices) → i < length rounds → x ≡ slice_index_or rounds i x → all_seen (drop i rounds) ≡ seen x ∷ all_seen (drop (i + 1) rounds)
left_are rounds i x lt is =
    let up : suc i ≡ i + 1 = omega arith in
    ap all_seen (drop-cons rounds i x lt ∙ ap (λ (y : Slices). y ∷ drop (suc i) rounds) (sym is) ∙ ap (λ (k : ℕ). x ∷ drop k rounds) up)

lacks_next : (lacking : Option ℕ) (lacks : Bool) (k : ℕ) (o : Option ℕ) → first_some lacking (cond lacks (Some k) o) ≡ first_some (lacks_by lacking lacks k) o
lacks_next (Some n) lacks k o = refl
lacks_next None true k o = refl
lacks_next None false k o = refl

pub cuts_next : (rounds : List Slices) (i : ℕ) (force behind : InForce) (lacking now : Option ℕ) (parts new : List Parts) (x : Slices) (p : Parts) → Cuts rounds i force lacking parts → i < length rounds → x ≡ slice_index_or rounds i x
    → ((s0 s1 : List ℕ) → seen_parts s0 s1 p ≡ field_in s0 s1 (seen_force force) (seen x)) → seen_force behind ≡ forced (seen_force force) (seen x) → now ≡ lacks_by lacking (lacks_map (seen_force force) (seen x)) (i + 1) → new ≡ parts ++ p ∷ []
    → Cuts rounds (i + 1) behind now new
cuts_next rounds i force behind lacking now parts new x p c lt is part next first pushed =
    let left = left_are rounds i x lt is in
    let f = seen_force force in
    record {
      long = ap length pushed ∙ length-append parts (p ∷ []) ∙ ap (λ (k : ℕ). k + 1) c.long;
      fields = λ s0 s1.
          c.fields s0 s1
          ∙ ap (λ (t : List Round). map (seen_parts s0 s1) parts ++ fields_in s0 s1 f t) left
          ∙ ap (λ (s : Sections). map (seen_parts s0 s1) parts ++ (s ∷ fields_in s0 s1 (forced f (seen x)) (all_seen (drop (i + 1) rounds)))) (sym (part s0 s1))
          ∙ ap (λ (g : Force). map (seen_parts s0 s1) parts ++ (seen_parts s0 s1 p ∷ fields_in s0 s1 g (all_seen (drop (i + 1) rounds)))) (sym next)
          ∙ sym (append_assoc (map (seen_parts s0 s1) parts) (seen_parts s0 s1 p ∷ []) (fields_in s0 s1 (seen_force behind) (all_seen (drop (i + 1) rounds))))
          ∙ ap (λ (t : List Sections). t ++ fields_in s0 s1 (seen_force behind) (all_seen (drop (i + 1) rounds))) (sym (map_append (seen_parts s0 s1) parts (p ∷ [])) ∙ ap (map (seen_parts s0 s1)) (sym pushed));
      lacks =
          c.lacks
          ∙ ap (λ (t : List Round). first_some lacking (unmapped (i + 1) f t)) left
          ∙ lacks_next lacking (lacks_map f (seen x)) (i + 1) (unmapped (i + 1 + 1) (forced f (seen x)) (all_seen (drop (i + 1) rounds)))
          ∙ ap (λ (o : Option ℕ). first_some o (unmapped (i + 1 + 1) (forced f (seen x)) (all_seen (drop (i + 1) rounds)))) (sym first)
          ∙ ap (λ (g : Force). first_some now (unmapped (i + 1 + 1) g (all_seen (drop (i + 1) rounds)))) (sym next);
    }

none_left : {A : Type 0} (xs : List A) (i : ℕ) → length xs ≤ i → drop i xs ≡ []
none_left [] i le = drop-nil i
none_left (x ∷ xs) zero le = absurd (omega (arith, le))
none_left (x ∷ xs) (suc i) le = none_left xs i (omega (arith, le))

pub cuts_all : (rounds : List Slices) (i : ℕ) (force : InForce) (lacking : Option ℕ) (parts : List Parts) → Cuts rounds i force lacking parts → length rounds ≤ i → (s0 s1 : List ℕ) → map (seen_parts s0 s1) parts ≡ fields_in s0 s1 no_force (all_seen rounds)
cuts_all rounds i force lacking parts c le s0 s1 =
    sym (c.fields s0 s1 ∙ ap (λ (t : List Slices). map (seen_parts s0 s1) parts ++ fields_in s0 s1 (seen_force force) (all_seen t)) (none_left rounds i le) ∙ append-nil (map (seen_parts s0 s1) parts))

first_or_none : (o : Option ℕ) → first_some o None ≡ o
first_or_none None = refl
first_or_none (Some n) = refl

pub cuts_lacks : (rounds : List Slices) (i : ℕ) (force : InForce) (lacking : Option ℕ) (parts : List Parts) → Cuts rounds i force lacking parts → length rounds ≤ i → lacking ≡ unmapped 1 no_force (all_seen rounds)
cuts_lacks rounds i force lacking parts c le =
    sym (c.lacks ∙ ap (λ (t : List Slices). first_some lacking (unmapped (i + 1) (seen_force force) (all_seen t))) (none_left rounds i le) ∙ first_or_none lacking)
