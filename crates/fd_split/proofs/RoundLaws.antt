-- The rounds that are read stand one behind the other.
use Rattle.std.proofs.Common.{◌≡◌, ℕ, suc, ◌+◌, ◌-◌, ◌<◌, ◌≤◌, Bool, true, false, cond, not, List, [], ◌∷◌, ◌++◌, length, Option, Some, None, Result, Ok, Err, All, refl, sym, ap, subst, ◌∙◌, append_assoc, arith, length-append, lit≤}
use Rattle.std.specs.Prelude.{IfSome, IsSome, ◌&&◌, ◌||◌, is_some}
use Rattle.std.proofs.lemmas.List.Elements.{All-cons, All-nil}
use Rattle.fd_sections.specs.declared.bad.Bad.{Bad}
use Rattle.fd_sections.specs.declared.bad.Bad.TheVariants.{NoEnd}
use Rattle.fd_sections.specs.Message.{IsIndicator, IsSection, end_section, if_present}
use Rattle.fd_sections.specs.Reading.{◌>>=◌, end_at, indicator_at, section_at, local_use_at, repeats}
use Rattle.fd_sections.proofs.SectionLaws.{bind_ok, end_takes, indicator_takes, local_use_takes, ok_is, section_takes}
use Rattle.fd_split.specs.Rounds.{HasRounds, IsRound, Round, Rounds, all_rounds, round_octets, rounds_octets}
use Rattle.fd_split.specs.Reading.{before, ends, grid_at, next_round, reading_rounds, round_at, round_before, rounds_at, rounds_of_at_most, skips_grid}

abbrev Rest : Type 0 → Type 0
Rest A = A × List ℕ

behind : (front : List ℕ) {xs ys : List ℕ} → xs ≡ ys → front ++ xs ≡ front ++ ys
behind front e = ap (λ (t : List ℕ). front ++ t) e

-- ---- one round

grid_by : (needed b : Bool) (rest : List ℕ) (x : Rest (Option (List ℕ))) → cond (not needed && b) (Ok (None, rest)) (section_at 3 14 rest >>= λ s. Ok (Some s.0, s.1)) ≡ Ok x → (rest ≡ if_present x.0 ++ x.1) × IfSome x.0 (IsSection 3 14) × (needed ≡ true → IsSome x.0)
grid_by true b rest x e =
    let s = bind_ok (section_at 3 14 rest) (λ s. Ok (Some s.0, s.1)) x e in
    subst (λ (y : Rest (Option (List ℕ))). (rest ≡ if_present y.0 ++ y.1) × IfSome y.0 (IsSection 3 14) × (true ≡ true → IsSome y.0)) (ok_is (Some s.0.0, s.0.1) x s.2)
    (let t = section_takes 3 14 rest s.0 (lit≤ tt) s.1 in (t.0, t.1, λ is. refl))
grid_by false true rest x e =
    subst (λ (y : Rest (Option (List ℕ))). (rest ≡ if_present y.0 ++ y.1) × IfSome y.0 (IsSection 3 14) × (false ≡ true → IsSome y.0)) (ok_is (None, rest) x e) (refl, tt, λ is. absurd cc)
grid_by false false rest x e =
    let s = bind_ok (section_at 3 14 rest) (λ s. Ok (Some s.0, s.1)) x e in
    subst (λ (y : Rest (Option (List ℕ))). (rest ≡ if_present y.0 ++ y.1) × IfSome y.0 (IsSection 3 14) × (false ≡ true → IsSome y.0)) (ok_is (Some s.0.0, s.0.1) x s.2)
    (let t = section_takes 3 14 rest s.0 (lit≤ tt) s.1 in (t.0, t.1, λ is. refl))

grid_takes : (needed : Bool) (rest : List ℕ) (x : Rest (Option (List ℕ))) → grid_at needed rest ≡ Ok x → (rest ≡ if_present x.0 ++ x.1) × IfSome x.0 (IsSection 3 14) × (needed ≡ true → IsSome x.0)
unfolding grid_at
grid_takes needed rest x e = grid_by needed (skips_grid rest) rest x e

-- section 2 comes before section 3 alone
in_order : (first : Bool) (o g : Option (List ℕ)) → ((first || is_some o) ≡ true → IsSome g) → g ≡ None → o ≡ None
in_order first o (Some s) needed e = absurd cc
in_order true o None needed e = absurd (let is : false ≡ true = needed refl in cc)
in_order false None None needed e = refl
in_order false (Some s) None needed e = absurd (let is : false ≡ true = needed refl in cc)

first_needs : (first : Bool) (o g : Option (List ℕ)) → ((first || is_some o) ≡ true → IsSome g) → first ≡ true → IsSome g
first_needs true o g needed is = needed refl
first_needs false o g needed is = absurd cc

pub six : (a b c d e f r : List ℕ) → a ++ (b ++ (c ++ (d ++ (e ++ (f ++ r))))) ≡ (a ++ (b ++ (c ++ (d ++ (e ++ f))))) ++ r
six a b c d e f r = sym (
    append_assoc a (b ++ (c ++ (d ++ (e ++ f)))) r
    ∙ behind a (append_assoc b (c ++ (d ++ (e ++ f))) r
    ∙ behind b (append_assoc c (d ++ (e ++ f)) r
    ∙ behind c (append_assoc d (e ++ f) r
    ∙ behind d (append_assoc e f r)))))

abbrev made : Option (List ℕ) → Option (List ℕ) → List ℕ → List ℕ → List ℕ → List ℕ → Round
made s2 s3 s4 s5 s6 s7 = record { local_use = s2; grid = s3; product = s4; representation = s5; bit_map = s6; values = s7 }

pub record TakesRound (first : Bool) (rest : List ℕ) (x : Rest Round) : Type 0 where
  pub whole : rest ≡ round_octets x.0 ++ x.1
  pub is : IsRound x.0
  pub grid : first ≡ true → IsSome x.0.grid

pub round_takes : (first : Bool) (rest : List ℕ) (x : Rest Round) → round_at first rest ≡ Ok x → TakesRound first rest x
unfolding round_at
round_takes first rest x e =
    let b2 = bind_ok (local_use_at rest) _ x e in
    let needed = first || is_some b2.0.0 in
    let b3 = bind_ok (grid_at needed b2.0.1) _ x b2.2 in
    let b4 = bind_ok (section_at 4 9 b3.0.1) _ x b3.2 in
    let b5 = bind_ok (section_at 5 11 b4.0.1) _ x b4.2 in
    let b6 = bind_ok (section_at 6 6 b5.0.1) _ x b5.2 in
    let b7 = bind_ok (section_at 7 5 b6.0.1) _ x b6.2 in
    let t2 = local_use_takes rest b2.0 b2.1 in
    let t3 = grid_takes needed b2.0.1 b3.0 b3.1 in
    let t4 = section_takes 4 9 b3.0.1 b4.0 (lit≤ tt) b4.1 in
    let t5 = section_takes 5 11 b4.0.1 b5.0 (lit≤ tt) b5.1 in
    let t6 = section_takes 6 6 b5.0.1 b6.0 (lit≤ tt) b6.1 in
    let t7 = section_takes 7 5 b6.0.1 b7.0 (lit≤ tt) b7.1 in
    subst (TakesRound first rest) (ok_is (made b2.0.0 b3.0.0 b4.0.0 b5.0.0 b6.0.0 b7.0.0, b7.0.1) x b7.2) (record {
      whole = (t2.0 ∙ behind (if_present b2.0.0) (t3.0 ∙ behind (if_present b3.0.0) (t4.0 ∙ behind b4.0.0 (t5.0 ∙ behind b5.0.0 (t6.0 ∙ behind b6.0.0 t7.0)))))
          ∙ six (if_present b2.0.0) (if_present b3.0.0) b4.0.0 b5.0.0 b6.0.0 b7.0.0 b7.0.1;
      is = record {
        local_use = t2.1;
        grid = t3.1;
        order = in_order first b2.0.0 b3.0.0 t3.2;
        product = t4.1;
        representation = t5.1;
        bit_map = t6.1;
        values = t7.1;
      };
      grid = first_needs first b2.0.0 b3.0.0 t3.2;
    })

-- how long a round is
pub round_long : (r : Round) → length (round_octets r) ≡ length (if_present r.local_use) + (length (if_present r.grid) + (length r.product + (length r.representation + (length r.bit_map + length r.values))))
round_long r =
    omega (
      arith,
      length-append (if_present r.local_use) (if_present r.grid ++ (r.product ++ (r.representation ++ (r.bit_map ++ r.values)))),
      length-append (if_present r.grid) (r.product ++ (r.representation ++ (r.bit_map ++ r.values))),
      length-append r.product (r.representation ++ (r.bit_map ++ r.values)),
      length-append r.representation (r.bit_map ++ r.values),
      length-append r.bit_map r.values,
    )

-- what comes behind a round is shorter
pub round_shorter : (first : Bool) (rest : List ℕ) (x : Rest Round) → round_at first rest ≡ Ok x → length x.1 + 31 ≤ length rest
round_shorter first rest x e =
    let t = round_takes first rest x e in
    let i = t.is in
    let a = i.product.long in
    let b = i.representation.long in
    let c = i.bit_map.long in
    let d = i.values.long in
    omega (arith, ap length t.whole, length-append (round_octets x.0) x.1, round_long x.0, a, b, c, d)

-- ---- the rounds behind it

before_same : (r : Result (Rest Round) Bad) (g h : List ℕ → Result (List Round) Bad) → ((x : Rest Round) → r ≡ Ok x → g x.1 ≡ h x.1) → round_before r g ≡ round_before r h
before_same (Ok x) g h same = ap (before x.0) (same x refl)
before_same (Err bad) g h same = refl

next_same : (total : ℕ) (rest : List ℕ) (g h : List ℕ → Result (List Round) Bad) → ((x : Rest Round) → round_at false rest ≡ Ok x → g x.1 ≡ h x.1) → next_round total rest g ≡ next_round total rest h
next_same total rest g h same = by (ends rest) (repeats rest)
  where
    by : (a b : Bool) → cond a (Ok []) (cond b (round_before (round_at false rest) g) (Err (NoEnd (total - length rest)))) ≡ cond a (Ok []) (cond b (round_before (round_at false rest) h) (Err (NoEnd (total - length rest))))
    by true b = refl
    by false true = before_same (round_at false rest) g h same
    by false false = refl

enough : (total : ℕ) (f g rest : List ℕ) → length rest < length f → length rest < length g → rounds_of_at_most f total rest ≡ rounds_of_at_most g total rest
enough total [] g rest p q = absurd (omega (arith, p))
enough total (x ∷ f) [] rest p q = absurd (omega (arith, q))
enough total (x ∷ f) (y ∷ g) rest p q =
    next_same total rest (rounds_of_at_most f total) (rounds_of_at_most g total) (λ z e. let lt = round_shorter false rest z e in enough total f g z.1 (omega (arith, lt, p)) (omega (arith, lt, q)))

-- what comes first, and what comes behind it
pub rounds_step : (total : ℕ) (rest : List ℕ) → rounds_at total rest ≡ next_round total rest (rounds_at total)
unfolding rounds_at
rounds_step total rest = next_same total rest (rounds_of_at_most rest total) (λ (r : List ℕ). rounds_of_at_most (0 ∷ r) total r) (λ z e. let lt = round_shorter false rest z e in enough total rest (0 ∷ z.1) z.1 (omega (arith, lt)) (omega arith))

before_ok : (r : Round) (o : Result (List Round) Bad) (rs : List Round) → before r o ≡ Ok rs → (qs : List Round) × (o ≡ Ok qs) × (r ∷ qs ≡ rs)
before_ok r (Ok qs) rs e = (qs, refl, ok_is (r ∷ qs) rs e)
before_ok r (Err bad) rs e = absurd cc

round_before_ok : (o : Result (Rest Round) Bad) (g : List ℕ → Result (List Round) Bad) (rs : List Round) → round_before o g ≡ Ok rs → (x : Rest Round) × (o ≡ Ok x) × ((qs : List Round) × (g x.1 ≡ Ok qs) × (x.0 ∷ qs ≡ rs))
round_before_ok (Ok x) g rs e = (x, refl, before_ok x.0 (g x.1) rs e)
round_before_ok (Err bad) g rs e = absurd cc

pub record TakesRounds (rest : List ℕ) (rs : List Round) : Type 0 where
  pub whole : rest ≡ rounds_octets rs ++ end_section
  pub all : All IsRound rs

at_end : (rest : List ℕ) → ends rest ≡ true → rest ≡ end_section
unfolding end_at
at_end rest is = end_takes 0 rest tt (rw is refl)

takes_at_most : (total : ℕ) (bound rest : List ℕ) (rs : List Round) → length rest < length bound → rounds_of_at_most bound total rest ≡ Ok rs → TakesRounds rest rs
takes_at_most total [] rest rs lt e = absurd (omega (arith, lt))
takes_at_most total (b ∷ bound) rest rs lt e = by (λ z qs. takes_at_most total bound z qs) (ends rest) refl (repeats rest) e
  where
    by : ((z : List ℕ) (qs : List Round) → length z < length bound → rounds_of_at_most bound total z ≡ Ok qs → TakesRounds z qs) → (a : Bool) → ends rest ≡ a → (c : Bool) → cond a (Ok []) (cond c (round_before (round_at false rest) (rounds_of_at_most bound total)) (Err (NoEnd (total - length rest)))) ≡ Ok rs → TakesRounds rest rs
    by all true is c e = subst (TakesRounds rest) (ok_is [] rs e) (record { whole = at_end rest is; all = All-nil IsRound })
    by all false is true e =
        let x = round_before_ok (round_at false rest) (rounds_of_at_most bound total) rs e in
        let t = round_takes false rest x.0 x.1 in
        let shorter = round_shorter false rest x.0 x.1 in
        let more = all x.0.1 x.2.0 (omega (arith, shorter, lt)) x.2.1 in
        subst (TakesRounds rest) x.2.2 (record {
          whole = t.whole ∙ behind (round_octets x.0.0) more.whole ∙ sym (append_assoc (round_octets x.0.0) (rounds_octets x.2.0) end_section);
          all = All-cons IsRound x.0.0 x.2.0 t.is more.all;
        })
    by all false is false e = absurd cc

pub rounds_take : (total : ℕ) (rest : List ℕ) (rs : List Round) → rounds_at total rest ≡ Ok rs → TakesRounds rest rs
unfolding rounds_at
rounds_take total rest rs e = takes_at_most total (0 ∷ rest) rest rs (omega arith) e

-- ---- the whole

pub reading_has : (m : List ℕ) (x : Rounds) → reading_rounds m ≡ Ok x → HasRounds m x
unfolding reading_rounds
reading_has m x e =
    let b0 = bind_ok (indicator_at m) _ x e in
    let b1 = bind_ok (section_at 1 21 b0.0.1) _ x b0.2 in
    let b2 = bind_ok (round_at true b1.0.1) _ x b1.2 in
    let b3 = bind_ok (rounds_at (length m) b2.0.1) _ x b2.2 in
    let t0 = indicator_takes m b0.0 b0.1 in
    let t1 = section_takes 1 21 b0.0.1 b1.0 (lit≤ tt) b1.1 in
    let t2 = round_takes true b1.0.1 b2.0 b2.1 in
    let t3 = rounds_take (length m) b2.0.1 b3.0 b3.1 in
    subst (HasRounds m) (ok_is (record { indicator = b0.0.0; identification = b1.0.0; first = b2.0.0; others = b3.0 }) x b3.2) (record {
      whole = t0.0 ∙ behind b0.0.0 (t1.0 ∙ behind b1.0.0 (t2.whole ∙ behind (round_octets b2.0.0) t3.whole ∙ sym (append_assoc (round_octets b2.0.0) (rounds_octets b3.0) end_section)));
      indicator = t0.1;
      identification = t1.1;
      grid = t2.grid refl;
      rounds = All-cons IsRound b2.0.0 b3.0 t2.is t3.all;
    })
