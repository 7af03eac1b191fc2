-- What has to be kept of a stream in which no message is whole.
use Rattle.std.proofs.Common.{◌≡◌, ℕ, zero, suc, ◌+◌, ◌-◌, ◌<◌, ◌≤◌, Bool, true, false, cond, List, [], ◌∷◌, ◌++◌, length, take, drop, refl, sym, ap, subst, ◌∙◌, append_assoc, arith, inl, inr, length-append, length-drop, eqb, ltb, not, add_assoc, Result, Ok, Err, None}
use Rattle.std.specs.Prelude.{nat_eq}
use Rattle.std.specs.List.{starts_with}
use Rattle.std.proofs.lemmas.Bool.{cases_Bool, eqb-true, eqb-false, ne_eqb}
use Rattle.std.proofs.lemmas.List.{take-append-drop, drop_at}
use Rattle.fd_bytes.proofs.Octets.{starts_with-append}
use Rattle.fd_sections.specs.declared.bad.Bad.{Bad}
use Rattle.fd_sections.specs.declared.bad.Bad.TheVariants.{Edition, Short, TooLong}
use Rattle.fd_bytes.specs.Numbers.{octets}
use Rattle.fd_sections.specs.Reading.{reading}
use Rattle.fd_sections.specs.Progress.{Progress}
use Rattle.fd_sections.specs.Splitting.{progress, passed, waiting, answer}
use Rattle.fd_sections.specs.Message.{Sections, grib}
use Rattle.fd_sections.specs.Stream.{First, Unmarked, Partial, Refuses, Takes, from_mark, first_at, first, gap, pending, announced, taken, Stream, beginning, stream, after}
use Rattle.fd_sections.proofs.StreamLaws.{before_mark}
use Rattle.fd_sections.proofs.Pieces.{stream-first, from_mark-append}

-- of a stream without a `GRIB` no octet begins one
unmarked_cons : (b : ℕ) (bs : List ℕ) (here : Bool) → starts_with nat_eq (b ∷ bs) grib ≡ here → cond here (b ∷ bs) (from_mark bs) ≡ [] → (starts_with nat_eq (b ∷ bs) grib ≡ false) × (from_mark bs ≡ [])
unmarked_cons b bs true e none = absurd cc
unmarked_cons b bs false e none = (e, none)

-- a mark can only begin in the last three octets, once more come
unmarked-append : (a b more : List ℕ) → from_mark (a ++ b) ≡ [] → 3 ≤ length b → from_mark (a ++ (b ++ more)) ≡ from_mark (b ++ more)
unmarked-append [] b more none long = refl
unmarked-append (x ∷ xs) b more none long =
    let u = unmarked_cons x (xs ++ b) (starts_with nat_eq (x ∷ (xs ++ b)) grib) refl none in
    let here : starts_with nat_eq ((x ∷ (xs ++ b)) ++ more) grib ≡ false = starts_with-append (x ∷ (xs ++ b)) more grib (omega (arith, length-append xs b)) ∙ u.0 in
    let apart : starts_with nat_eq (x ∷ (xs ++ (b ++ more))) grib ≡ false = ap (λ (t : List ℕ). starts_with nat_eq (x ∷ t) grib) (sym (append_assoc xs b more)) ∙ here in
    rw apart (unmarked-append xs b more u.1 long)

-- what is skipped before what is pending
pub record Skips (s : List ℕ) : Type 0 where
  pub front : List ℕ
  pub whole : s ≡ front ++ pending s
  pub mark : (more : List ℕ) → from_mark (s ++ more) ≡ from_mark (pending s ++ more)
  pub first_is : first (pending s) ≡ first s

unmarked_drop : (s : List ℕ) → from_mark s ≡ [] → from_mark (drop (length s - 3) s) ≡ []
unmarked_drop s none = dropped (length s - 3) s none
  where
    dropped : (n : ℕ) (t : List ℕ) → from_mark t ≡ [] → from_mark (drop n t) ≡ []
    dropped zero t e = e
    dropped (suc n) [] e = e
    dropped (suc n) (b ∷ bs) e = dropped n bs (unmarked_cons b bs (starts_with nat_eq (b ∷ bs) grib) refl e).1

short_or_long : (s : List ℕ) (n : ℕ) → n ≡ length s - 3 → from_mark s ≡ [] → (more : List ℕ) → from_mark (s ++ more) ≡ from_mark (drop n s ++ more)
short_or_long s zero e none more = refl
short_or_long s (suc n) e none more =
    let whole : take (suc n) s ++ drop (suc n) s ≡ s = take-append-drop (suc n) s in
    let long : 3 ≤ length (drop (suc n) s) = omega (arith, length-drop (suc n) s) in
    ap (λ (t : List ℕ). from_mark (t ++ more)) (sym whole) ∙ ap from_mark (append_assoc (take (suc n) s) (drop (suc n) s) more)
    ∙ unmarked-append (take (suc n) s) (drop (suc n) s) more (ap from_mark whole ∙ none) long

no_octets : (s : List ℕ) → eqb (length s) 0 ≡ true → s ≡ []
no_octets [] e = refl
no_octets (b ∷ bs) e = let n = eqb-true _ _ e in absurd (omega arith)

again : (b : ℕ) (bs : List ℕ) (here : Bool) → starts_with nat_eq (b ∷ bs) grib ≡ here → from_mark (from_mark bs) ≡ from_mark bs → from_mark (cond here (b ∷ bs) (from_mark bs)) ≡ cond here (b ∷ bs) (from_mark bs)
again b bs true e later = rw e refl
again b bs false e later = later

marked_again : (s : List ℕ) → from_mark (from_mark s) ≡ from_mark s
marked_again [] = refl
marked_again (b ∷ bs) = again b bs (starts_with nat_eq (b ∷ bs) grib) refl (marked_again bs)

pub skips : (s : List ℕ) → Skips s
skips s =
    elim (cases_Bool (eqb (length (from_mark s)) 0)) [
      | inl none ↦
          let empty : from_mark s ≡ [] = no_octets (from_mark s) none in
          let is : pending s ≡ drop (length s - 3) s = rw none refl in
          record {
            front = take (length s - 3) s;
            whole = sym (take-append-drop (length s - 3) s) ∙ ap (λ (t : List ℕ). take (length s - 3) s ++ t) (sym is);
            mark = λ more. short_or_long s (length s - 3) refl empty more ∙ ap (λ (t : List ℕ). from_mark (t ++ more)) (sym is);
            first_is = ap first is ∙ ap first_at (unmarked_drop s empty ∙ sym empty);
          }
      | inr some ↦
          let is : pending s ≡ from_mark s = rw some refl in
          let b = before_mark s in
          let long : 0 < length (from_mark s) = let no = eqb-false (length (from_mark s)) 0 some in omega arith in
          let long_again : 0 < length (from_mark (from_mark s)) = subst (λ (t : List ℕ). 0 < length t) (sym (marked_again s)) long in
          record {
            front = b.0;
            whole = b.1 ∙ ap (λ (t : List ℕ). b.0 ++ t) (sym is);
            mark = λ more. from_mark-append s more long ∙ ap (λ (t : List ℕ). t ++ more) (sym (marked_again s)) ∙ sym (from_mark-append (from_mark s) more long_again) ∙ ap (λ (t : List ℕ). from_mark (t ++ more)) (sym is);
            first_is = ap first is ∙ ap first_at (marked_again s);
          }
    ]

pub pending_le : (s : List ℕ) → length (pending s) ≤ length s
pending_le s = let k = skips s in omega (arith, ap length k.whole, length-append k.front (pending s))

-- a stream whose first message or end comes later
beginning-after : (others : List ℕ → Stream) (j k : ℕ) (f : First) → beginning others (j + k) f ≡ after [] j (beginning others k f)
beginning-after others j k Unmarked = refl
beginning-after others j k (Partial have want) = refl
beginning-after others j k (Refuses bad) = refl
beginning-after others j k (Takes m r) = rw (add_assoc j k (others r).skipped) refl

mark_le : (s : List ℕ) → length (from_mark s) ≤ length s
mark_le s = let b = before_mark s in omega (arith, ap length b.1, length-append b.0 (from_mark s))

-- whatever comes, the stream is that of what is pending, after the octets skipped
pub stream-pending : (s more : List ℕ) → stream (s ++ more) ≡ after [] (length s - length (pending s)) (stream (pending s ++ more))
stream-pending s more =
    let k = skips s in
    let j = length s - length (pending s) in
    let gaps : gap (s ++ more) ≡ j + gap (pending s ++ more) = omega (arith, length-append s more, length-append (pending s) more, ap length (k.mark more), pending_le s, mark_le (pending s ++ more)) in
    stream-first (s ++ more)
    ∙ ap (beginning stream (gap (s ++ more))) (ap first_at (k.mark more))
    ∙ ap (λ (n : ℕ). beginning stream n (first (pending s ++ more))) gaps
    ∙ beginning-after stream j (gap (pending s ++ more)) (first (pending s ++ more))
    ∙ ap (after [] j) (sym (stream-first (pending s ++ more)))

-- ---- what the splitter finds there

-- so many octets are skipped where this comes first and is no whole message
abbrev pub IsNotWhole : First → ℕ → List ℕ → Type 0
IsNotWhole Unmarked count s = count ≡ length s - 3
IsNotWhole (Partial have want) count s = count ≡ length s - have
IsNotWhole (Refuses bad) count s = ⊥
IsNotWhole (Takes m r) count s = ⊥

not_partial : (r : Result Sections Bad) (rest : List ℕ) (h w : ℕ) → taken r rest ≡ Partial h w → ⊥
not_partial (Ok m) rest h w e = cc
not_partial (Err bad) rest h w e = cc

-- a message that is not whole begins at the mark
partial_at : (s : List ℕ) (h w : ℕ) → first_at s ≡ Partial h w → (h ≡ length s) × (0 < length s)
unfolding first_at
partial_at s h w e = tested (eqb (length s) 0) refl (ltb (length s) 16) (not (eqb (octets 8 8 s) 2)) (ltb 134217728 (octets 9 16 s)) (ltb (octets 9 16 s) 16) (ltb (length s) (announced s)) e
  where
    tested : (b0 : Bool) → eqb (length s) 0 ≡ b0 → (b1 b2 b3 bs b4 : Bool)
        → cond b0 Unmarked (cond b1 (Partial (length s) 16) (cond b2 (Refuses (Edition (octets 8 8 s))) (cond b3 (Refuses (TooLong (octets 9 16 s))) (cond bs (Refuses (Short 0 (octets 9 16 s))) (cond b4 (Partial (length s) (announced s)) (taken (reading (take (announced s) s)) (drop (announced s) s))))))) ≡ Partial h w
        → (h ≡ length s) × (0 < length s)
    tested true z b1 b2 b3 bs b4 e = absurd cc
    tested false z true b2 b3 bs b4 e = let n = eqb-false _ _ z in (cc, omega arith)
    tested false z false true b3 bs b4 e = absurd cc
    tested false z false false true bs b4 e = absurd cc
    tested false z false false false true b4 e = absurd cc
    tested false z false false false false true e = let n = eqb-false _ _ z in (cc, omega arith)
    tested false z false false false false false e = absurd (not_partial _ _ h w e)

unmarked_at : (s : List ℕ) → first_at s ≡ Unmarked → s ≡ []
unfolding first_at
unmarked_at s e = tested (eqb (length s) 0) refl (ltb (length s) 16) (not (eqb (octets 8 8 s) 2)) (ltb 134217728 (octets 9 16 s)) (ltb (octets 9 16 s) 16) (ltb (length s) (announced s)) e
  where
    apart : (r : Result Sections Bad) (rest : List ℕ) → taken r rest ≡ Unmarked → ⊥
    apart (Ok m) rest e = cc
    apart (Err bad) rest e = cc

    tested : (b0 : Bool) → eqb (length s) 0 ≡ b0 → (b1 b2 b3 bs b4 : Bool)
        → cond b0 Unmarked (cond b1 (Partial (length s) 16) (cond b2 (Refuses (Edition (octets 8 8 s))) (cond b3 (Refuses (TooLong (octets 9 16 s))) (cond bs (Refuses (Short 0 (octets 9 16 s))) (cond b4 (Partial (length s) (announced s)) (taken (reading (take (announced s) s)) (drop (announced s) s))))))) ≡ Unmarked
        → s ≡ []
    tested true z b1 b2 b3 bs b4 e = no_octets s z
    tested false z true b2 b3 bs b4 e = absurd cc
    tested false z false true b3 bs b4 e = absurd cc
    tested false z false false true bs b4 e = absurd cc
    tested false z false false false true b4 e = absurd cc
    tested false z false false false false true e = absurd cc
    tested false z false false false false false e = absurd (apart _ _ e)

-- where no message begins all is skipped
pub nothing_marked : (s : List ℕ) → first s ≡ Unmarked → gap s ≡ length s
nothing_marked s e = omega (arith, ap length (unmarked_at (from_mark s) e))

drop_front : (front back : List ℕ) (n : ℕ) → n ≡ length (front ++ back) - length back → drop n (front ++ back) ≡ back
drop_front front back n e = drop_at front back n (omega (arith, length-append front back))

-- the octets that are skipped where the message that begins has so many octets
pub partial_pending : (s : List ℕ) (h w : ℕ) → first s ≡ Partial h w → (h ≤ length s) × (length s - h ≡ length s - length (pending s)) × (drop (length s - h) s ≡ pending s)
partial_pending s h w e =
    let p = partial_at (from_mark s) h w e in
    let is : pending s ≡ from_mark s = marked_pending s p.1 in
    let b = before_mark s in
    let len : length (pending s) ≡ h = ap length is ∙ sym p.0 in
    (omega (arith, mark_le s, p.0), omega arith, ap (λ (n : ℕ). drop n s) (omega arith) ∙ pending_back s)
  where
    marked_pending : (s : List ℕ) → 0 < length (from_mark s) → pending s ≡ from_mark s
    marked_pending s some = rw (ne_eqb (length (from_mark s)) 0 (λ z. omega arith)) refl

    pending_back : (s : List ℕ) → drop (length s - length (pending s)) s ≡ pending s
    pending_back s = let k = skips s in ap (λ (t : List ℕ). drop (length t - length (pending s)) t) k.whole ∙ drop_front k.front (pending s) _ refl

-- the octets that are skipped where no message begins
pub unmarked_pending : (s : List ℕ) → first s ≡ Unmarked → (length s - 3 ≡ length s - length (pending s)) × (drop (length s - 3) s ≡ pending s)
unmarked_pending s e =
    let none = unmarked_at (from_mark s) e in
    let is : pending s ≡ drop (length s - 3) s = rw none refl in
    (omega (arith, ap length is, length-drop (length s - 3) s), sym is)

-- so many octets were skipped, and this is left
skipped_to : (p : Progress) (left : List ℕ) (count d : ℕ) → count ≡ d → drop count p.rest ≡ left → passed p count ≡ record { given = p.given; last = []; skipped = p.skipped + d; rest = left; fed = p.fed }
skipped_to p left count d e f =
    ap (λ (t : List ℕ). record { given = p.given; last = []; skipped = p.skipped + count; rest = t; fed = p.fed }) f
    ∙ ap (λ (n : ℕ). record { given = p.given; last = []; skipped = p.skipped + n; rest = left; fed = p.fed }) e

progressed : (p : Progress) (f : First) → first p.rest ≡ f → waiting p ≡ progress p f → waiting p ≡ progress p (first p.rest)
progressed p f e same = same ∙ ap (progress p) (sym e)

-- how far the splitter goes where no message is whole
pub waits : (p q : Progress) (f : First) (count : ℕ) → first p.rest ≡ f → IsNotWhole f count p.rest → q ≡ passed p count → q ≡ progress p (first p.rest)
waits p q Unmarked count e is goes =
    let k = unmarked_pending p.rest e in
    goes ∙ skipped_to p (pending p.rest) count (length p.rest - length (pending p.rest)) (is ∙ k.0) (ap (λ (n : ℕ). drop n p.rest) is ∙ k.1) ∙ progressed p Unmarked e refl
waits p q (Partial have want) count e is goes =
    let k = partial_pending p.rest have want e in
    goes ∙ skipped_to p (pending p.rest) count (length p.rest - length (pending p.rest)) (is ∙ k.1) (ap (λ (n : ℕ). drop n p.rest) is ∙ k.2) ∙ progressed p (Partial have want) e refl
waits p q (Refuses bad) count e is goes = absurd is
waits p q (Takes m r) count e is goes = absurd is

-- where no message is whole, none is whole afterwards
pub still_waits : (p : Progress) (f : First) → first p.rest ≡ f → answer p f ≡ Ok None → answer (waiting p) (first (waiting p).rest) ≡ Ok None
still_waits p Unmarked e none = rw ((skips p.rest).first_is, e) refl
still_waits p (Partial have want) e none = rw ((skips p.rest).first_is, e) refl
still_waits p (Refuses bad) e none = absurd cc
still_waits p (Takes m r) e none = absurd (taken_none m none)
  where
    taken_none : (m : Sections) → answer p (Takes m r) ≡ Ok None → ⊥
    taken_none m h = cc

-- and nothing is given then
pub waited : (p : Progress) (f : First) → answer p f ≡ Ok None → progress p f ≡ waiting p
waited p Unmarked none = refl
waited p (Partial have want) none = refl
waited p (Refuses bad) none = absurd cc
waited p (Takes m r) none = absurd cc

pub ruleset pendings = (stream-pending)

-- after `next` answered None the stream may be ended
pub finishes : (p n : Progress) → answer p (first p.rest) ≡ Ok None → n ≡ progress p (first p.rest) → answer n (first n.rest) ≡ Ok None
finishes p n none goes =
    let is : n ≡ waiting p = goes ∙ waited p (first p.rest) none in
    subst (λ (x : Progress). answer x (first x.rest) ≡ Ok None) (sym is) (still_waits p (first p.rest) refl none)
