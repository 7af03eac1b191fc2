-- What comes first in a stream, and what follows it.
use Rattle.std.proofs.Common.{◌≡◌, ℕ, ◌+◌, ◌-◌, ◌≤◌, Bool, true, false, cond, List, [], ◌∷◌, ◌++◌, length, take, drop, Option, Some, Result, Ok, Err, refl, sym, ap, ◌∙◌, append_assoc, arith, length-append, length-take, length-drop, eqb, ltb, not}
use Rattle.std.specs.Prelude.{nat_eq}
use Rattle.std.specs.List.{starts_with}
use Rattle.std.proofs.lemmas.List.{take_at, drop_at, take-append-drop}
use Rattle.fd_bytes.specs.Numbers.{octets}
use Rattle.fd_sections.specs.declared.bad.Bad.{Bad}
use Rattle.fd_sections.specs.declared.bad.Bad.TheVariants.{Edition, Short, TooLong}
use Rattle.fd_sections.specs.Message.{Sections, grib, message_octets}
use Rattle.fd_sections.specs.Reading.{reading}
use Rattle.fd_sections.specs.Stream.{First, Unmarked, Partial, Refuses, Takes, from_mark, first_at, first, taken, gap, announced}
use Rattle.fd_sections.specs.Progress.{Progress}
use Rattle.fd_sections.specs.Splitting.{progress, answer, answers_some}
use Rattle.fd_sections.specs.declared.refusal.BadAt.{BadAt}
use Rattle.fd_sections.specs.Given.{Is}
use Rattle.fd_sections.proofs.Laws.{reading_takes}

-- a test that did not stop at another outcome
not_other : (b : Bool) (other f : First) (m : Sections) (r : List ℕ) → cond b other f ≡ Takes m r → (other ≡ Takes m r → ⊥) → (b ≡ false) × (f ≡ Takes m r)
not_other true other f m r e apart = absurd (apart e)
not_other false other f m r e apart = (refl, e)

taken_is : (read : Result Sections Bad) (rest : List ℕ) (m : Sections) (r : List ℕ) → taken read rest ≡ Takes m r → (read ≡ Ok m) × (rest ≡ r)
taken_is (Ok s) rest m r e = (cc, cc)
taken_is (Err bad) rest m r e = absurd (apart e)
  where
    apart : Refuses bad ≡ Takes m r → ⊥
    apart h = absurd cc

longer : (front rest : List ℕ) → length front ≡ 16 → 16 ≤ length (front ++ rest)
longer front rest e = omega (arith, length-append front rest)

-- a message that comes first: its octets stand at the front
pub record Leads (s : List ℕ) (m : Sections) (r : List ℕ) : Type 0 where
  pub whole : s ≡ message_octets m ++ r
  pub read : reading (message_octets m) ≡ Ok m
  pub long : 16 ≤ length (message_octets m)

pub first_at-takes : (s : List ℕ) (m : Sections) (r : List ℕ) → first_at s ≡ Takes m r → Leads s m r
unfolding first_at
first_at-takes s m r e =
    let n = announced s in
    let a = not_other (eqb (length s) 0) Unmarked _ m r e (λ h. absurd cc) in
    let b = not_other (ltb (length s) 16) (Partial (length s) 16) _ m r a.1 (λ h. absurd cc) in
    let c = not_other (not (eqb (octets 8 8 s) 2)) (Refuses (Edition (octets 8 8 s))) _ m r b.1 (λ h. absurd cc) in
    let d = not_other (ltb 134217728 (octets 9 16 s)) (Refuses (TooLong (octets 9 16 s))) _ m r c.1 (λ h. absurd cc) in
    let k = not_other (ltb (octets 9 16 s) 16) (Refuses (Short 0 (octets 9 16 s))) _ m r d.1 (λ h. absurd cc) in
    let f = not_other (ltb (length s) n) (Partial (length s) n) _ m r k.1 (λ h. absurd cc) in
    let t = taken_is (reading (take n s)) (drop n s) m r f.1 in
    let is = reading_takes (take n s) m t.0 in
    record {
      whole = sym (take-append-drop n s) ∙ ap (λ (x : List ℕ). x ++ drop n s) is.whole ∙ ap (λ (x : List ℕ). message_octets m ++ x) t.1;
      read = ap reading (sym is.whole) ∙ t.0;
      long = longer m.indicator _ is.indicator.size;
    }

one_more : (b : ℕ) (bs : List ℕ) (here : Bool) → (front : List ℕ) × (bs ≡ front ++ from_mark bs) → (front : List ℕ) × (b ∷ bs ≡ front ++ cond here (b ∷ bs) (from_mark bs))
one_more b bs true more = ([], refl)
one_more b bs false more = (b ∷ more.0, ap (λ (t : List ℕ). b ∷ t) more.1)

-- what stands before the first `GRIB`
pub before_mark : (s : List ℕ) → (front : List ℕ) × (s ≡ front ++ from_mark s)
before_mark [] = ([], refl)
before_mark (b ∷ bs) = one_more b bs (starts_with nat_eq (b ∷ bs) grib) (before_mark bs)

-- octets of which the first `at` are done with, and then come a gap, a message and a rest
pub record Parts (held : List ℕ) (at : ℕ) (m : Sections) (r : List ℕ) : Type 0 where
  pub front : List ℕ
  pub whole : held ≡ front ++ (message_octets m ++ r)
  pub skipped : length front ≡ at + gap (drop at held)
  pub read : reading (message_octets m) ≡ Ok m
  pub long : 16 ≤ length (message_octets m)

pub parts_of : (held : List ℕ) (at : ℕ) (m : Sections) (r : List ℕ) → at ≤ length held → first (drop at held) ≡ Takes m r → Parts held at m r
parts_of held at m r le e =
    let s = drop at held in
    let b = before_mark s in
    let l = first_at-takes (from_mark s) m r e in
    let size : length (take at held) ≡ at = omega (arith, length-take at held) in
    let both : length s ≡ length b.0 + length (from_mark s) = ap length b.1 ∙ length-append b.0 (from_mark s) in
    record {
      front = take at held ++ b.0;
      whole = sym (take-append-drop at held) ∙ ap (λ (t : List ℕ). take at held ++ t) (b.1 ∙ ap (λ (t : List ℕ). b.0 ++ t) l.whole) ∙ sym (append_assoc (take at held) b.0 (message_octets m ++ r));
      skipped = length-append (take at held) b.0 ∙ omega arith;
      read = l.read;
      long = l.long;
    }

pub lengths : (held front octets r : List ℕ) → held ≡ front ++ (octets ++ r) → length held ≡ length front + (length octets + length r)
lengths held front octets r e = ap length e ∙ length-append front (octets ++ r) ∙ ap (λ (n : ℕ). length front + n) (length-append octets r)

pub rest_is : (held front octets r : List ℕ) → held ≡ front ++ (octets ++ r) → drop (length held - length r) held ≡ r
rest_is held front octets r e =
    let n = lengths held front octets r e in
    let e' : held ≡ (front ++ octets) ++ r = e ∙ sym (append_assoc front octets r) in
    let k : length (front ++ octets) ≡ length held - length r = length-append front octets ∙ omega arith in
    ap (drop (length held - length r)) e' ∙ drop_at (front ++ octets) r (length held - length r) k

pub last_is : (held front octets r : List ℕ) → held ≡ front ++ (octets ++ r) → drop (length held - length r - length octets) (take (length held - length r) held) ≡ octets
last_is held front octets r e =
    let n = lengths held front octets r e in
    let e' : held ≡ (front ++ octets) ++ r = e ∙ sym (append_assoc front octets r) in
    let k : length (front ++ octets) ≡ length held - length r = length-append front octets ∙ omega arith in
    let taken : take (length held - length r) held ≡ front ++ octets = ap (take (length held - length r)) e' ∙ take_at (front ++ octets) r (length held - length r) k in
    ap (drop (length held - length r - length octets)) taken ∙ drop_at front octets (length held - length r - length octets) (omega arith)

pub advanced : (held : List ℕ) (at size given skipped fed : ℕ) (m : Sections) (r : List ℕ) → Parts held at m r → at ≤ length held → first (drop at held) ≡ Takes m r
    → record { given = given + 1; last = drop (length held - length r - length (message_octets m)) (take (length held - length r) held); skipped = skipped + (length (drop at held) - length r - length (message_octets m)); rest = drop (length held - length r) held; fed = fed }
    ≡ progress (record { given = given; last = drop (at - size) (take at held); skipped = skipped; rest = drop at held; fed = fed }) (first (drop at held))
advanced held at size given skipped fed m r k le e =
    let n = lengths held k.front (message_octets m) r k.whole in
    let s : length (drop at held) - length r - length (message_octets m) ≡ gap (drop at held) = omega (arith, length-drop at held, k.skipped) in
    rw (e, last_is held k.front (message_octets m) r k.whole, rest_is held k.front (message_octets m) r k.whole, s) refl

abbrev wanted : Bool → Result Bool BadAt
wanted b = Ok b

not_both : wanted true ≡ wanted false → ⊥
not_both h = absurd cc

-- what is shown as the last message is what `next` answers
pub shown : {X : Type 0} (view : Option X → Option Sections) (p q : Progress) (f : First) (r : Result (Option X) BadAt) → first p.rest ≡ f → Ok true ≡ answers_some p f → q ≡ progress p f → ((m : Sections) → reading q.last ≡ Ok m → Is view r (Ok (Some m))) → Is view r (answer p f)
shown view p q Unmarked r e some goes is = absurd (not_both some)
shown view p q (Partial have want) r e some goes is = absurd (not_both some)
shown view p q (Refuses bad) r e some goes is = absurd cc
shown view p q (Takes m rest) r e some goes is = is m (ap (λ (x : Progress). reading x.last) goes ∙ (first_at-takes (from_mark p.rest) m rest e).read)
