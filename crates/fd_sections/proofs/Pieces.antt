-- A stream that comes in pieces: what comes first stays first, whatever follows.
use Rattle.std.proofs.Common.{◌≡◌, ℕ, ◌+◌, ◌<◌, ◌≤◌, Bool, true, false, cond, List, [], ◌∷◌, ◌++◌, length, take, drop, Result, Ok, Err, refl, sym, ap, subst, ◌∙◌, append_assoc, arith, length-append, length-take, eqb, ltb, not, lit≤, add_assoc}
use Rattle.std.specs.Prelude.{nat_eq}
use Rattle.std.specs.List.{starts_with}
use Rattle.std.proofs.lemmas.Bool.{ltb-false, ltb-true, le-ltb, lt-ltb, ne_eqb}
use Rattle.std.proofs.lemmas.List.{take-append-le, drop-append-le}
use Rattle.fd_bytes.specs.Numbers.{octets}
use Rattle.fd_bytes.proofs.Octets.{octets-append, starts_with-append}
use Rattle.fd_sections.specs.declared.bad.Bad.{Bad}
use Rattle.fd_sections.specs.declared.bad.Bad.TheVariants.{Edition, Short, TooLong}
use Rattle.fd_sections.specs.Message.{Sections, grib, message_octets}
use Rattle.fd_sections.specs.Reading.{indicator_at, reading}
use Rattle.fd_sections.specs.Stream.{First, Unmarked, Partial, Refuses, Takes, from_mark, first_at, first, taken, gap, announced, Stream, Whole, Cut, Bad_end, beginning, stream_of_at_most, stream, after}
use Rattle.fd_sections.proofs.SectionLaws.{same_from_pointwise}
use Rattle.fd_sections.proofs.StreamLaws.{first_at-takes, before_mark}

-- ---- what comes first at a `GRIB`

-- a message or a refusal, which more octets leave as it is
abbrev pub IsSettled : First → Type 0
IsSettled Unmarked = ⊥
IsSettled (Partial have want) = ⊥
IsSettled (Refuses bad) = Unit {0}
IsSettled (Takes message rest) = Unit {0}

-- what comes first once more octets are in
abbrev pub followed : First → List ℕ → First
followed Unmarked more = Unmarked
followed (Partial have want) more = Partial have want
followed (Refuses bad) more = Refuses bad
followed (Takes message rest) more = Takes message (rest ++ more)

taken-more : (r : Result Sections Bad) (rest more : List ℕ) → taken r (rest ++ more) ≡ followed (taken r rest) more
taken-more (Ok m) rest more = refl
taken-more (Err bad) rest more = refl

tests : (b3 b4 bs b5 b5' : Bool) (e n w len len' : ℕ) (r r' : Result Sections Bad) (rest rest' more : List ℕ) (f : First)
    → (b5 ≡ false → b5' ≡ false) → (b5 ≡ false → r' ≡ r) → (b5 ≡ false → rest' ≡ rest ++ more)
    → cond b3 (Refuses (Edition e)) (cond b4 (Refuses (TooLong n)) (cond bs (Refuses (Short 0 n)) (cond b5 (Partial len w) (taken r rest)))) ≡ f → IsSettled f
    → cond b3 (Refuses (Edition e)) (cond b4 (Refuses (TooLong n)) (cond bs (Refuses (Short 0 n)) (cond b5' (Partial len' w) (taken r' rest')))) ≡ followed f more
tests true b4 bs b5 b5' e n w len len' r r' rest rest' more f p q s h settled = subst (λ (g : First). Refuses (Edition e) ≡ followed g more) h refl
tests false true bs b5 b5' e n w len len' r r' rest rest' more f p q s h settled = subst (λ (g : First). Refuses (TooLong n) ≡ followed g more) h refl
tests false false true b5 b5' e n w len len' r r' rest rest' more f p q s h settled = subst (λ (g : First). Refuses (Short 0 n) ≡ followed g more) h refl
tests false false false true b5' e n w len len' r r' rest rest' more f p q s h settled = absurd (subst IsSettled (sym h) settled)
tests false false false false b5' e n w len len' r r' rest rest' more f p q s h settled =
    rw (p refl, q refl, s refl) (taken-more r rest more ∙ ap (λ (g : First). followed g more) h)

longer : (s more : List ℕ) (n : ℕ) → n ≤ length s → n ≤ length (s ++ more)
longer s more n le = omega (arith, length-append s more)

not_zero : (n : ℕ) → 16 ≤ n → eqb n 0 ≡ false
not_zero n long = ne_eqb n 0 (λ e. omega arith)

starts : (b1 b2 : Bool) (k w : ℕ) (f g : First) → cond b1 Unmarked (cond b2 (Partial k w) f) ≡ g → IsSettled g → (b1 ≡ false) × (b2 ≡ false) × (f ≡ g)
starts true b2 k w f g h settled = absurd (subst IsSettled (sym h) settled)
starts false true k w f g h settled = absurd (subst IsSettled (sym h) settled)
starts false false k w f g h settled = (refl, refl, h)

pub first_at-followed : (s more : List ℕ) (f : First) → first_at s ≡ f → IsSettled f → first_at (s ++ more) ≡ followed f more
unfolding first_at
first_at-followed s more f h settled =
    let n = octets 9 16 s in
    let w = announced s in
    let a = starts (eqb (length s) 0) (ltb (length s) 16) (length s) 16 _ f h settled in
    let long : 16 ≤ length s = ltb-false _ _ a.1 in
    let len : length (s ++ more) ≡ length s + length more = length-append s more in
    let t1 : eqb (length (s ++ more)) 0 ≡ false = not_zero (length (s ++ more)) (omega arith) in
    let t2 : ltb (length (s ++ more)) 16 ≡ false = le-ltb _ _ (omega arith) in
    let t3 : octets 8 8 (s ++ more) ≡ octets 8 8 s = octets-append 8 8 s more (lit≤ tt) (lit≤ tt) (omega arith) in
    let t4 : octets 9 16 (s ++ more) ≡ n = octets-append 9 16 s more (lit≤ tt) (lit≤ tt) long in
    rw (t1, t2, t3, t4) (tests (not (eqb (octets 8 8 s) 2)) (ltb 134217728 n) (ltb n 16) (ltb (length s) w) (ltb (length (s ++ more)) w) (octets 8 8 s) n w (length s) (length (s ++ more)) (reading (take w s)) (reading (take w (s ++ more))) (drop w s) (drop w (s ++ more)) more f
    (λ e. le-ltb _ _ (longer s more w (ltb-false _ _ e)))
    (λ e. ap reading (take-append-le w s more (ltb-false _ _ e)))
    (λ e. drop-append-le w s more (ltb-false _ _ e))
    a.2 settled)

-- ---- the first `GRIB`

mark_long : (s : List ℕ) → starts_with nat_eq s grib ≡ true → 4 ≤ length s
mark_long s e =
    let same : grib ≡ take 4 s = same_from_pointwise grib (take 4 s) e in
    let len : 4 ≡ length (take 4 s) = ap length same in
    omega (arith, length-take 4 s)

marked_one : (b : ℕ) (bs : List ℕ) (here : Bool) → starts_with nat_eq (b ∷ bs) grib ≡ here → (0 < length (from_mark bs) → 4 ≤ length bs) → 0 < length (cond here (b ∷ bs) (from_mark bs)) → 4 ≤ length (b ∷ bs)
marked_one b bs true e later some = mark_long (b ∷ bs) e
marked_one b bs false e later some = omega (arith, later some)

marked_long : (s : List ℕ) → 0 < length (from_mark s) → 4 ≤ length s
marked_long [] some = absurd (omega arith)
marked_long (b ∷ bs) some = marked_one b bs (starts_with nat_eq (b ∷ bs) grib) refl (marked_long bs) some

append_one : (b : ℕ) (bs more : List ℕ) (here : Bool) → starts_with nat_eq (b ∷ bs) grib ≡ here → (0 < length (from_mark bs) → from_mark (bs ++ more) ≡ from_mark bs ++ more) → 0 < length (cond here (b ∷ bs) (from_mark bs))
    → cond (starts_with nat_eq (b ∷ (bs ++ more)) grib) (b ∷ (bs ++ more)) (from_mark (bs ++ more)) ≡ cond here (b ∷ bs) (from_mark bs) ++ more
append_one b bs more true e later some =
    let still : starts_with nat_eq (b ∷ (bs ++ more)) grib ≡ true = starts_with-append (b ∷ bs) more grib (mark_long (b ∷ bs) e) ∙ e in
    rw still refl
append_one b bs more false e later some =
    let long : 4 ≤ length bs = marked_long bs some in
    let still : starts_with nat_eq (b ∷ (bs ++ more)) grib ≡ false = starts_with-append (b ∷ bs) more grib (omega arith) ∙ e in
    rw (still, later some) refl

pub from_mark-append : (s more : List ℕ) → 0 < length (from_mark s) → from_mark (s ++ more) ≡ from_mark s ++ more
from_mark-append [] more some = absurd (omega arith)
from_mark-append (b ∷ bs) more some = append_one b bs more (starts_with nat_eq (b ∷ bs) grib) refl (from_mark-append bs more) some

-- ---- what reading the octets gives that a message says it has

short_read : (s : List ℕ) (n : ℕ) → n < 16 → n ≤ length s → reading (take n s) ≡ Err (Short 0 n)
unfolding reading indicator_at
short_read s n few fits =
    let len : length (take n s) ≡ n = omega (arith, length-take n s) in
    let t : ltb n 16 ≡ true = lt-ltb n 16 few in
    rw (len, t) refl

by_said : (b0 b1 b2 b3 bs b4 : Bool) (l e n w : ℕ) (said : Result Sections Bad) (rest : List ℕ) → b0 ≡ false → b1 ≡ false → b2 ≡ false → b3 ≡ false → b4 ≡ false → (bs ≡ true → said ≡ Err (Short 0 n))
    → cond b0 Unmarked (cond b1 (Partial l 16) (cond b2 (Refuses (Edition e)) (cond b3 (Refuses (TooLong n)) (cond bs (Refuses (Short 0 n)) (cond b4 (Partial l w) (taken said rest)))))) ≡ taken said rest
by_said b0 b1 b2 b3 true b4 l e n w said rest p0 p1 p2 p3 p4 short = rw (p0, p1, p2, p3, short refl) refl
by_said b0 b1 b2 b3 false b4 l e n w said rest p0 p1 p2 p3 p4 short = rw (p0, p1, p2, p3, p4) refl

pub said_read : (s : List ℕ) → 16 ≤ length s → octets 8 8 s ≡ 2 → octets 9 16 s ≤ length s → octets 9 16 s ≤ 134217728 → first_at s ≡ taken (reading (take (octets 9 16 s) s)) (drop (octets 9 16 s) s)
unfolding first_at
said_read s long two fits limit =
    let n = octets 9 16 s in
    by_said (eqb (length s) 0) (ltb (length s) 16) (not (eqb (octets 8 8 s) 2)) (ltb 134217728 n) (ltb n 16) (ltb (length s) n) (length s) (octets 8 8 s) n n (reading (take n s)) (drop n s)
    (not_zero (length s) long) (le-ltb _ _ long) (rw two refl) (le-ltb _ _ limit) (le-ltb _ _ fits)
    (λ short. short_read s n (ltb-true _ _ short) fits)

-- ---- what is settled

nothing : first_at [] ≡ Unmarked
unfolding first_at
nothing = refl

-- what is settled begins at a mark
settled_marked : (s : List ℕ) (f : First) → first_at s ≡ f → IsSettled f → 0 < length s
settled_marked [] f h settled = absurd (subst IsSettled (sym h ∙ nothing) settled)
settled_marked (b ∷ bs) f h settled = omega arith

pub first-followed : (s more : List ℕ) (f : First) → first s ≡ f → IsSettled f → first (s ++ more) ≡ followed f more
first-followed s more f h settled =
    ap first_at (from_mark-append s more (settled_marked (from_mark s) f h settled)) ∙ first_at-followed (from_mark s) more f h settled

mark_le : (s : List ℕ) → length (from_mark s) ≤ length s
mark_le s = let b = before_mark s in omega (arith, ap length b.1, length-append b.0 (from_mark s))

pub gap-append : (s more : List ℕ) (f : First) → first s ≡ f → IsSettled f → gap (s ++ more) ≡ gap s
gap-append s more f h settled =
    let e : length (from_mark (s ++ more)) ≡ length (from_mark s) + length more = ap length (from_mark-append s more (settled_marked (from_mark s) f h settled)) ∙ length-append (from_mark s) more in
    omega (arith, e, length-append s more, mark_le s)

-- ---- the whole stream

beginning-same : (g h : List ℕ → Stream) (k : ℕ) (f : First) → ((m : Sections) (r : List ℕ) → f ≡ Takes m r → g r ≡ h r) → beginning g k f ≡ beginning h k f
beginning-same g h k Unmarked same = refl
beginning-same g h k (Partial have want) same = refl
beginning-same g h k (Refuses bad) same = refl
beginning-same g h k (Takes m r) same = rw (same m r refl) refl

-- what follows a message is shorter
pub shorter : (s : List ℕ) (m : Sections) (r : List ℕ) → first s ≡ Takes m r → length r < length s
shorter s m r e =
    let l = first_at-takes (from_mark s) m r e in
    omega (arith, ap length l.whole, length-append (message_octets m) r, l.long, mark_le s)

nothing_comes : (x : ℕ) (bound : List ℕ) → stream_of_at_most (x ∷ bound) [] ≡ record { messages = []; skipped = 0; end = Whole }
unfolding first_at
nothing_comes x bound = refl

pub enough : (f g s : List ℕ) → length s ≤ length f → length s ≤ length g → stream_of_at_most f s ≡ stream_of_at_most g s
enough [] [] s p q = refl
enough [] (y ∷ g) [] p q = sym (nothing_comes y g)
enough [] (y ∷ g) (b ∷ bs) p q = absurd (omega arith)
enough (x ∷ f) [] [] p q = nothing_comes x f
enough (x ∷ f) [] (b ∷ bs) p q = absurd (omega arith)
enough (x ∷ f) (y ∷ g) s p q = beginning-same (stream_of_at_most f) (stream_of_at_most g) (gap s) (first s) (λ m r e. enough f g r (omega (arith, shorter s m r e)) (omega (arith, shorter s m r e)))

-- a stream is what comes first in it, and the stream of the rest
pub stream-first : (s : List ℕ) → stream s ≡ beginning stream (gap s) (first s)
unfolding stream first_at
stream-first [] = refl
stream-first (b ∷ bs) = beginning-same (stream_of_at_most bs) stream (gap (b ∷ bs)) (first (b ∷ bs)) (λ m r e. enough bs r r (omega (arith, shorter (b ∷ bs) m r e)) (omega arith))

-- once a message is whole, the stream is that message and the stream after it, whatever more comes
pub stream-takes : (s more : List ℕ) (m : Sections) (r : List ℕ) → first s ≡ Takes m r → stream (s ++ more) ≡ after (m ∷ []) (gap s) (stream (r ++ more))
stream-takes s more m r e =
    stream-first (s ++ more) ∙ rw (first-followed s more (Takes m r) e tt, gap-append s more (Takes m r) e tt) refl

-- a refusal stands, whatever more comes
pub stream-refuses : (s more : List ℕ) (bad : Bad) → first s ≡ Refuses bad → stream (s ++ more) ≡ record { messages = []; skipped = gap s; end = Bad_end bad }
stream-refuses s more bad e =
    stream-first (s ++ more) ∙ rw (first-followed s more (Refuses bad) e tt, gap-append s more (Refuses bad) e tt) refl

-- where no more comes
pub stream-ends : (s : List ℕ) → first s ≡ Unmarked → stream s ≡ record { messages = []; skipped = gap s; end = Whole }
stream-ends s e = stream-first s ∙ rw e refl

pub stream-cut : (s : List ℕ) (h w : ℕ) → first s ≡ Partial h w → stream s ≡ record { messages = []; skipped = gap s; end = Cut h w }
stream-cut s h w e = stream-first s ∙ rw e refl

pub after-after : (ms ns : List Sections) (j k : ℕ) (s : Stream) → after ms j (after ns k s) ≡ after (ms ++ ns) (j + k) s
after-after ms ns j k s = rw (append_assoc ms ns s.messages, add_assoc j k s.skipped) refl

pub ruleset streams = (said_read, stream-first, stream-takes, stream-refuses)
