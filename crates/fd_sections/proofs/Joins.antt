-- What the pieces that came and the messages that were given tell of the whole stream.
use Rattle.std.proofs.Common.{◌≡◌, ℕ, ◌+◌, ◌-◌, ◌<◌, List, [], ◌∷◌, ◌++◌, length, Option, Some, None, Result, Ok, Err, refl, sym, ap, subst, ◌∙◌, append_assoc, append-nil, arith, length-append}
use Rattle.std.specs.Option.{option_map}
use Rattle.fd_sections.specs.declared.bad.Bad.{Bad}
use Rattle.fd_sections.specs.declared.refusal.BadAt.{BadAt}
use Rattle.fd_sections.specs.declared.refusal.Truncated.{Truncated}
use Rattle.fd_sections.specs.Given.{Is}
use Rattle.fd_sections.specs.Message.{IsMessage, Sections, message_octets}
use Rattle.fd_sections.specs.Progress.{Progress}
use Rattle.fd_sections.specs.Splitting.{answer, fed, finished, progress, start, waiting}
use Rattle.fd_sections.specs.Stream.{Stream, First, Unmarked, Partial, Refuses, Takes, Whole, Cut, Bad_end, after, first, gap, pending, stream, from_mark}
use Rattle.fd_sections.specs.Joining.{EndsAs, GoesTo, IsRefusedStream, IsStream, IsWaiting, RefusesAs, SplitsOn}
use Rattle.fd_sections.proofs.Laws.{reading_takes}
use Rattle.fd_sections.proofs.StreamLaws.{first_at-takes}
use Rattle.fd_sections.proofs.Pieces.{after-after, shorter, stream-cut, stream-ends, stream-refuses, stream-takes}
use Rattle.fd_sections.proofs.Pending.{nothing_marked, still_waits, stream-pending}

-- the same, behind so many skipped octets
abbrev skipping : Stream → ℕ → Stream
skipping s k = record { messages = s.messages; skipped = k; end = s.end }

behind_nothing : (s : Stream) → s ≡ after [] 0 s
behind_nothing s = let e : s.skipped ≡ 0 + s.skipped = omega arith in ap (skipping s) e

-- ---- one step

-- nothing came, and nothing was given
pub splits_nothing : (p : Progress) → SplitsOn p p [] []
splits_nothing p = record { fed = omega arith; given = omega arith; passed = 0; skipped = omega arith; joins = λ more. behind_nothing (stream (p.rest ++ more)) }

-- a piece came
pub splits_fed : (p : Progress) (piece : List ℕ) → SplitsOn p (fed p piece) piece []
splits_fed p piece = record {
  fed = refl;
  given = omega arith;
  passed = 0;
  skipped = omega arith;
  joins = λ more. ap stream (sym (append_assoc p.rest piece more)) ∙ behind_nothing (stream ((p.rest ++ piece) ++ more));
}

-- a message was given
pub splits_taken : (p : Progress) (m : Sections) (r : List ℕ) → first p.rest ≡ Takes m r → SplitsOn p (progress p (Takes m r)) [] (m ∷ [])
splits_taken p m r e = record { fed = omega arith; given = refl; passed = gap p.rest; skipped = refl; joins = λ more. stream-takes p.rest more m r e }

-- no message is whole, and octets were skipped
pub splits_waiting : (p : Progress) → SplitsOn p (waiting p) [] []
splits_waiting p = record { fed = omega arith; given = omega arith; passed = length p.rest - length (pending p.rest); skipped = refl; joins = λ more. stream-pending p.rest more }

pub refuses_as : (p : Progress) (bad : Bad) → first p.rest ≡ Refuses bad → RefusesAs p (record { number = p.given + 1; bad = bad })
refuses_as p bad e = record { number = refl; passed = gap p.rest; joins = λ more. stream-refuses p.rest more bad e }

-- what `next` answers, and how far it goes
goes_by : (p : Progress) (f : First) → first p.rest ≡ f → GoesTo (λ m. m) p (progress p f) (answer p f)
goes_by p Unmarked e = (splits_waiting p, still_waits p Unmarked e refl)
goes_by p (Partial have want) e = (splits_waiting p, still_waits p (Partial have want) e refl)
goes_by p (Refuses bad) e = (refl, refuses_as p bad e)
goes_by p (Takes m r) e = (splits_taken p m r e, shorter p.rest m r e)

pub goes_to : (p : Progress) → GoesTo (λ m. m) p (progress p (first p.rest)) (answer p (first p.rest))
goes_to p = goes_by p (first p.rest) refl

seen_as : {X : Type 0} (view : X → Sections) (p q : Progress) (r : Result (Option X) BadAt) (a : Result (Option Sections) BadAt) → GoesTo (λ m. m) p q a → Is (option_map view) r a → GoesTo view p q r
seen_as view p q (Ok (Some x)) a g is = subst (GoesTo (λ m. m) p q) is g
seen_as view p q (Ok None) a g is = subst (GoesTo (λ m. m) p q) is g
seen_as view p q (Err at) a g is = subst (GoesTo (λ m. m) p q) is g

-- the same of what a call returned
pub goes_so : {X : Type 0} (view : X → Sections) (p q : Progress) (r : Result (Option X) BadAt) → q ≡ progress p (first p.rest) → Is (option_map view) r (answer p (first p.rest)) → GoesTo view p q r
goes_so view p q r goes is = seen_as view p q r (answer p (first p.rest)) (subst (λ (x : Progress). GoesTo (λ m. m) p x (answer p (first p.rest))) (sym goes) (goes_to p)) is

-- a message was answered
pub takes_so : (p q : Progress) (m : Sections) → answer p (first p.rest) ≡ Ok (Some m) → q ≡ progress p (first p.rest) → SplitsOn p q [] (m ∷ []) × (length q.rest < length p.rest)
takes_so p q m e goes = goes_so (λ (x : Sections). x) p q (Ok (Some m)) goes e

-- none was
pub waits_so : (p q : Progress) → answer p (first p.rest) ≡ Ok None → q ≡ progress p (first p.rest) → SplitsOn p q [] [] × IsWaiting q
waits_so p q e goes = goes_so (λ (x : Sections). x) p q (Ok None) goes e

-- a refusal was
pub refuses_so : (p : Progress) (at : BadAt) → answer p (first p.rest) ≡ Err at → RefusesAs p at
refuses_so p at e = (goes_so (λ (x : Sections). x) p (progress p (first p.rest)) (Err at) refl e).1

-- the message that was answered comes first
abbrev answers : Option Sections → Result (Option Sections) BadAt
answers o = Ok o

other : {m : Sections} → answers None ≡ answers (Some m) → ⊥
other e = absurd cc

same_message : (m n : Sections) → answers (Some m) ≡ answers (Some n) → m ≡ n
same_message m n e = cc

pub answered : (p : Progress) (f : First) (m : Sections) → answer p f ≡ Ok (Some m) → (r : List ℕ) × (f ≡ Takes m r)
answered p Unmarked m e = absurd (other e)
answered p (Partial have want) m e = absurd (other e)
answered p (Refuses bad) m e = absurd cc
answered p (Takes n r) m e = (r, ap (λ (x : Sections). Takes x r) (same_message n m e))

-- and its octets are a message
pub message_so : (p : Progress) (m : Sections) → answer p (first p.rest) ≡ Ok (Some m) → IsMessage (message_octets m) m
message_so p m e =
    let t = answered p (first p.rest) m e in
    reading_takes (message_octets m) m (first_at-takes (from_mark p.rest) m t.0 t.1).read

-- ---- one step behind another

pub splits_more : (p q r : Progress) (a b : List ℕ) (ms ns : List Sections) → SplitsOn p q a ms → SplitsOn q r b ns → SplitsOn p r (a ++ b) (ms ++ ns)
splits_more p q r a b ms ns s t = record {
  fed = let x = s.fed in let y = t.fed in omega (arith, x, y, length-append a b);
  given = let x = s.given in let y = t.given in omega (arith, x, y, length-append ms ns);
  passed = s.passed + t.passed;
  skipped = let x = s.skipped in let y = t.skipped in omega (arith, x, y);
  joins = λ more.
      ap (λ (xs : List ℕ). stream (p.rest ++ xs)) (append_assoc a b more)
      ∙ s.joins (b ++ more)
      ∙ ap (after ms s.passed) (t.joins more)
      ∙ after-after ms ns s.passed t.passed (stream (r.rest ++ more));
}

-- messages were given of what had come
pub splits_then : (p q r : Progress) (a : List ℕ) (ms ns : List Sections) → SplitsOn p q a ms → SplitsOn q r [] ns → SplitsOn p r a (ms ++ ns)
splits_then p q r a ms ns s t = subst (λ (xs : List ℕ). SplitsOn p r xs (ms ++ ns)) (append-nil a) (splits_more p q r a [] ms ns s t)

-- a piece came, and messages were given of what was held and of the piece
pub splits_piece : (p q : Progress) (piece : List ℕ) (ms : List Sections) → SplitsOn (fed p piece) q [] ms → SplitsOn p q piece ms
splits_piece p q piece ms s = splits_then p (fed p piece) q piece [] ms (splits_fed p piece) s

-- all that came, to a splitter to which nothing had come
pub splits_all : (octets : List ℕ) → SplitsOn start (fed start octets) octets []
splits_all octets = splits_fed start octets

-- ---- the end

ends_by : (p : Progress) (f : First) → first p.rest ≡ f → answer p f ≡ Ok None → EndsAs p (finished p f)
ends_by p Unmarked e w =
    let count : gap p.rest ≡ length p.rest = nothing_marked p.rest e in
    (gap p.rest, ap (λ (n : ℕ). p.skipped + n) (sym count), stream-ends p.rest e)
ends_by p (Partial have want) e w = (gap p.rest, refl, stream-cut p.rest have want e)
ends_by p (Refuses bad) e w = absurd cc
ends_by p (Takes m r) e w = absurd cc

pub ends_as : (p : Progress) → IsWaiting p → EndsAs p (finished p (first p.rest))
ends_as p w = ends_by p (first p.rest) refl w

-- what all is, where nothing more comes
pub all_joined : (p : Progress) (octets : List ℕ) (ms : List Sections) (s : SplitsOn start p octets ms) → stream octets ≡ after ms s.passed (stream p.rest)
all_joined p octets ms s = ap stream (sym (append-nil octets)) ∙ s.joins [] ∙ ap (λ (xs : List ℕ). after ms s.passed (stream xs)) (append-nil p.rest)

abbrev made : List Sections → ℕ → Stream → Stream
made ms k s = record { messages = ms; skipped = k; end = s.end }

ended_so : (ms : List Sections) (j k : ℕ) (s : Stream) → s.messages ≡ [] → j + s.skipped ≡ k → after ms j s ≡ made ms k s
ended_so ms j k s none e = ap (λ (ns : List Sections). record { messages = ms ++ ns; skipped = j + s.skipped; end = s.end }) none ∙ ap (λ (ns : List Sections). record { messages = ns; skipped = j + s.skipped; end = s.end }) (append-nil ms) ∙ ap (λ (n : ℕ). record { messages = ms; skipped = n; end = s.end }) e

is_stream : (p : Progress) (octets : List ℕ) (ms : List Sections) (r : Result ℕ Truncated) → SplitsOn start p octets ms → EndsAs p r → IsStream octets ms r
is_stream p octets ms (Ok count) s (passed, sum, is) =
    let none : Stream = record { messages = []; skipped = passed; end = Whole } in
    let before = s.skipped in
    all_joined p octets ms s ∙ ap (after ms s.passed) is ∙ ended_so ms s.passed count none refl (omega (arith, sum, before))
is_stream p octets ms (Err t) s (passed, number, is) =
    let cut : Stream = record { messages = []; skipped = passed; end = Cut t.have t.want } in
    let given = s.given in
    (omega (arith, number, given), (s.passed + passed, all_joined p octets ms s ∙ ap (after ms s.passed) is ∙ ended_so ms s.passed (s.passed + passed) cut refl refl))

-- the octets are a stream of the messages given, and end as `finish` answers
pub all_ended : (p : Progress) (octets : List ℕ) (ms : List Sections) → SplitsOn start p octets ms → IsWaiting p → IsStream octets ms (finished p (first p.rest))
all_ended p octets ms s w = is_stream p octets ms (finished p (first p.rest)) s (ends_as p w)

-- the message behind those given is refused
pub all_refused : (p : Progress) (octets : List ℕ) (ms : List Sections) (at : BadAt) → SplitsOn start p octets ms → RefusesAs p at → IsRefusedStream octets ms at
all_refused p octets ms at s b =
    let given = s.given in
    let number = b.number in
    let refused : Stream = record { messages = []; skipped = b.passed; end = Bad_end at.bad } in
    (omega (arith, number, given), (s.passed + b.passed, λ more. s.joins more ∙ ap (after ms s.passed) (b.joins more) ∙ ended_so ms s.passed (s.passed + b.passed) refused refl refl))

-- the same of what was answered
pub all_ended_so : (p : Progress) (octets : List ℕ) (ms : List Sections) (r : Result ℕ Truncated) → SplitsOn start p octets ms → IsWaiting p → r ≡ finished p (first p.rest) → IsStream octets ms r
all_ended_so p octets ms r s w e = subst (IsStream octets ms) (sym e) (all_ended p octets ms s w)

pub all_refused_so : (p : Progress) (octets : List ℕ) (ms : List Sections) (at : BadAt) → SplitsOn start p octets ms → answer p (first p.rest) ≡ Err at → IsRefusedStream octets ms at
all_refused_so p octets ms at s e = all_refused p octets ms at s (refuses_so p at e)

pub ruleset joinings = (splits_nothing, splits_fed, goes_to, splits_more, ends_as, all_ended, all_refused)
