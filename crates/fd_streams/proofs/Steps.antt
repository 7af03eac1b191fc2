-- What is found as the messages are gone over.
use Rattle.std.proofs.Common.{◌≡◌, ℕ, ◌+◌, Bool, true, false, cond, List, [], ◌∷◌, ◌++◌, length, Option, Some, None, Result, Ok, Err, refl, sym, ap, subst, ◌∙◌, arith, length-append}
use Rattle.fd_sections.specs.declared.refusal.BadAt.{BadAt}
use Rattle.fd_sections.specs.Message.{Sections, message_octets}
use Rattle.fd_sections.specs.Progress.{Progress}
use Rattle.fd_sections.specs.Splitting.{answer, progress}
use Rattle.fd_sections.specs.Stream.{Stream, first, stream, after, Bad_end}
use Rattle.fd_sections.specs.Joining.{SplitsOn}
use Rattle.fd_sections.proofs.Joins.{refuses_so, splits_more, takes_so, waits_so}
use Rattle.fd_key.specs.declared.fault.KeyFault.{KeyFault}
use Rattle.fd_key.specs.Pairs.{Pair, has_all}
use Rattle.fd_key.specs.Keys.{key_of}
use Rattle.fd_streams.specs.declared.picking.Last.{Last}
use Rattle.fd_streams.specs.declared.feeding.Stop.{Stop}
use Rattle.fd_split.specs.declared.refusal.Refusal.{Refusal}
use Rattle.fd_split.specs.declared.refusal.Refusal.TheVariants as refusals
use Rattle.fd_streams.specs.Found.{GoesOn, IsFilled, IsLast, Stopped, StoppedAs, Took, IsConsidered}
use Rattle.fd_split.specs.Inputs.{refused}
use Rattle.fd_outcome.specs.Picking.{found_after, unless, keyless, this_or, last_wanted, has_wanted, is_wanted}

-- ---- messages before others

-- a message with a key, and none without one behind it
keyed_here : (r : Result (List Pair) KeyFault) (n : ℕ) (o : Option Refusal) → this_or r n o ≡ None → (o ≡ None) × ((x : Option Refusal) → this_or r n x ≡ x)
keyed_here (Ok pairs) n o e = (e, λ x. refl)
keyed_here (Err fault) n o e = absurd cc

pub keyless_more : (n : ℕ) (ms ns : List Sections) → keyless n ms ≡ None → keyless n (ms ++ ns) ≡ keyless (n + length ms) ns
keyless_more n [] ns e = ap (λ (i : ℕ). keyless i ns) (omega arith)
keyless_more n (m ∷ ms) ns e =
    let h = keyed_here (key_of m []) n (keyless (n + 1) ms) e in
    h.1 (keyless (n + 1) (ms ++ ns)) ∙ keyless_more (n + 1) ms ns h.0 ∙ ap (λ (i : ℕ). keyless i ns) (omega arith)

pub last_more : (wanted : List Pair) (before : Option Sections) (ms ns : List Sections) → last_wanted wanted before (ms ++ ns) ≡ last_wanted wanted (last_wanted wanted before ms) ns
last_more wanted before [] ns = refl
last_more wanted before (m ∷ ms) ns = last_more wanted (cond (is_wanted wanted m) (Some m) before) ms ns

-- what is found behind messages that have keys
pub found_behind : (wanted : List Pair) (past : Bool) (n : ℕ) (before : Option Sections) (ms : List Sections) (k : ℕ) (s : Stream) → keyless (n + 1) ms ≡ None
    → found_after wanted past n before (after ms k s) ≡ found_after wanted past (n + length ms) (last_wanted wanted before ms) s
found_behind wanted past n before ms k s keyed =
    let keys : keyless (n + 1) (ms ++ s.messages) ≡ keyless (n + length ms + 1) s.messages = keyless_more (n + 1) ms s.messages keyed ∙ ap (λ (i : ℕ). keyless i s.messages) (omega arith) in
    let count : n + length (ms ++ s.messages) ≡ n + length ms + length s.messages = omega (arith, length-append ms s.messages) in
    ap (λ (o : Option Refusal). unless o (unless (refused past (n + length (ms ++ s.messages)) s.end) (Ok (last_wanted wanted before (ms ++ s.messages))))) keys
    ∙ ap (λ (i : ℕ). unless (keyless (n + length ms + 1) s.messages) (unless (refused past i s.end) (Ok (last_wanted wanted before (ms ++ s.messages))))) count
    ∙ ap (λ (o : Option Sections). unless (keyless (n + length ms + 1) s.messages) (unless (refused past (n + length ms + length s.messages) s.end) (Ok o))) (last_more wanted before ms s.messages)

-- whatever more comes, what is found stays the same
pub found_on : (wanted : List Pair) (past : Bool) (p q : Progress) (came : List ℕ) (ms : List Sections) (before : Option Sections) (more : List ℕ) → SplitsOn p q came ms → keyless (p.given + 1) ms ≡ None
    → found_after wanted past p.given before (stream (p.rest ++ (came ++ more))) ≡ found_after wanted past q.given (last_wanted wanted before ms) (stream (q.rest ++ more))
found_on wanted past p q came ms before more s keyed =
    ap (found_after wanted past p.given before) (s.joins more)
    ∙ found_behind wanted past p.given before ms s.passed (stream (q.rest ++ more)) keyed
    ∙ ap (λ (n : ℕ). found_after wanted past n (last_wanted wanted before ms) (stream (q.rest ++ more))) (sym s.given)

-- ---- one step

considered : (b : Bool) (octets : List ℕ) (old new : Last) (m : Sections) (before : Option Sections) → octets ≡ message_octets m → IsConsidered b octets old new → IsLast old before → IsLast new (cond b (Some m) before)
considered true octets old new m before o is last = (is.0, is.1 ∙ o)
considered false octets old new m before o is last = subst (λ (x : Last). IsLast x before) (sym is) last

-- a message was taken
pub took : (wanted : List Pair) (p q : Progress) (old new : Last) (m : Sections) (octets : List ℕ) (pairs : List Pair) → answer p (first p.rest) ≡ Ok (Some m) → q ≡ progress p (first p.rest) → key_of m [] ≡ Ok pairs → octets ≡ message_octets m → IsConsidered (has_all pairs wanted) octets old new → Took wanted true p q old new
took wanted p q old new m octets pairs e goes key o is =
    let t = takes_so p q m e goes in
    record {
      measure = t.1;
      goes_on = record {
        messages = m ∷ [];
        splits = t.0;
        keyed = ap (λ (r : Result (List Pair) KeyFault). this_or r (p.given + 1) None) key;
        finds = λ before last. subst (λ (r : Result (List Pair) KeyFault). IsLast new (cond (has_wanted wanted r) (Some m) before)) (sym key) (considered (has_all pairs wanted) octets old new m before o is last);
      };
    }

-- no message is whole
pub waits : (wanted : List Pair) (p q : Progress) (old : Last) → answer p (first p.rest) ≡ Ok None → q ≡ progress p (first p.rest) → Took wanted false p q old old
waits wanted p q old e goes =
    let t = waits_so p q e goes in
    record { measure = t.1; goes_on = record { messages = []; splits = t.0; keyed = refl; finds = λ before last. last } }

-- what a message's key is, where no pairs are given
pub keyed : (m : Sections) (given pairs : List Pair) (r k : Result (Unit {0}) KeyFault) → given ≡ [] → r ≡ k → IsFilled pairs r (key_of m given) → IsFilled pairs k (key_of m [])
keyed m given pairs r k e f is = subst (λ (x : Result (Unit {0}) KeyFault). IsFilled pairs x (key_of m [])) f (subst (λ (g : List Pair). IsFilled pairs r (key_of m g)) e is)

-- the next message has no key
pub keyless_stops : (wanted : List Pair) (past : Bool) (p : Progress) (m : Sections) (fault : KeyFault) (n : ℕ) → answer p (first p.rest) ≡ Ok (Some m) → key_of m [] ≡ Err fault → n ≡ p.given → (before : Option Sections) (more : List ℕ) → found_after wanted past p.given before (stream (p.rest ++ more)) ≡ Err (refusals.Key (n + 1) fault)
keyless_stops wanted past p m fault n e key count before more =
    let q = progress p (first p.rest) in
    let t = (takes_so p q m e refl).0 in
    ap (found_after wanted past p.given before) (t.joins more)
    ∙ stops_at (stream (q.rest ++ more)) t.passed
    ∙ ap (λ (k : ℕ). Err (refusals.Key (k + 1) fault)) (sym count)
  where
    stops_at : (s : Stream) (k : ℕ) → found_after wanted past p.given before (after (m ∷ []) k s) ≡ Err (refusals.Key (p.given + 1) fault)
    stops_at s k = rw key refl

-- the next message is refused
pub refusal_stops : (wanted : List Pair) (past : Bool) (p : Progress) (at : BadAt) (refusal : Refusal) (before : Option Sections) (more : List ℕ) → answer p (first p.rest) ≡ Err at
    → ((past : Bool) (given : ℕ) → at.number ≡ given + 1 → refused past given (Bad_end at.bad) ≡ Some refusal)
    → found_after wanted past p.given before (stream (p.rest ++ more)) ≡ Err refusal
refusal_stops wanted past p at refusal before more e tells =
    let b = refuses_so p at e in
    let number = b.number in
    let is : refused past (p.given + 0) (Bad_end at.bad) ≡ Some refusal = tells past (p.given + 0) (omega (arith, number)) in
    ap (found_after wanted past p.given before) (b.joins more) ∙ ap (λ (r : Option Refusal). unless r (Ok before)) is

-- ---- one step behind another

pub goes_nowhere : (wanted : List Pair) (p : Progress) (last : Last) → SplitsOn p p [] [] → GoesOn wanted p p last last
goes_nowhere wanted p last s = record { messages = []; splits = s; keyed = refl; finds = λ before is. is }

pub both_keyed : (p q : Progress) (came : List ℕ) (ms ns : List Sections) → SplitsOn p q came ms → keyless (p.given + 1) ms ≡ None → keyless (q.given + 1) ns ≡ None → keyless (p.given + 1) (ms ++ ns) ≡ None
both_keyed p q came ms ns s k l =
    let given = s.given in
    keyless_more (p.given + 1) ms ns k ∙ ap (λ (i : ℕ). keyless i ns) (omega (arith, given)) ∙ l

pub goes_further : (wanted : List Pair) (p q r : Progress) (a b c : Last) → GoesOn wanted p q a b → GoesOn wanted q r b c → GoesOn wanted p r a c
goes_further wanted p q r a b c s t = record {
  messages = s.messages ++ t.messages;
  splits = splits_more p q r [] [] s.messages t.messages s.splits t.splits;
  keyed = both_keyed p q [] s.messages t.messages s.splits s.keyed t.keyed;
  finds = λ before last. subst (IsLast c) (sym (last_more wanted before s.messages t.messages)) (t.finds (last_wanted wanted before s.messages) (s.finds before last));
}

-- a search that stopped after messages were gone over
pub stopped_later : {X : Type 0} (wanted : List Pair) (p q : Progress) (a b : Last) (e : Stop X) → GoesOn wanted p q a b → Stopped wanted e q b → Stopped wanted e p a
stopped_later wanted p q a b e s h = λ past before last more.
    subst (StoppedAs e) (sym (found_on wanted past p q [] s.messages before more s.splits s.keyed)) (h past (last_wanted wanted before s.messages) (s.finds before last) more)
