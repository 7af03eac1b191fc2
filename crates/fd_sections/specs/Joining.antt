-- What the pieces that came and the messages that were given tell of the whole stream.
use Rattle.std.specs.Prelude.{◌≡◌, ◌<◌, ◌+◌, ℕ, List, [], ◌∷◌, ◌++◌, length, Option, Some, None, Result, Ok, Err}
use Rattle.fd_sections.specs.declared.refusal.BadAt.{BadAt}
use Rattle.fd_sections.specs.declared.refusal.Truncated.{Truncated}
use Rattle.fd_sections.specs.Message.{Sections}
use Rattle.fd_sections.specs.Stream.{Whole, Cut, Bad_end, after, first, stream}
use Rattle.fd_sections.specs.Progress.{Progress}
use Rattle.fd_sections.specs.Splitting.{answer}

-- From one state of a splitter to another these octets came and these messages were given. Whatever more comes, the stream of
-- what the one held, of what came and of that is these messages and so many skipped octets, and then the stream of what the
-- other holds and of that.
pub record SplitsOn (p q : Progress) (came : List ℕ) (messages : List Sections) : Type 0 where
  pub fed : q.fed ≡ p.fed + length came
  pub given : q.given ≡ p.given + length messages
  pub passed : ℕ
  pub skipped : q.skipped ≡ p.skipped + passed
  pub joins : (more : List ℕ) → stream (p.rest ++ (came ++ more)) ≡ after messages passed (stream (q.rest ++ more))

-- no message is whole
abbrev pub IsWaiting : Progress → Type 0
IsWaiting p = answer p (first p.rest) ≡ Ok None

-- What is held is refused so, whatever more comes.
pub record RefusesAs (p : Progress) (at : BadAt) : Type 0 where
  pub number : at.number ≡ p.given + 1
  pub passed : ℕ
  pub joins : (more : List ℕ) → stream (p.rest ++ more) ≡ record { messages = []; skipped = passed; end = Bad_end at.bad }

-- What `next` answers where it goes from p to q: a message, and less is held behind it; or none, and none is whole; or a
-- refusal, and nothing has changed.
abbrev pub GoesTo : {X : Type 0} → (X → Sections) → Progress → Progress → Result (Option X) BadAt → Type 0
GoesTo view p q (Ok (Some x)) = SplitsOn p q [] (view x ∷ []) × (length q.rest < length p.rest)
GoesTo view p q (Ok None) = SplitsOn p q [] [] × IsWaiting q
GoesTo view p q (Err at) = (q ≡ p) × RefusesAs p at

-- What is held ends so where no more comes: so many octets were skipped in all, or a message is cut.
abbrev pub EndsAs : Progress → Result ℕ Truncated → Type 0
EndsAs p (Ok count) = (passed : ℕ) × (count ≡ p.skipped + passed) × (stream p.rest ≡ record { messages = []; skipped = passed; end = Whole })
EndsAs p (Err t) = (passed : ℕ) × (t.number ≡ p.given + 1) × (stream p.rest ≡ record { messages = []; skipped = passed; end = Cut t.have t.want })

-- These octets are a stream of these messages and so many skipped octets, or the message behind these is cut.
abbrev pub IsStream : List ℕ → List Sections → Result ℕ Truncated → Type 0
IsStream octets messages (Ok count) = stream octets ≡ record { messages = messages; skipped = count; end = Whole }
IsStream octets messages (Err t) = (t.number ≡ length messages + 1) × ((count : ℕ) × (stream octets ≡ record { messages = messages; skipped = count; end = Cut t.have t.want }))

-- These octets are a stream of these messages, and the message behind them is refused, whatever more comes.
abbrev pub IsRefusedStream : List ℕ → List Sections → BadAt → Type 0
IsRefusedStream octets messages at = (at.number ≡ length messages + 1) × ((count : ℕ) × ((more : List ℕ) → stream (octets ++ more) ≡ record { messages = messages; skipped = count; end = Bad_end at.bad }))
