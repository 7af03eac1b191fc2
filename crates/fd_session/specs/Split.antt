-- What a stream that was split comes to.
use Rattle.std.specs.Prelude.{◌≡◌, ℕ, Bool, false, List, Some, None, Result, Ok, Err}
use Rattle.fd_sections.specs.Stream.{stream}
use Rattle.fd_split.specs.declared.refusal.Refusal.{Refusal}
use Rattle.fd_casting.specs.Steps.{AreMessages}
use Rattle.fd_session.specs.Inputs.{octets_of, refusal_of}
use Rattle.fd_session.specs.declared.splitting.Unsplit.{Unsplit}
use Rattle.fd_session.specs.declared.splitting.Unsplit.TheVariants as unsplits

-- It is refused for a reason for which this holds. It may also be that memory was refused.
abbrev pub IsRefusal : Unsplit → (Refusal → Type 0) → Type 0
IsRefusal (unsplits.Refused r) P = P r
IsRefusal unsplits.NoMemory P = Unit {0}

-- These are all messages of the stream, or it is refused at its end.
abbrev pub Splits : List ℕ → Bool → List (List ℕ) → Result (Unit {0}) Refusal → Type 0
Splits octets past messages (Ok done) = (messages ≡ octets_of (stream octets)) × (refusal_of past (stream octets) ≡ None) × (past ≡ false)
Splits octets past messages (Err r) = refusal_of past (stream octets) ≡ Some r

-- The octets are a stream of these messages, or it is refused for this reason. It may also be that memory was refused.
abbrev pub IsSplit : List ℕ → Bool → Result (List (List ℕ)) Unsplit → Type 0
IsSplit octets past (Ok v) = (v ≡ octets_of (stream octets)) × (refusal_of past (stream octets) ≡ None) × (past ≡ false) × AreMessages v
IsSplit octets past (Err (unsplits.Refused r)) = refusal_of past (stream octets) ≡ Some r
IsSplit octets past (Err unsplits.NoMemory) = Unit {0}
