-- What a sink has taken of a text, where it tells that, and what its faults are.
use Rattle.std.specs.Prelude.{◌≡◌, ℕ, List, ◌++◌, Option, Result, Ok, Err}
use Rattle.fd_bytes.specs.Causes.{Rose}
use Rattle.fd_io.specs.Streams.{Takes}
use Rattle.fd_listing.specs.declared.fault.TextFault.{TextFault}
use Rattle.fd_listing.specs.declared.fault.TextFault.TheVariants.{Write, NoMemory}
use Rattle.fd_listing.specs.declared.fault.ValuesFault.{ValuesFault}
use Rattle.fd_listing.specs.declared.fault.ValuesFault.TheVariants as values

-- A write failed only where the sink's count of faults rose, and at every other answer the count is as before.
abbrev pub HasSinkCause : {A X : Type 0} → Result A (TextFault X) → ℕ → ℕ → Type 0
HasSinkCause (Ok done) before now = now ≡ before
HasSinkCause (Err (Write fault)) before now = Rose before now
HasSinkCause (Err NoMemory) before now = now ≡ before

-- the same of the values
abbrev pub HasValuesCause : {A X : Type 0} → Result A (ValuesFault X) → ℕ → ℕ → Type 0
HasValuesCause (Ok done) before now = now ≡ before
HasValuesCause (Err (values.Field fault)) before now = now ≡ before
HasValuesCause (Err (values.Points points)) before now = now ≡ before
HasValuesCause (Err (values.Write fault)) before now = Rose before now
HasValuesCause (Err values.NoMemory) before now = now ≡ before

-- of a text all was taken but the rest
pub record TakesAllBut (old new : Option (List ℕ)) (text rest : List ℕ) : Type 0 where
  pub front : List ℕ
  pub split : text ≡ front ++ rest
  pub took : Takes old new front

-- this holds where memory ran out
abbrev pub OnStarved : {A X : Type 0} → Result A (TextFault X) → Type 0 → Type 0
OnStarved (Ok done) P = Unit {0}
OnStarved (Err (Write fault)) P = Unit {0}
OnStarved (Err NoMemory) P = P
