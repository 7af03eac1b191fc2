-- What of a script can't be done with a schema and the messages of its stream.
use Rattle.std.specs.Prelude.{◌≡◌, ◌≢◌, ◌≤◌, ℕ, List, length, slice_get, Some, None, Result, Ok, Err}
use Rattle.fd_numbers.specs.Numbers.{IsIn}
use Rattle.fd_sections.specs.Message.{Sections, IsMessage}
use Rattle.fd_key.specs.Pairs as keys
use Rattle.fd_key.specs.Keys.{key_of}
use Rattle.fd_key.specs.declared.fault.KeyFault.{KeyFault}
use Rattle.fd_schema.specs.Rules.{Rule, Texts, place_from}
use Rattle.fd_request.specs.Expansion.{Keyword, expand}
use Rattle.fd_script.specs.declared.script.Lane.{Lane}
use Rattle.fd_script.specs.declared.script.Step.{Step}
use Rattle.fd_script.specs.declared.script.Step.TheVariants as steps
use Rattle.fd_lanes.specs.Acts.{message_at}
use Rattle.fd_casting.specs.Steps.{Posed, all_posed}
use Rattle.fd_casting.specs.declared.fault.Miscast.{Miscast}
use Rattle.fd_casting.specs.declared.fault.Miscast.TheVariants as kinds
use Rattle.fd_casting.specs.declared.fault.CastFault.{CastFault}
use Rattle.fd_casting.specs.declared.fault.CastFault.TheVariants as faults
use Rattle.fd_casting.specs.declared.fault.Refusal as code
use Rattle.fd_casting.specs.declared.fault.Refusal.TheVariants as refusals

-- there is a message with this number, from 1
abbrev pub HasNumber : List (List ℕ) → ℕ → Type 0
HasNumber messages n = (1 ≤ n) × (n ≤ length messages)

-- this is the key of a message with the given pairs, or why it has none
pub record IsKeyOf (message : List ℕ) (given : List keys.Pair) (key : Result (List keys.Pair) KeyFault) : Type 0 where
  pub sections : Sections
  pub is_message : IsMessage message sections
  pub is : key_of sections given ≡ key

module _ (rules : List Rule) (text : List ℕ) where
  -- no rule admits the key
  abbrev pub IsUnruled : List keys.Pair → Type 0
  IsUnruled key = place_from 0 rules key ≡ None

  -- the place of the key is in another dataset than that of the text
  abbrev pub IsElsewhere : List keys.Pair → Type 0
  IsElsewhere key = (t : Texts) × (place_from 0 rules key ≡ Some t) × (t.dataset ≢ text)

  -- why a key can't be in the dataset
  abbrev pub KeyFails : List keys.Pair → Miscast → Type 0
  KeyFails key kinds.Message = ⊥
  KeyFails key (kinds.Key fault) = ⊥
  KeyFails key kinds.NoRule = IsUnruled key
  KeyFails key kinds.OtherDataset = IsElsewhere key

  -- one of the keys of a request
  abbrev pub SomeKey : List Keyword → (List keys.Pair → Type 0) → Type 0
  SomeKey request P = (i : ℕ) × (key : List keys.Pair) × (slice_get (expand request) i ≡ Some key) × P key

  -- Why a get can't be done: no rule admits one of its keys; all have places, and one of these is in another dataset.
  abbrev pub GetFails : List Keyword → Miscast → Type 0
  GetFails request kinds.Message = ⊥
  GetFails request (kinds.Key fault) = ⊥
  GetFails request kinds.NoRule = SomeKey request IsUnruled
  GetFails request kinds.OtherDataset = (SomeKey request IsUnruled → ⊥) × SomeKey request IsElsewhere

  module _ (messages : List (List ℕ)) where
    -- Why a put can't be done: there is no message with its number; the message has no key; no rule admits the key; its
    -- place is in another dataset.
    abbrev pub PutFails : List keys.Pair → ℕ → Miscast → Type 0
    PutFails given n kinds.Message = HasNumber messages n → ⊥
    PutFails given n (kinds.Key fault) = HasNumber messages n × IsKeyOf (message_at messages n) given (Err fault)
    PutFails given n kinds.NoRule = HasNumber messages n × ((key : List keys.Pair) × IsKeyOf (message_at messages n) given (Ok key) × IsUnruled key)
    PutFails given n kinds.OtherDataset = HasNumber messages n × ((key : List keys.Pair) × IsKeyOf (message_at messages n) given (Ok key) × IsElsewhere key)

    -- why a step can't be done
    abbrev pub Fails : List keys.Pair → Step → Miscast → Type 0
    Fails given (steps.Put n) kind = PutFails given n kind
    Fails given steps.Flush kind = ⊥
    Fails given (steps.Get request) kind = GetFails request kind

    -- Of these steps one can't be done for this reason; it stands in this line, and none that can't be done stands in a lower
    -- one.
    pub record IsFirst (ps : List Posed) (line : ℕ) (kind : Miscast) : Type 0 where
      pub at : Posed
      pub there : IsIn ps at
      pub line_is : at.line ≡ line
      pub fails : Fails at.given at.step kind
      pub lowest : (p : Posed) (k : Miscast) → IsIn ps p → Fails p.given p.step k → line ≤ p.line

    -- none of these steps can't be done
    abbrev pub NoneFails : List Posed → Type 0
    NoneFails ps = (p : Posed) (k : Miscast) → IsIn ps p → Fails p.given p.step k → ⊥

    -- what a fault says of a script
    abbrev pub Faults : List Lane → CastFault → Type 0
    Faults lanes (faults.At line kind) = IsFirst (all_posed lanes) line kind
    Faults lanes faults.NoMemory = Unit {0}

-- A refusal names a reason for which this holds. It may also be that memory was refused.
abbrev pub OnMiscast : code.Refusal → (Miscast → Type 0) → Type 0
OnMiscast (refusals.Miscast kind) P = P kind
OnMiscast refusals.NoMemory P = Unit {0}
