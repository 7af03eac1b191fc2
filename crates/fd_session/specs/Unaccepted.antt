-- Why an input isn't taken as a session.
use Rattle.std.specs.Prelude.{◌≡◌, ℕ, List, Some, Err}
use Rattle.fd_script.specs.Grammar.{Wrong, script_of}
use Rattle.fd_script.specs.Reading.{Gives, seen_wrong}
use Rattle.fd_script.specs.declared.fault.ScriptFault.TheVariants as faults
use Rattle.fd_split.specs.declared.refusal.Refusal.{Refusal}
use Rattle.fd_session.specs.declared.reading.Unaccepted.{Unaccepted}
use Rattle.fd_session.specs.declared.reading.Unaccepted.TheVariants as reasons
use Rattle.fd_session.specs.Inputs.{IsRefusedBehind}

-- What the reason says of the input: of the script, the first line that is wrong, with what is wrong with it. A read that
-- failed and want of memory say nothing.
abbrev pub Says : List ℕ → Unaccepted → Type 0
Says input reasons.Unread = Unit {0}
Says input (reasons.Script fault) = Gives (script_of input) (Err fault)
Says input (reasons.Stream refusal) = IsRefusedBehind input refusal
Says input reasons.NoMemory = Unit {0}

-- what is wrong with a script is named, and is wrong with its text
abbrev pub IsNamed : Unaccepted → Type 0
IsNamed reasons.Unread = Unit {0}
IsNamed (reasons.Script (faults.At line kind)) = (w : Wrong) × (seen_wrong kind ≡ Some w)
IsNamed (reasons.Script faults.NoMemory) = Unit {0}
IsNamed (reasons.Stream refusal) = Unit {0}
IsNamed reasons.NoMemory = Unit {0}

-- a read failed
abbrev pub OnUnread : Unaccepted → Type 0 → Type 0
OnUnread reasons.Unread P = P
OnUnread (reasons.Script fault) P = Unit {0}
OnUnread (reasons.Stream refusal) P = Unit {0}
OnUnread reasons.NoMemory P = Unit {0}

-- the input is refused
abbrev pub OnRefused : Unaccepted → Type 0 → Type 0
OnRefused reasons.Unread P = Unit {0}
OnRefused (reasons.Script fault) P = P
OnRefused (reasons.Stream refusal) P = P
OnRefused reasons.NoMemory P = Unit {0}
