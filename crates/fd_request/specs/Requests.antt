-- What holds of a request.
use Rattle.std.specs.Prelude.{◌≡◌, ◌≤◌, ℕ, true, List, [], length, Result, Err}
use Rattle.fd_request.specs.declared.fault.RequestFault.{RequestFault}
use Rattle.fd_request.specs.declared.fault.RequestKind.{RequestKind}
use Rattle.fd_tokens.specs.declared.refusal.Refusal.{Refusal}
use Rattle.fd_tokens.specs.declared.refusal.Refusal.TheVariants as refusals
use Rattle.fd_request.specs.Expansion.{Keyword, expand}
use Rattle.fd_request.specs.Grammar.{Fault}
use Rattle.fd_request.specs.Limits.{within_size}
use Rattle.fd_request.specs.Keywords.{differ_after}
use Rattle.fd_request.specs.Reading.{Fails, GivesKeywords}

-- its number of keys, and that no name comes twice
pub record IsRequest (count : ℕ) (keywords : List Keyword) : Type 0 where
  pub number : count ≡ length (expand keywords)
  pub differ : differ_after [] keywords ≡ true
  pub few : length keywords ≤ 65537

-- a refusal is at most at this place
abbrev pub IsPlace : ℕ → Refusal RequestKind → Type 0
IsPlace n refusals.NoMemory = Unit {0}
IsPlace n (refusals.At at kind) = at ≤ n

-- A fault is what a refusal is in a text of this size: whatever reading refused so, refuses this within the size.
abbrev pub IsFaultOf : ℕ → Refusal RequestKind → RequestFault → Type 0
IsFaultOf size refusal fault = (read : Result (List Keyword) Fault) → Fails refusal read → GivesKeywords (Err fault) (within_size size read)
