-- What a reader takes of an input before it stops for a while.
use Rattle.std.specs.Prelude.{◌≡◌, ◌≤◌, ◌<◌, ◌+◌, ℕ, Bool, true, false, List, [], ◌++◌, length, All, Option, Some, None, Result, Ok, Err, IfErr, OnOk}
use Rattle.std.specs.Io.KnownBytes.{Keeps}
use Rattle.fd_bytes.specs.Causes.{Rose}
use Rattle.fd_io.specs.Streams.{Gives, IsAtEnd}
use Rattle.fd_key.specs.Pairs.{Pair}
use Rattle.fd_schema.specs.Rules.{Rule}
use Rattle.fd_split.specs.Limits.{input_limit}
use Rattle.fd_split.specs.Fields.{refusal_at}
use Rattle.fd_split.specs.Positions.{IsIdle, Position, RefusesNext, fed_at}
use Rattle.fd_split.specs.declared.refusal.Refusal.TheVariants as refusals
use Rattle.fd_sheets.specs.declared.reader.Batch.{Batch}
use Rattle.fd_sheets.specs.declared.reader.Reach.{Reach}
use Rattle.fd_sheets.specs.declared.reader.Reach.TheVariants as reaches
use Rattle.fd_sheets.specs.declared.reader.Stop.{Stop}
use Rattle.fd_sheets.specs.declared.reader.Stop.TheVariants as stops
use Rattle.fd_sheets.specs.declared.sheets.Sheet.{Sheet}
use Rattle.fd_sheets.specs.declared.sheets.Unsplit.{Unsplit}
use Rattle.fd_sheets.specs.declared.sheets.Unsplit.TheVariants as ends
use Rattle.fd_sheets.specs.Names.{IsKnown}
use Rattle.fd_sheets.specs.Sheets.{Placed}

-- Why a reader stops behind the fields that lead to p. It stands at q then, and the source that had mid left has after left.
abbrev pub StopsAs : {X : Type 0} → Position → Position → Option (List ℕ) → Option (List ℕ) → Result Reach (Stop X) → Type 0
StopsAs p q mid after (Ok reaches.Full) = (q ≡ p) × (after ≡ mid)
StopsAs p q mid after (Ok reaches.Dealing) = (q ≡ p) × (after ≡ mid)
StopsAs p q mid after (Ok reaches.End) = (q ≡ p) × IsIdle p × IsAtEnd mid × Gives mid after []
StopsAs p q mid after (Err (stops.Input f)) = IsIdle p × Keeps mid after
StopsAs p q mid after (Err (stops.Message at)) = RefusesNext p (refusal_at at.number at.bad) at.number
StopsAs p q mid after (Err (stops.NoMap number field)) = RefusesNext p (refusals.NoMap number field) number
StopsAs p q mid after (Err stops.InputLimit) = IsIdle p × (p.split.fed ≡ input_limit) × ((piece : List ℕ) × (0 < length piece) × Gives mid after piece)
StopsAs p q mid after (Err stops.NoMemory) = Unit {0}

abbrev pub is_end : Reach → Bool
is_end reaches.Full = false
is_end reaches.Dealing = false
is_end reaches.End = true

abbrev pub is_full : Reach → Bool
is_full reaches.Full = true
is_full reaches.Dealing = false
is_full reaches.End = false

-- memory ran out
abbrev pub is_starved : {X : Type 0} → Stop X → Bool
is_starved stops.NoMemory = true
is_starved stop = false

-- a read of the input failed
abbrev pub is_unread : {X : Type 0} → Stop X → Bool
is_unread (stops.Input f) = true
is_unread stop = false

-- why no message comes, as a reader tells it
abbrev pub IsStop : {X : Type 0} → Unsplit → Stop X → Type 0
IsStop (ends.Message at) stop = stop ≡ stops.Message at
IsStop (ends.NoMap number field) stop = stop ≡ stops.NoMap number field
IsStop ends.NoMemory stop = stop ≡ stops.NoMemory

-- A piece came, or the input is at its end, or why none came.
abbrev pub IsFed : {X : Type 0} → Position → Position → Option (List ℕ) → Option (List ℕ) → Result Bool (Stop X) → Type 0
IsFed p q mid after (Ok true) = (piece : List ℕ) × (q ≡ fed_at p piece) × (0 < length piece) × Gives mid after piece
IsFed {X = X} p q mid after (Ok false) = StopsAs {X = X} p q mid after (Ok reaches.End)
IsFed p q mid after (Err stop) = StopsAs p q mid after (Err stop)

-- Behind the fields that were taken: something is to be done before more is read, or no message is whole, and each of these has a place in
-- a dataset that is known; or why no more were taken.
abbrev pub Rests : {X : Type 0} → List (List ℕ) → List Sheet → Position → Position → Result (Option Reach) (Stop X) → Type 0
Rests names fresh p q (Ok (Some reaches.Full)) = (q ≡ p) × (0 < length fresh)
Rests names fresh p q (Ok (Some reaches.Dealing)) = (q ≡ p) × (0 < length fresh)
Rests names fresh p q (Ok (Some reaches.End)) = ⊥
Rests names fresh p q (Ok None) = (q ≡ p) × IsIdle q × All (IsKnown names) fresh
Rests names fresh p q (Err (stops.Input f)) = ⊥
Rests names fresh p q (Err (stops.Message at)) = RefusesNext p (refusal_at at.number at.bad) at.number
Rests names fresh p q (Err (stops.NoMap number field)) = RefusesNext p (refusals.NoMap number field) number
Rests names fresh p q (Err stops.InputLimit) = ⊥
Rests names fresh p q (Err stops.NoMemory) = Unit {0}

-- these fields were taken behind others, each with its place
pub record HasTaken {X : Type 0} (rules : List Rule) (given : List Pair) (names : List (List ℕ)) (p q : Position) (before after : List Sheet) (result : Result (Option Reach) (Stop X)) : Type 0 where
  pub fresh : List Sheet
  pub middle : Position
  pub adds : after ≡ before ++ fresh
  pub placed : Placed rules given p fresh middle
  pub rests : Rests names fresh middle q result

-- where more is to be read, these are some
abbrev pub HasSome : {X : Type 0} → List Sheet → Result Reach (Stop X) → Type 0
HasSome sheets (Ok reaches.Full) = 0 < length sheets
HasSome sheets (Ok reaches.Dealing) = 0 < length sheets
HasSome sheets (Ok reaches.End) = Unit {0}
HasSome sheets (Err stop) = Unit {0}

-- These octets came to a reader that stood at p, and of these and of what it held these fields were split off, each with its place;
-- and why it stopped behind them.
pub record HasRead {X : Type 0} (rules : List Rule) (given : List Pair) (p q : Position) (left after : Option (List ℕ)) (sheets : List Sheet) (end : Result Reach (Stop X)) : Type 0 where
  pub came : List ℕ
  pub few : p.split.fed + length came ≤ input_limit
  pub mid : Option (List ℕ)
  pub gives : Gives left mid came
  pub middle : Position
  pub placed : Placed rules given (fed_at p came) sheets middle
  pub stops : StopsAs middle q mid after end
  -- where more is to be read, some fields were
  pub some : HasSome sheets end

-- A batch was read, and the input's count of faults went from n to k: it rose where a read failed, and each field has then a place in a
-- dataset that is known.
pub record ReadOn {X : Type 0} (rules : List Rule) (given : List Pair) (names : List (List ℕ)) (p q : Position) (left after : Option (List ℕ)) (n k : ℕ) (b : Batch X) : Type 0 where
  pub reads : HasRead rules given p q left after b.sheets.items b.end
  pub known : IfErr b.end (λ e. is_unread e ≡ true → All (IsKnown names) b.sheets.items)
  pub calm : OnOk b.end (k ≡ n)
  pub read : IfErr b.end (λ e. is_unread e ≡ true → Rose n k)
  pub quiet : IfErr b.end (λ e. is_unread e ≡ false → k ≡ n)

-- These octets came so far, and of these and of what was held these fields were split off, each with a place in a dataset that is known.
pub record ReadsOn (rules : List Rule) (given : List Pair) (names : List (List ℕ)) (p q : Position) (left now : Option (List ℕ)) (sheets : List Sheet) : Type 0 where
  pub came : List ℕ
  pub is_fed : q.split.fed ≡ p.split.fed + length came
  pub gives : Gives left now came
  pub placed : Placed rules given (fed_at p came) sheets q
  pub known : All (IsKnown names) sheets
