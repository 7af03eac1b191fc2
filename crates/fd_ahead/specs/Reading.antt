-- What is read ahead.
use Rattle.std.specs.Prelude.{◌≡◌, ◌≤◌, ◌+◌, ◌++◌, ℕ, List, [], ◌∷◌, length, All, Option, Some, Result, IfErr, IfOk, IsSome, OnOk, slice_get}
use Rattle.std.specs.List.{concat}
use Rattle.fd_segment.specs.declared.fault.LensFault.{LensFault}
use Rattle.fd_segment.specs.Causes.{OnDamaged}
use Rattle.fd_segment.specs.Copying.{IsDigestedAt, IsPiece}
use Rattle.fd_ahead.specs.declared.job.Item.{Item}
use Rattle.fd_ahead.specs.declared.job.Job.{Job}
use Rattle.fd_ahead.specs.declared.located.Located.{Located}
use Rattle.fd_ahead.specs.declared.stock.Stock.{Stock}
use Rattle.fd_ahead.specs.Places.{InSegment, IsIn, IsMetAt, Keeping, Keeps, Open}

-- a field that may be read ahead: it has at most 1 MiB
pub record IsWanted (os : List Open) (l : Located) : Type 0 where
  pub within : IsIn os l
  pub few : l.spot.len ≤ 1048576

-- These bytes stand at the place, with their digest behind them where there is one.
pub record IsHeldAt (os : List Open) (l : Located) (bytes : List ℕ) : Type 0 where
  pub piece : InSegment os l (λ s. IsPiece s.files.fields l.spot.at l.spot.len bytes)
  pub checked : InSegment os l (λ s. IsSome s.files.entry.digest → IsDigestedAt s.files.fields l.spot.at l.spot.len)

-- the same where a key is located
abbrev pub IsHeld : List Open → Option Located → List ℕ → Type 0
IsHeld os located bytes = (l : Located) × (located ≡ Some l) × IsHeldAt os l bytes

-- The keys from this number on are located, and these bytes stand there, one after the other.
abbrev pub AreHeld : List Open → List (Option Located) → ℕ → List (List ℕ) → Type 0
AreHeld os located from [] = Unit {0}
AreHeld os located from (b ∷ bs) = (l : Located) × (slice_get located from ≡ Some (Some l)) × IsHeldAt os l b × AreHeld os located (from + 1) bs

-- behind old stand the bytes of so many keys from this number on, joined in their order
pub record AreJoined (os : List Open) (located : List (Option Located)) (from count : ℕ) (old new : List ℕ) : Type 0 where
  pub pieces : List (List ℕ)
  pub long : length pieces ≡ count
  pub held : AreHeld os located from pieces
  pub joined : new ≡ old ++ concat pieces

module _ {F : Type 0} where
  -- This was read at the place: the bytes that stand there, with their digest behind them where there is one; or why there are
  -- none.
  pub record IsReadOf (os : List Open) (l : Located) (read : Result (List ℕ) (LensFault F)) : Type 0 where
    pub bytes : IfOk read (λ b. InSegment os l (λ s. IsPiece s.files.fields l.spot.at l.spot.len b))
    pub checked : OnOk read (InSegment os l (λ s. IsSome s.files.entry.digest → IsDigestedAt s.files.fields l.spot.at l.spot.len))
    pub damaged : IfErr read (λ e. OnDamaged e (λ d. InSegment os l (IsMetAt l d)))

  abbrev pub IsRead : List Open → Item F → Type 0
  IsRead os item = IsReadOf os item.located item.read

  -- What a thread has: segments of these datasets, places of fields that may be read, and what it has read.
  pub record IsJob (os : List Open) (job : Job (Option Keeping) F) : Type 0 where
    pub segments : Keeps os job.segments
    pub wanted : All (IsWanted os) job.wanted.items
    pub read : All (IsRead os) job.read.items

  -- What the writing thread has: segments of these datasets, and what was read.
  pub record IsStock (os : List Open) (stock : Stock (Option Keeping) F) : Type 0 where
    pub segments : Keeps os stock.segments
    pub ready : All (IsRead os) stock.ready.items
