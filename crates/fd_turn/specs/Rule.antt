-- The board's rule, which holds between any two steps of any seats.
-- Word 0 is the turn for the value, word 1 the number of posts, and word 2 the lock of the state. Slot 0 holds the value and slot 1 the state.
-- The whole history is the owner's history where there is an owner, and else the list of the state at home.
use Rattle.std.specs.Prelude.{◌≡◌, ℕ, ◌+◌, ◌<◌, ◌⊎◌, true, false, List, [], ◌∷◌, ◌++◌, length, Option, Some, Contains}
use mathlib.Core.Option as maybe
use mathlib.Core.List.{IsPrefix}
use lib.ListN.{get_elem?}
use Rattle.atomic_table.specs.Table.{State}
use Rattle.fd_entries.specs.declared.batch.Listing.{Listing}
use Rattle.fd_turn.specs.declared.view.SeatView.{SeatView}
use Rattle.fd_turn.specs.declared.view.Subject.{Subject}
use Rattle.fd_turn.specs.declared.view.Turn.{Turn}
use Rattle.fd_turn.specs.declared.view.Turn.TheVariants.{Away, Holder}
use Rattle.fd_turn.specs.declared.view.Lock.{Lock}
use Rattle.fd_turn.specs.declared.view.Lock.TheVariants.{Free, Owner}
use Rattle.fd_turn.specs.declared.rule.Slot.{Slot}
use Rattle.fd_turn.specs.declared.rule.Slot.TheVariants.{Value, Locked}
use Rattle.fd_turn.specs.Views.{all_parts}

-- a number of each seat, added up
abbrev pub total : (SeatView → ℕ) → List SeatView → ℕ
total f [] = 0
total f (v ∷ vs) = f v + total f vs

-- 1 for a seat that is the holder
abbrev pub in_turn : Turn → ℕ
in_turn Away = 0
in_turn (Holder kept posted) = 1

-- 1 for a seat that is the owner
abbrev pub in_lock : Lock → ℕ
in_lock Free = 0
in_lock (Owner found) = 1

-- how many seats are holders
abbrev pub holder_count : List SeatView → ℕ
holder_count views = total (λ v. in_turn v.turn) views

-- how many seats are owners
abbrev pub owner_count : List SeatView → ℕ
owner_count views = total (λ v. in_lock v.lock) views

-- this listing is among the doubts of some seat
abbrev pub IsDoubted : List SeatView → Listing → Type 0
IsDoubted views l = (i : ℕ) × (v : SeatView) × (get_elem? views i ≡ maybe.some v) × Contains v.doubts l

-- a listing in doubt, if there is one, is among the doubts of some seat
abbrev pub IsCovered : List SeatView → Option Listing → Type 0
IsCovered views doubt = (l : Listing) → doubt ≡ Some l → IsDoubted views l

-- A holder keeps the list of the value that it took: the whole history, or the whole history without its last listing where it has posted. Only an owner has posted.
abbrev pub KnowsTurn : List Listing → Lock → Turn → Type 0
KnowsTurn whole lock Away = Unit {0}
KnowsTurn whole lock (Holder kept false) = kept ≡ whole
KnowsTurn whole lock (Holder kept true) = (in_lock lock ≡ 1) × ((l : Listing) × (whole ≡ kept ++ l ∷ []))

-- an owner's history is the whole one, and what it found in doubt is among the doubts of some seat
abbrev pub KnowsLock : List Listing → List SeatView → List Listing → Lock → Type 0
KnowsLock whole views history Free = Unit {0}
KnowsLock whole views history (Owner found) = (history ≡ whole) × IsCovered views found

-- a seat without parts knows nothing and has nothing
pub record IsSpent (v : SeatView) : Type 0 where
  pub history : v.history ≡ []
  pub told : v.told ≡ []
  pub amount : v.amount ≡ 0
  pub doubts : v.doubts ≡ []
  pub away : v.turn ≡ Away
  pub free : v.lock ≡ Free

-- what is true of each seat: its histories begin the whole one, its opening and its subject are the board's where it has parts, and it knows its turn, its lock, and nothing where it has no parts
pub record Knows (whole : List Listing) (opening : ℕ) (subject : Subject) (views : List SeatView) (v : SeatView) : Type 0 where
  pub seen : IsPrefix v.history whole
  pub heard : IsPrefix v.told whole
  pub opened : 0 < v.parts → v.opening ≡ opening
  pub about : 0 < v.parts → v.subject ≡ subject
  pub turn : KnowsTurn whole v.lock v.turn
  pub lock : KnowsLock whole views v.history v.lock
  pub spent : v.parts ≡ 0 → IsSpent v

module _ {X Y : Type 0} where
  -- slot 0 is at home exactly where no seat is holder, and then its value has the whole history
  abbrev pub ValueIs : (X → List Listing) → List Listing → ℕ → maybe.Option (Slot X Y) → Type 0
  ValueIs list whole holders slot = ((holders ≡ 0) × (x : X) × (slot ≡ maybe.some (Value x)) × (list x ≡ whole)) ⊎ ((holders ≡ 1) × (slot ≡ maybe.none))

  -- slot 1 is at home exactly where no seat is owner, and then its state has the whole history, and its listing in doubt is among the doubts of some seat
  abbrev pub StateIs : (Y → List Listing) → (Y → Option Listing) → List Listing → List SeatView → ℕ → maybe.Option (Slot X Y) → Type 0
  StateIs list doubt whole views owners slot = ((owners ≡ 0) × (y : Y) × (slot ≡ maybe.some (Locked y)) × (list y ≡ whole) × IsCovered views (doubt y)) ⊎ ((owners ≡ 1) × (slot ≡ maybe.none))

  -- the rule: there are a whole history, an opening length, a subject and a number of posts, and what the two slots have at home, for which all of this holds
  pub record IsKept (value_list : X → List Listing) (value_subject : X → List ℕ) (state_list : Y → List Listing) (doubt : Y → Option Listing) (state_subject : Y → Subject) (s : State (Slot X Y) SeatView) : Type 0 where
    pub whole : List Listing
    pub opening : ℕ
    pub subject : Subject
    pub posts : ℕ
    pub value : maybe.Option (Slot X Y)
    pub state : maybe.Option (Slot X Y)
    -- word 0 is the number of holders, word 1 the number of posts, and word 2 the number of owners
    pub words : s.words ≡ holder_count s.views ∷ posts ∷ owner_count s.views ∷ []
    pub homes : s.homes ≡ value ∷ state ∷ []
    -- there is one holder and one owner at most, and each slot is at home exactly where there is none
    pub value_is : ValueIs value_list whole (holder_count s.views) value
    pub state_is : StateIs state_list doubt whole s.views (owner_count s.views) state
    -- a value at home is about the subject's text, and a state at home about the subject
    pub value_about : (x : X) → value ≡ maybe.some (Value x) → value_subject x ≡ subject.text
    pub state_about : (y : Y) → state ≡ maybe.some (Locked y) → state_subject y ≡ subject
    -- the posts are what the whole history has beyond the opening, and the amounts of all seats
    pub counted : opening + posts ≡ length whole
    pub amounts : total (λ v. v.amount) s.views ≡ posts
    pub parts : total (λ v. v.parts) s.views ≡ all_parts
    pub seats : (i : ℕ) (v : SeatView) → get_elem? s.views i ≡ maybe.some v → Knows whole opening subject s.views v
