-- What each step on the table tells the seat that makes it, of the seat before, of the word that it found and of the seat after.
use Rattle.std.specs.Prelude.{◌≡◌, ◌≢◌, ℕ, ◌+◌, ◌≤◌, List, [], ◌∷◌, length, Option, Some, Contains, true, false}
use mathlib.Core.List.{IsPrefix}
use Rattle.atomic_table.specs.Table.{Me, Step, rest}
use Rattle.fd_entries.specs.declared.batch.Listing.{Listing}
use Rattle.fd_turn.specs.declared.view.SeatView.{SeatView}
use Rattle.fd_turn.specs.declared.view.Subject.{Subject}
use Rattle.fd_turn.specs.declared.view.Turn.TheVariants.{Away, Holder}
use Rattle.fd_turn.specs.declared.view.Lock.{Lock}
use Rattle.fd_turn.specs.declared.view.Lock.TheVariants.{Free, Owner}
use Rattle.fd_turn.specs.declared.rule.Slot.{Slot}
use Rattle.fd_turn.specs.declared.rule.Slot.TheVariants.{Value, Locked, Empty}
use Rattle.fd_turn.specs.Views.{all_parts, Settles}
use Rattle.fd_turn.specs.Seats.{compared_seat, with_turn, with_history, with_post, owner_seat, released_seat}

-- the slots that are out with a pass between calls: slot 1 of an owner, empty, since the state was handed out
abbrev pub slots_out : {X Y : Type 0} → Lock → List (ℕ × Slot X Y)
slots_out Free = []
slots_out (Owner found) = (1, Empty) ∷ []

-- what a seat with every part knows of a whole history and of a listing in doubt: its amount is the number of listings after the opening, and the doubt is one of its own
abbrev pub Accounts : SeatView → List Listing → Option Listing → Type 0
Accounts v xs doubt = v.parts ≡ all_parts → (v.opening + v.amount ≡ length xs) × ((l : Listing) → doubt ≡ Some l → Contains v.doubts l)

module _ {X Y : Type 0} where
  -- a compare-exchange of word 0 from 0 to 1 takes the value, where it found 0
  abbrev pub took_turn : (X → List Listing) → (X → List ℕ) → Step (Slot X Y) → Me (Slot X Y) SeatView → ℕ → Me (Slot X Y) SeatView → Type 0
  took_turn list subject st m found m' =
      (found ≡ 0 → (x : X) × (m' ≡ (with_turn m.0 (Holder (list x) false), (0, Value x) ∷ m.1)) × ((d : Option Listing) → m.0.lock ≡ Owner d → list x ≡ m.0.history) × (subject x ≡ m.0.subject.text))
      × (found ≢ 0 → m' ≡ m)

  -- a load of word 1 makes the list of the value the history
  abbrev pub read : Step (Slot X Y) → Me (Slot X Y) SeatView → ℕ → Me (Slot X Y) SeatView → Type 0
  read st m found m' = (kept : List Listing) → m.0.turn ≡ Holder kept false → (m' ≡ (with_history m.0 kept, m.1)) × IsPrefix m.0.history kept × (m.0.parts ≡ all_parts → m.0.opening + m.0.amount ≡ length kept)

  -- an addition of 1 to word 1 posts the value in the slot
  abbrev pub published : (X → List Listing) → Step (Slot X Y) → Me (Slot X Y) SeatView → ℕ → Me (Slot X Y) SeatView → Type 0
  published list st m found m' = (x : X) (kept : List Listing) → m.1 ≡ (0, Value x) ∷ rest m.1 → m.0.turn ≡ Holder kept false → m' ≡ (with_turn (with_post m.0 (list x)) (Holder kept true), m.1)

  -- a store of 0 in word 0 gives the value back
  abbrev pub left_turn : Step (Slot X Y) → Me (Slot X Y) SeatView → ℕ → Me (Slot X Y) SeatView → Type 0
  left_turn st m found m' = m' ≡ (with_turn m.0 Away, rest m.1)

  -- a compare-exchange of word 2 from 0 to 1 takes the state, where it found 0
  abbrev pub took_lock : (Y → List Listing) → (Y → Option Listing) → (Y → Subject) → Step (Slot X Y) → Me (Slot X Y) SeatView → ℕ → Me (Slot X Y) SeatView → Type 0
  took_lock list doubt subject st m found m' =
      (found ≡ 0 → (y : Y) × (m' ≡ (owner_seat m.0 (list y) (doubt y), (1, Locked y) ∷ m.1)) × IsPrefix m.0.history (list y) × Accounts m.0 (list y) (doubt y) × ((subject y).text ≡ m.0.subject.text) × ((subject y).told ≡ m.0.subject.told))
      × (found ≢ 0 → m' ≡ m)

  -- a store of 0 in word 2 gives the state back
  abbrev pub left_lock : (Y → Option Listing) → Step (Slot X Y) → Me (Slot X Y) SeatView → ℕ → Me (Slot X Y) SeatView → Type 0
  left_lock doubt st m found m' = (y : Y) → m.1 ≡ (1, Locked y) ∷ rest m.1
      → (after : List Listing) × (m' ≡ (released_seat m.0 after, rest m.1)) × Settles m.0.lock m.0.doubts (doubt y) after

  -- a load after a join compares the two histories
  abbrev pub compared : Step (Slot X Y) → Me (Slot X Y) SeatView → ℕ → Me (Slot X Y) SeatView → Type 0
  compared st m found m' = (m' ≡ (compared_seat m.0, m.1)) × (length m.0.told ≤ length m.0.history → IsPrefix m.0.told m.0.history)
