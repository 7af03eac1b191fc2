-- What a seat of the table knows: what contracts see of its pass, the turn for the value, and a second history while a join compares two. And what each step makes of it.
use Rattle.std.specs.Prelude.{ℕ, Bool, false, ◌+◌, ◌-◌, List, [], ◌++◌, length, Option, cond, nat_lt}
use Rattle.fd_entries.specs.declared.batch.Listing.{Listing}
use Rattle.fd_turn.specs.declared.view.SeatView.{SeatView}
use Rattle.fd_turn.specs.declared.view.Subject.{Subject}
use Rattle.fd_turn.specs.declared.view.Turn.{Turn}
use Rattle.fd_turn.specs.declared.view.Turn.TheVariants.{Away}
use Rattle.fd_turn.specs.declared.view.Lock.TheVariants.{Free, Owner}
use Rattle.fd_turn.specs.Views.{View, all_parts, longer}

-- what contracts see of it
abbrev pub view_of : SeatView → View
view_of v = record { history = v.history; parts = v.parts; amount = v.amount; doubts = v.doubts; opening = v.opening; subject = v.subject.text; told = v.subject.told; lock = v.lock }

-- what the states are about, and whether they tell their contents
abbrev pub subject_by : {Y : Type 0} → (Y → List ℕ) → (Y → Bool) → Y → Subject
subject_by text told y = record { text = text y; told = told y }

-- the first seat of a board about this subject, over this list
abbrev pub first_seat : Subject → List Listing → SeatView
first_seat subject xs = record { history = xs; told = []; parts = all_parts; amount = 0; doubts = []; opening = length xs; subject = subject; turn = Away; lock = Free }

-- a split: the seat that has one part fewer, and the seat that gets it
abbrev pub donor_seat : SeatView → SeatView
donor_seat v = record v { parts = v.parts - 1 }

abbrev pub recipient_seat : SeatView → SeatView
recipient_seat v = record { history = v.history; told = []; parts = 1; amount = 0; doubts = []; opening = v.opening; subject = v.subject; turn = Away; lock = Free }

-- the shorter of two lists, and the second where neither is shorter
abbrev pub shorter : List Listing → List Listing → List Listing
shorter xs ys = cond (nat_lt (length xs) (length ys)) xs ys

-- a join: the seat that is kept, whose two histories are not compared yet, and the seat that is spent
abbrev pub merged_seat : SeatView → SeatView → SeatView
merged_seat v w = record { history = longer v.history w.history; told = shorter v.history w.history; parts = v.parts + w.parts; amount = v.amount + w.amount; doubts = v.doubts ++ w.doubts; opening = v.opening; subject = v.subject; turn = v.turn; lock = v.lock }

abbrev pub spent_seat : SeatView
spent_seat = record { history = []; told = []; parts = 0; amount = 0; doubts = []; opening = 0; subject = record { text = []; told = false }; turn = Away; lock = Free }

-- the two histories are compared
abbrev pub compared_seat : SeatView → SeatView
compared_seat v = record v { told = [] }

abbrev pub with_turn : SeatView → Turn → SeatView
with_turn v t = record v { turn = t }

abbrev pub with_history : SeatView → List Listing → SeatView
with_history v xs = record v { history = xs }

-- it has posted this list, which is one listing longer than its history
abbrev pub with_post : SeatView → List Listing → SeatView
with_post v xs = record v { history = xs; amount = v.amount + 1 }

-- the owner of a state with this list, who found this listing in doubt
abbrev pub owner_seat : SeatView → List Listing → Option Listing → SeatView
owner_seat v xs found = record v { history = xs; lock = Owner found }

-- no owner any more, with these doubts
abbrev pub released_seat : SeatView → List Listing → SeatView
released_seat v doubts = record v { doubts = doubts; lock = Free }
