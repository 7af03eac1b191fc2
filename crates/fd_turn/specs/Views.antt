-- What contracts see of a pass, as plain data, and what the calls of a board make of it.
use Rattle.std.specs.Prelude.{◌≡◌, ◌≢◌, ℕ, Bool, ◌+◌, ◌-◌, ◌^◌, List, [], ◌∷◌, ◌++◌, length, Option, Some, None, cond, nat_lt}
use Rattle.fd_entries.specs.declared.batch.Listing.{Listing}
use Rattle.fd_turn.specs.declared.view.Lock.{Lock}
use Rattle.fd_turn.specs.declared.view.Lock.TheVariants.{Free, Owner}

-- what a pass knows: the listings that it has seen, its parts, how many listings it has posted since they were counted to it, the listings that it may have listed, how many listings the board began with, what the board is about, whether its state tells its contents, and whether it is the owner
pub record View : Type 0 where
  pub history : List Listing
  pub parts : ℕ
  pub amount : ℕ
  pub doubts : List Listing
  pub opening : ℕ
  pub subject : List ℕ
  pub told : Bool
  pub lock : Lock

-- the parts of all passes of a board together
abbrev pub all_parts : ℕ
all_parts = 2 ^ 32

-- the pass that a board about this subject begins with, whose state tells its contents or not, over this list
abbrev pub first_view : List ℕ → Bool → List Listing → View
first_view subject told xs = record { history = xs; parts = all_parts; amount = 0; doubts = []; opening = length xs; subject = subject; told = told; lock = Free }

-- the pass that was split: it has one part fewer
abbrev pub donor : View → View
donor v = record v { parts = v.parts - 1 }

-- the pass that a split gives: it has that part and the same history
abbrev pub recipient : View → View
recipient v = record { history = v.history; parts = 1; amount = 0; doubts = []; opening = v.opening; subject = v.subject; told = v.told; lock = Free }

-- the longer of two lists, and the first where neither is longer
abbrev pub longer : List Listing → List Listing → List Listing
longer xs ys = cond (nat_lt (length xs) (length ys)) ys xs

-- two passes in one: the longer history, the sums of parts and amounts, and the doubts of both
abbrev pub merger : View → View → View
merger v w = record { history = longer v.history w.history; parts = v.parts + w.parts; amount = v.amount + w.amount; doubts = v.doubts ++ w.doubts; opening = v.opening; subject = v.subject; told = v.told; lock = v.lock }

-- the pass is the owner, with the listing in doubt that it found, or none
abbrev pub IsOwner : Lock → Type 0
IsOwner lock = (found : Option Listing) × (lock ≡ Owner found)

-- what becomes of an owner's doubts where it gives back a state with this listing in doubt, or none: none where there is none, as before where the listing is the one that it found, and else that listing alone
pub record Settles (lock : Lock) (before : List Listing) (left : Option Listing) (after : List Listing) : Type 0 where
  pub sure : left ≡ None → after ≡ []
  pub found : (l : Listing) → left ≡ Some l → lock ≡ Owner (Some l) → after ≡ before
  pub new : (l : Listing) → left ≡ Some l → lock ≢ Owner (Some l) → after ≡ l ∷ []
