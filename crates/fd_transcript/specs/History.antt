-- The listed flushes of a session in the order of the table.
use Rattle.std.specs.Prelude.{ℕ, zero, suc, ◌+◌, ◌==◌, Bool, ◌&&◌, nat_le, nat_lt, List, [], ◌∷◌, ◌++◌, length, codes, filter, filter_map, flat_map, zip, string_bytes, Option, Some, None, if◌then◌else◌}
use Rattle.std.specs.Fmt.{decimal}
use Rattle.fd_listing.specs.Lines.{blank, line}
use Rattle.fd_script.specs.declared.script.Lane.{Lane}
use Rattle.fd_lanes.specs.declared.end.End.{End}
use Rattle.fd_lanes.specs.declared.end.End.TheVariants.{PutOk, PutUnlisted, Fault, Listed, Nothing, TableFull, NoMemory, Damaged, Got}

-- a listed flush: its lane's name, its number among the lane's listed flushes, from 1, and that of its entry in the table
pub record Flushed : Type 0 where
  pub lane : List ℕ
  pub number : ℕ
  pub entry : ℕ

-- the listed flushes of a lane, by the numbers of their entries; the first of them has this number
abbrev pub flushed_from : List ℕ → ℕ → List ℕ → List Flushed
flushed_from lane number [] = []
flushed_from lane number (n ∷ entries) = record { lane = lane; number = number; entry = n } ∷ flushed_from lane (number + 1) entries

module _ {F : Type 0} where
  -- the number of the entry of a flush that was listed
  abbrev pub entry_of : End F → Option ℕ
  entry_of PutOk = None
  entry_of PutUnlisted = None
  entry_of (Fault f) = None
  entry_of (Listed n) = Some n
  entry_of Nothing = None
  entry_of TableFull = None
  entry_of NoMemory = None
  entry_of (Damaged d) = None
  entry_of (Got n answers) = None

  -- the listed flushes of a lane
  abbrev pub lane_flushed : Lane × List (End F) → List Flushed
  lane_flushed p = flushed_from (string_bytes p.0.name) 1 (filter_map entry_of p.1)

  -- the listed flushes of all lanes, lane by lane
  abbrev pub all_flushed : List Lane → List (List (End F)) → List Flushed
  all_flushed lanes ends = flat_map lane_flushed (zip lanes ends)

-- so many numbers behind this one
abbrev pub numbers_behind : ℕ → ℕ → List ℕ
numbers_behind b zero = []
numbers_behind b (suc n) = (b + 1) ∷ numbers_behind (b + 1) n

-- the flushes of this entry
abbrev pub at_entry : List Flushed → ℕ → List Flushed
at_entry flushes n = filter (λ f. f.entry == n) flushes

-- The flushes in the order of their entries, of which there are as many as flushes, behind this many before.
abbrev pub in_order : ℕ → List Flushed → List Flushed
in_order b flushes = flat_map (at_entry flushes) (numbers_behind b (length flushes))

-- a listed flush on the line of the history
abbrev pub flushed_text : Flushed → List ℕ
flushed_text f = blank (f.lane ++ 46 ∷ decimal f.number)

-- the line of the history
abbrev pub history_line : List Flushed → List ℕ
history_line history = line (codes "history" ++ flat_map flushed_text history)

-- the number is behind the first of these, and not behind the second
abbrev pub is_within : ℕ → ℕ → ℕ → Bool
is_within before last n = nat_lt before n && nat_le n last

-- the text of a flush, if the number of its entry is so
abbrev pub flushed_within : ℕ → ℕ → Flushed → List ℕ
flushed_within before last f = if is_within before last f.entry then flushed_text f else []
