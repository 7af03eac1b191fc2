-- The status of a session, by how its steps ended.
use Rattle.std.specs.Prelude.{ℕ, ◌+◌, Bool, true, false, ◌||◌, List, [], ◌∷◌, Option, Some, None, if◌then◌else◌}
use Rattle.fd_segment.specs.declared.fault.Damage.{Damage}
use Rattle.fd_lanes.specs.declared.end.End.{End}
use Rattle.fd_lanes.specs.declared.end.End.TheVariants.{PutOk, PutUnlisted, Fault, Listed, Nothing, TableFull, NoMemory, Damaged, Got}
use Rattle.fd_stored.specs.declared.status.Status.{Status}
use Rattle.fd_stored.specs.declared.status.Status.TheVariants as statuses
use Rattle.fd_stored.specs.Causes.{BadFile, Telling, damaged_line, table_full}
use Rattle.fd_outcome.specs.Ends.{disk_failed, no_memory}
use Rattle.fd_session.specs.declared.closing.Kind.{Kind}
use Rattle.fd_session.specs.declared.closing.Kind.TheVariants as kinds

abbrev pub one_if : Bool → ℕ
one_if true = 1
one_if false = 0

-- the first, or else the second
abbrev pub or_later : Option Damage → Option Damage → Option Damage
or_later (Some d) later = Some d
or_later None later = later

module _ {F : Type 0} where
  -- want of memory
  abbrev pub is_starved : End F → Bool
  is_starved PutOk = false
  is_starved PutUnlisted = false
  is_starved (Fault f) = false
  is_starved (Listed n) = false
  is_starved Nothing = false
  is_starved TableFull = false
  is_starved NoMemory = true
  is_starved (Damaged d) = false
  is_starved (Got n answers) = false

  -- a call of the store failed
  abbrev pub is_fault : End F → Bool
  is_fault PutOk = false
  is_fault PutUnlisted = false
  is_fault (Fault f) = true
  is_fault (Listed n) = false
  is_fault Nothing = false
  is_fault TableFull = false
  is_fault NoMemory = false
  is_fault (Damaged d) = false
  is_fault (Got n answers) = false

  -- the table has 65,535 entries
  abbrev pub is_full : End F → Bool
  is_full PutOk = false
  is_full PutUnlisted = false
  is_full (Fault f) = false
  is_full (Listed n) = false
  is_full Nothing = false
  is_full TableFull = true
  is_full NoMemory = false
  is_full (Damaged d) = false
  is_full (Got n answers) = false

  -- the step ended so
  abbrev pub ends_in : Kind → End F → Bool
  ends_in kinds.Starved e = is_starved e
  ends_in kinds.Fault e = is_fault e
  ends_in kinds.Full e = is_full e

  -- one of the steps of a lane ended so
  abbrev pub lane_has : Kind → List (End F) → Bool
  lane_has kind [] = false
  lane_has kind (e ∷ es) = ends_in kind e || lane_has kind es

  -- one of the steps ended so
  abbrev pub some_has : Kind → List (List (End F)) → Bool
  some_has kind [] = false
  some_has kind (es ∷ ends) = lane_has kind es || some_has kind ends

  -- the damage in which a step ended, if it did
  abbrev pub damage_of : End F → Option Damage
  damage_of PutOk = None
  damage_of PutUnlisted = None
  damage_of (Fault f) = None
  damage_of (Listed n) = None
  damage_of Nothing = None
  damage_of TableFull = None
  damage_of NoMemory = None
  damage_of (Damaged d) = Some d
  damage_of (Got n answers) = None

  -- the first damage that a lane met
  abbrev pub lane_damage : List (End F) → Option Damage
  lane_damage [] = None
  lane_damage (e ∷ es) = or_later (damage_of e) (lane_damage es)

  -- the first damage that the lanes met, in the order of the script
  abbrev pub first_damage : List (List (End F)) → Option Damage
  first_damage [] = None
  first_damage (es ∷ ends) = or_later (lane_damage es) (first_damage ends)

  -- where no end is want of memory or damage
  abbrev pub closing_whole : List (List (End F)) → Telling
  closing_whole ends =
      if some_has kinds.Fault ends then record { status = statuses.DiskFault; line = disk_failed }
      else if some_has kinds.Full ends then record { status = statuses.Limit; line = table_full }
      else record { status = statuses.Done; line = [] }

  abbrev pub closing_damage : List ℕ → Option Damage → List (List (End F)) → Telling
  closing_damage dataset (Some d) ends = record { status = statuses.Damaged; line = damaged_line dataset (BadFile d) }
  closing_damage dataset None ends = closing_whole ends

  -- The status of a session whose steps ended so, in the dataset of the text, and the line that tells it: want of memory comes
  -- first, then damage, then a fault of the store, and then a full table. A miss doesn't count.
  abbrev pub closing : List ℕ → List (List (End F)) → Telling
  closing dataset ends =
      if some_has kinds.Starved ends then record { status = statuses.NoMemory; line = no_memory }
      else closing_damage dataset (first_damage ends) ends

  -- how many steps of a lane ended in a fault
  abbrev pub lane_faults : List (End F) → ℕ
  lane_faults [] = 0
  lane_faults (e ∷ es) = one_if (is_fault e) + lane_faults es

  -- how many steps ended in a fault
  abbrev pub count_faults : List (List (End F)) → ℕ
  count_faults [] = 0
  count_faults (es ∷ ends) = lane_faults es + count_faults ends
