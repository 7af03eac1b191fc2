-- A run that leaves the store as it was.
use Rattle.std.proofs.Common.{◌≡◌, ◌∙◌, ℕ, List, [], Option, Some, None, refl, sym, inl, inr, append-nil, ap, arith}
use Rattle.std.specs.Prelude.{◌⊎◌, Result, Ok, Err}
use Rattle.fd_disk.specs.Folders.{Contents, Holdings, folder_at, WhereTold}
use Rattle.fd_key.specs.Pairs as keys
use Rattle.fd_entries.specs.declared.batch.Pair.{Pair}
use Rattle.fd_schema.specs.Rules.{Rule}
use Rattle.fd_words.specs.declared.command.Command.{Command}
use Rattle.fd_words.specs.declared.command.Command.TheVariants as commands
use Rattle.fd_stored.specs.declared.status.Status.{Status}
use Rattle.fd_stored.specs.declared.status.Status.TheVariants.{NoMemory, OutputFault}
use Rattle.fd_stored.specs.Causes.{Cause}
use Rattle.fd_stored.specs.Store.{Adds, Grows, IsLookedThrough, Sorted, StaysFolder, Stays, table_at}
use Rattle.fd_outcome.specs.Asking.{rules_of}
use Rattle.fd_outcome.specs.Trying.{trial_rules}
use Rattle.fd_outcome.specs.Reclaiming.{InDataset, LeavesPurged, LeavesWiped}
use Rattle.fd_purge.specs.Purging.{IsWhole, read_of}
use Rattle.fd_outcome.specs.Ends.{EndsUnplanted, Leaves, LeavesBy, LeavesTried}

pub stays_folder : (name : List ℕ) (v : Contents) → StaysFolder name v v
stays_folder name v = record { table = refl; files = λ n. refl }

pub stays : (h : Holdings) → Stays h h
stays h = record { schema = refl; folders = λ name. stays_folder name (folder_at h name) }

pub looked : (h : Holdings) → IsLookedThrough h h
looked h = record { schema = refl; folders = λ name. record { files = refl; table = inl refl } }

pub adds_none : (workers : ℕ) (pairs : List Pair) (t : List (List Pair)) (after : Option (List (List Pair))) → after ≡ Some t → Adds workers pairs t after
adds_none workers pairs t after is = record { added = []; after_is = is ∙ ap (λ x. Some x) (sym (append-nil t)); only = λ k d lt. absurd (omega arith); few = omega arith; none = λ e. refl }

pub grows_none : (workers : ℕ) (pairs : Sorted) (h : Holdings) → Grows workers pairs h h
grows_none workers pairs h = record { schema = refl; each = λ name t is. adds_none workers (pairs name) t (table_at h name) is }

-- a status at which the store may be as it was, whatever was read
abbrev pub IsIdle : Status → Type 0
IsIdle s = (s ≡ NoMemory) ⊎ (s ≡ OutputFault)

stored_idle : (s : Status) → IsIdle s → (calm full : Type 0) (workers : ℕ) (r : Result (List Rule) Cause) (given : List keys.Pair) (input : List ℕ) (left : Option (List ℕ)) (h : Holdings) → LeavesBy s calm full workers r given input left h h
stored_idle s (inl is) calm full workers (Ok rules) given input left h = rw is (grows_none workers _ h)
stored_idle s (inr is) calm full workers (Ok rules) given input left h = rw is (λ c. grows_none workers _ h)
stored_idle s idle calm full workers (Err cause) given input left h = stays h

unplanted : (s : Status) → IsIdle s → EndsUnplanted s
unplanted s (inl is) = rw is tt
unplanted s (inr is) = rw is tt

tried_idle : (s : Status) → IsIdle s → (calm full : Type 0) (workers : ℕ) (r : Result (List Rule) Cause) (count : ℕ) (h : Holdings) → LeavesTried s calm full workers r count h h
tried_idle s idle calm full workers (Ok rules) count h = inl (unplanted s idle, stays h)
tried_idle s idle calm full workers (Err cause) count h = stays h

whole_read : (v : Contents) → IsWhole v (read_of v)
whole_read v = record { table = refl; files = λ n. refl }

in_dataset : (dataset : List ℕ) (h : Holdings) (P : Contents → Contents → Type 0) → P (folder_at h dataset) (folder_at h dataset) → InDataset dataset P h h
in_dataset dataset h P there = record { others = record { schema = refl; others = λ other apart. refl }; there = there }

purged_idle : (s : Status) → IsIdle s → (dataset : List ℕ) (v : Contents) → LeavesPurged s dataset v v
purged_idle s (inl is) dataset v = rw is (record { reads = inl (whole_read v); images = inl refl })
purged_idle s (inr is) dataset v = rw is (record { reads = inl (whole_read v); images = inl refl })

wiped_idle : (s : Status) → IsIdle s → (dataset : List ℕ) (v : Contents) → LeavesWiped s dataset v v
wiped_idle s (inl is) dataset v = rw is (record { reads = inl (whole_read v); images = inl refl })
wiped_idle s (inr is) dataset v = rw is (record { reads = inl (whole_read v); images = inl refl })

leaves_idle : (command : Command) (s : Status) → IsIdle s → (calm full : Type 0) (input left : Option (List ℕ)) (h : Holdings) → Leaves command s calm full input left h h
leaves_idle (commands.Pick wanted) s idle calm full input left h = refl
leaves_idle commands.Describe s idle calm full input left h = refl
leaves_idle commands.Split s idle calm full input left h = refl
leaves_idle (commands.Values decimals) s idle calm full input left h = refl
leaves_idle (commands.Generate count) s idle calm full input left h = refl
leaves_idle (commands.Create root) s idle calm full None left h = tt
leaves_idle (commands.Create root) s (inl is) calm full (Some octets) left h = rw is (stays h)
leaves_idle (commands.Create root) s (inr is) calm full (Some octets) left h = rw is (inl (stays h))
leaves_idle (commands.Archive root given workers) s idle calm full None left h = tt
leaves_idle (commands.Archive root given workers) s idle calm full (Some octets) left h = stored_idle s idle calm full workers (rules_of h.schema) given octets left h
leaves_idle (commands.Retrieve root workers) s idle calm full input left h = looked h
leaves_idle (commands.RetrieveOver root layers workers) s idle calm full input left h = looked h
leaves_idle (commands.List root) s idle calm full input left h = looked h
leaves_idle (commands.Axes root) s idle calm full input left h = looked h
leaves_idle (commands.Stats root) s idle calm full input left h = looked h
leaves_idle (commands.Cubes root) s idle calm full input left h = looked h
leaves_idle (commands.Session root) s idle calm full input left h = tt
leaves_idle (commands.Purge root dataset) s idle calm full input left h = in_dataset dataset h (LeavesPurged s dataset) (purged_idle s idle dataset (folder_at h dataset))
leaves_idle (commands.Wipe root dataset) s idle calm full input left h = in_dataset dataset h (LeavesWiped s dataset) (wiped_idle s idle dataset (folder_at h dataset))
leaves_idle (commands.Trial root count workers) s idle calm full input left h = tried_idle s idle calm full workers (trial_rules h.schema) count h

pub idle_store : (command : Command) (s : Status) → IsIdle s → (calm full : Type 0) (input left : Option (List ℕ)) (has : Option Holdings) → WhereTold has has (Leaves command s calm full input left)
idle_store command s idle calm full input left None = tt
idle_store command s idle calm full input left (Some h) = leaves_idle command s idle calm full input left h
