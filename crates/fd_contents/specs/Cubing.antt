-- What `cubes` does: which lines it prints of the keys that match, and what each status tells of them.
use Rattle.std.specs.Prelude.{◌≡◌, ◌⊎◌, ◌≤◌, ℕ, List, [], map, Option, Some, None, Ok, Err, IfSome}
use Rattle.std.specs.List.{All, AllZip}
use Rattle.std.specs.Result.{IsErr}
use Rattle.std.specs.List.Sorted.{IsPermutation}
use Rattle.fd_disk.specs.Folders.{Holdings, WhereTold}
use Rattle.fd_entries.specs.declared.batch.Pair.{Pair}
use Rattle.fd_request.specs.Expansion.{Keyword}
use Rattle.fd_request.specs.Limits.{request_of}
use Rattle.fd_words.specs.declared.command.Command.{Command}
use Rattle.fd_words.specs.declared.command.Command.TheVariants as commands
use Rattle.fd_cubes.specs.Axes.{AreSorted}
use Rattle.fd_cubes.specs.Cubes.{IsCube, cube_text, keys_of}
use Rattle.fd_cubes.specs.Joining.{NoneCanJoin}
use Rattle.fd_inventory.specs.Written.{text_lines}
use Rattle.fd_stored.specs.declared.status.Status.{Status}
use Rattle.fd_stored.specs.declared.status.Status.TheVariants.{Done, Missed, Words, InputFault, OutputFault, DiskFault, NoMemory}
use Rattle.fd_outcome.specs.Asking.{rules_of}
use Rattle.fd_stored.specs.Causes.{Cause}
use Rattle.fd_outcome.specs.Cubing.{keys_refusal}
use Rattle.fd_outcome.specs.Ends.{AreSound, Calm, Ends, ReadsOut, troubles}
use Rattle.fd_outcome.specs.Matching.{Keys, matching}
use Rattle.fd_outcome.specs.Noticing.{AreUndamaged, IsUnread, ReadsFitly}
use Rattle.fd_outcome.specs.Objects.{Failed, IsCalm, Object, failures}
use Rattle.fd_outcome.specs.Outcome.{Outcome, lines_early, printed, refused}
use Rattle.fd_stored.specs.Store.{AreNames, IsLookedThrough}
use Rattle.fd_contents.specs.Asked.{asked_in}
use Rattle.fd_contents.specs.Gathering.{IsTableIn}

-- ---- which lines are printed

-- The lines are cubes of the keys, in byte order: each key is a key of exactly one cube, and the cubes have no others; no two
-- of the cubes can be joined; and each line is read as the request that its cube is.
pub record AreCubes (ks : Keys) (lines : List (List ℕ)) : Type 0 where
  pub cubes : List (List Keyword)
  pub keys : IsPermutation ks (keys_of cubes)
  pub apart : NoneCanJoin cubes
  pub each : All IsCube cubes
  pub read : All (λ cube. request_of (cube_text cube) ≡ Ok cube) cubes
  pub texts : IsPermutation (map cube_text cubes) lines
  pub sorted : AreSorted lines

-- These are the keys that match: of each dataset those of its table, where it is sound, and in any case those of such batches as its
-- indexes have records of.
pub record AreMatching (keywords : List Keyword) (h : Holdings) (names : List (List ℕ)) (ks : Keys) : Type 0 where
  pub tables : List (List (List Pair))
  pub each : AllZip (IsTableIn h) names tables
  pub are : ks ≡ matching keywords names tables

-- What `cubes` makes of its input and of what the store holds: it is refused in the manner of `list`, or by the keys that match,
-- or it prints cubes of them.
pub data CubesTo (h : Holdings) (names : List (List ℕ)) (octets : List ℕ) (o : Outcome) : Type 0 where
  IsRefused : (cause : Cause) (asked : asked_in h octets ≡ Err cause) (is : o ≡ refused cause) → CubesTo h names octets o
  HasRefused : (keywords : List Keyword) (asked : asked_in h octets ≡ Ok keywords) (ks : Keys) (are : AreMatching keywords h names ks) (cause : Cause) (refusal : keys_refusal ks ≡ Some cause) (is : o ≡ refused cause)
      → CubesTo h names octets o
  HasPrinted : (keywords : List Keyword) (asked : asked_in h octets ≡ Ok keywords) (ks : Keys) (are : AreMatching keywords h names ks) (none : keys_refusal ks ≡ None) (lines : List (List ℕ)) (cubes : AreCubes ks lines)
      (is : o ≡ printed (text_lines lines)) → CubesTo h names octets o

-- ---- what each status tells

module _ (root : List ℕ) (s : Status) (store : Object Holdings) (input output report : Object (List ℕ)) where
  -- the run ends as one that makes this of its input and of its store
  abbrev pub EndsAs : List ℕ → Holdings → Holdings → List (List ℕ) → Outcome → Type 0
  EndsAs octets h i names o =
      Ends (failures store input output report) s (Some o) (lines_early o.output) (troubles (commands.Cubes root) (failures store input output report) h i names octets) output.before output.now report.before report.now

  -- It comes to its end, or is stopped before anything is printed.
  abbrev pub Comes : List ℕ → Holdings → Holdings → List (List ℕ) → Type 0
  Comes octets h i names = ((o : Outcome) × CubesTo h names octets o × EndsAs octets h i names o) ⊎ (¬ (s ≡ Done) × EndsAs octets h i names (printed []))

  -- Where no call failed and no dataset is damaged it comes to its end, or memory ran out.
  abbrev pub IsComplete : List ℕ → Holdings → List (List ℕ) → Type 0
  IsComplete octets h names = AreSound (commands.Cubes root) h names octets → ¬ (Failed store) → ¬ (Failed input) → ¬ (Failed output) → ¬ (Failed report)
      → ((o : Outcome) × CubesTo h names octets o × (s ≡ o.status)) ⊎ (s ≡ NoMemory)

  -- of what the input and the store tell, and of the names of the datasets
  abbrev pub WhereCubed : (List ℕ → Holdings → Holdings → List (List ℕ) → Type 0) → Type 0
  WhereCubed P = IfSome input.before (λ octets. IfSome store.before (λ h. IfSome store.now (λ i. (names : List (List ℕ)) → AreNames h names → P octets h i names)))

  -- What `cubes` has done: each table is as it was, or synced, and a fault is told only where a count rose. At 0 none of the datasets
  -- has a damage that an opening can notice; and where the store has no schema that is one, nothing of the input was read.
  pub record CubesRan : Type 0 where
    pub ends : WhereCubed Comes
    pub complete : WhereCubed (λ octets h i names. IsComplete octets h names)
    pub undamaged : s ≡ Done → WhereCubed (λ octets h i names. AreUndamaged (commands.Cubes root) h names octets)
    pub unread : ReadsFitly (commands.Cubes root) store input
    pub looks : WhereTold store.before store.now IsLookedThrough
    pub words : ¬ (s ≡ Words)
    pub to_end : ((s ≡ Done) ⊎ (s ≡ Missed)) → ReadsOut (commands.Cubes root) input.before input.now
    pub calm : Calm (commands.Cubes root) s input output report
    pub input_fault : s ≡ InputFault → Failed input
    pub output_fault : s ≡ OutputFault → Failed output ⊎ Failed report
    pub disk_fault : s ≡ DiskFault → Failed store

-- this holds of the command, if it is `cubes`
abbrev pub OfCubes : Command → (List ℕ → Type 0) → Type 0
OfCubes (commands.Pick wanted) P = Unit {0}
OfCubes commands.Describe P = Unit {0}
OfCubes commands.Split P = Unit {0}
OfCubes (commands.Values decimals) P = Unit {0}
OfCubes (commands.Generate count) P = Unit {0}
OfCubes (commands.Create root) P = Unit {0}
OfCubes (commands.Archive root given workers) P = Unit {0}
OfCubes (commands.Retrieve root workers) P = Unit {0}
OfCubes (commands.RetrieveOver root layers workers) P = Unit {0}
OfCubes (commands.List root) P = Unit {0}
OfCubes (commands.Axes root) P = Unit {0}
OfCubes (commands.Stats root) P = Unit {0}
OfCubes (commands.Cubes root) P = P root
OfCubes (commands.Session root) P = Unit {0}
OfCubes (commands.Purge root dataset) P = Unit {0}
OfCubes (commands.Wipe root dataset) P = Unit {0}
OfCubes (commands.Trial root count workers) P = Unit {0}

-- `cubes` is about to look for the keys that these keywords ask for: the input was read to its end without a fault, and the
-- store, whose count of faults was m and is n, is as it was; it has a schema, or nothing was read.
pub record BeginsCubes (keywords : List Keyword) (before now : Option Holdings) (m n : ℕ) (input : Object (List ℕ)) : Type 0 where
  pub asked : IfSome before (λ h. IfSome input.before (λ octets. asked_in h octets ≡ Ok keywords))
  pub same : now ≡ before
  pub later : m ≤ n
  pub calm : IsCalm input
  pub read : IfSome input.before (λ octets. input.now ≡ Some [])
  pub unread : IfSome before (λ h. IsErr (rules_of h.schema) → IsUnread input)
