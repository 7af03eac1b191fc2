-- What a listing of a store asks for, and why it is refused.
use Rattle.std.specs.Prelude.{◌≡◌, ◌≤◌, ℕ, List, [], Contains, option_map, Option, Some, Result, Ok, Err}
use Rattle.fd_disk.specs.Folders.{Holdings}
use Rattle.fd_schema.specs.Grammar as schemas
use Rattle.fd_schema.specs.Reading.{IsFirst}
use Rattle.fd_schema.specs.Rules.{Rule}
use Rattle.fd_request.specs.Expansion.{Keyword}
use Rattle.fd_request.specs.Reading.{seen_kind}
use Rattle.fd_words.specs.declared.command.Command.{Command}
use Rattle.fd_words.specs.declared.command.Command.TheVariants as commands
use Rattle.fd_outcome.specs.Asking.{partial_in, rules_of, ◌then◌}
use Rattle.fd_stored.specs.Causes as causes
use Rattle.fd_stored.specs.Causes.{Cause}
use Rattle.fd_outcome.specs.Ends.{Opens, ReadsOut}
use Rattle.fd_outcome.specs.Objects.{IsCalm, Object}
use Rattle.fd_outcome.specs.Outcome.{outcome, printed}
use Rattle.fd_telling.specs.declared.stop.Stop.{Stop}
use Rattle.fd_telling.specs.declared.stop.Stop.TheVariants as stops
use Rattle.fd_contents.specs.declared.lines.Lines.{Lines}
use Rattle.fd_contents.specs.Texts.{texts_for}

-- the schema has rules
abbrev pub IsRuled : Option (List ℕ) → Type 0
IsRuled schema = (rules : List Rule) × (rules_of schema ≡ Ok rules)

-- this is why it has none
abbrev pub unruled : Option (List ℕ) → Cause → Type 0
unruled schema cause = rules_of schema ≡ Err cause

-- the keywords of the partial request, or why there are none
abbrev pub asked_in : Holdings → List ℕ → Result (List Keyword) Cause
asked_in h octets = rules_of h.schema then λ rules. partial_in octets

-- the cause that is told; nothing is said of a fault, nor of want of memory
abbrev pub Refuses : {F : Type 0} → Stop F → (Cause → Type 0) → Type 0
Refuses (stops.Disk f) P = Unit {0}
Refuses stops.Input P = Unit {0}
Refuses stops.Missing P = P causes.SchemaMissing
Refuses (stops.Schema line kind) P = (text : List ℕ) × (fault : schemas.Fault) × IsFirst text line kind fault × P (causes.InStored text fault)
Refuses (stops.Request at kind) P = P (causes.InRequest (record { at = at; kind = seen_kind kind }))
Refuses (stops.NoRule text) P = ⊥
Refuses (stops.NoLayer layer text) P = ⊥
Refuses stops.TooMany P = ⊥
Refuses (stops.Broken dataset broken) P = ⊥
Refuses stops.NoMemory P = Unit {0}

-- it comes before a dataset is opened
abbrev pub IsEarly : {F : Type 0} → Stop F → Type 0
IsEarly (stops.Disk f) = Unit {0}
IsEarly stops.Input = Unit {0}
IsEarly stops.Missing = Unit {0}
IsEarly (stops.Schema line kind) = Unit {0}
IsEarly (stops.Request at kind) = Unit {0}
IsEarly (stops.NoRule text) = ⊥
IsEarly (stops.NoLayer layer text) = ⊥
IsEarly stops.TooMany = ⊥
IsEarly (stops.Broken dataset broken) = ⊥
IsEarly stops.NoMemory = Unit {0}

-- the command lists what the datasets hold
abbrev pub IsListing : Command → Type 0
IsListing (commands.Pick wanted) = ⊥
IsListing commands.Describe = ⊥
IsListing commands.Split = ⊥
IsListing (commands.Values decimals) = ⊥
IsListing (commands.Generate count) = ⊥
IsListing (commands.Create root) = ⊥
IsListing (commands.Archive root given workers) = ⊥
IsListing (commands.Retrieve root workers) = ⊥
IsListing (commands.RetrieveOver root layers workers) = ⊥
IsListing (commands.List root) = Unit {0}
IsListing (commands.Axes root) = Unit {0}
IsListing (commands.Stats root) = Unit {0}
IsListing (commands.Session root) = ⊥
IsListing (commands.Cubes root) = ⊥
IsListing (commands.Purge root dataset) = ⊥
IsListing (commands.Wipe root dataset) = ⊥
IsListing (commands.Trial root count workers) = ⊥

-- of what the input and the store tell, as far as the command asks them
abbrev pub WhereSeen : Command → Option (List ℕ) → Option Holdings → (List ℕ → Holdings → Type 0) → Type 0
WhereSeen (commands.Generate count) input store P = (h : Holdings) → store ≡ Some h → P [] h
WhereSeen (commands.Stats root) input store P = (h : Holdings) → store ≡ Some h → P [] h
WhereSeen (commands.Trial root count workers) input store P = (h : Holdings) → store ≡ Some h → P [] h
WhereSeen (commands.Pick wanted) input store P = (octets : List ℕ) (h : Holdings) → input ≡ Some octets → store ≡ Some h → P octets h
WhereSeen commands.Describe input store P = (octets : List ℕ) (h : Holdings) → input ≡ Some octets → store ≡ Some h → P octets h
WhereSeen commands.Split input store P = (octets : List ℕ) (h : Holdings) → input ≡ Some octets → store ≡ Some h → P octets h
WhereSeen (commands.Values decimals) input store P = (octets : List ℕ) (h : Holdings) → input ≡ Some octets → store ≡ Some h → P octets h
WhereSeen (commands.Create root) input store P = (octets : List ℕ) (h : Holdings) → input ≡ Some octets → store ≡ Some h → P octets h
WhereSeen (commands.Archive root given workers) input store P = (octets : List ℕ) (h : Holdings) → input ≡ Some octets → store ≡ Some h → P octets h
WhereSeen (commands.Retrieve root workers) input store P = (octets : List ℕ) (h : Holdings) → input ≡ Some octets → store ≡ Some h → P octets h
WhereSeen (commands.RetrieveOver root layers workers) input store P = (octets : List ℕ) (h : Holdings) → input ≡ Some octets → store ≡ Some h → P octets h
WhereSeen (commands.List root) input store P = (octets : List ℕ) (h : Holdings) → input ≡ Some octets → store ≡ Some h → P octets h
WhereSeen (commands.Axes root) input store P = (octets : List ℕ) (h : Holdings) → input ≡ Some octets → store ≡ Some h → P octets h
WhereSeen (commands.Session root) input store P = (octets : List ℕ) (h : Holdings) → input ≡ Some octets → store ≡ Some h → P octets h
WhereSeen (commands.Cubes root) input store P = (octets : List ℕ) (h : Holdings) → input ≡ Some octets → store ≡ Some h → P octets h
WhereSeen (commands.Purge root dataset) input store P = (h : Holdings) → store ≡ Some h → P [] h
WhereSeen (commands.Wipe root dataset) input store P = (h : Holdings) → store ≡ Some h → P [] h

-- A listing is about to begin, which writes these lines and opens each dataset: the input was read to its end without a fault, where
-- the command reads it, and the store, whose count of faults was m and is n, is as it was.
pub record Begins (command : Command) (lines : Lines) (before now : Option Holdings) (m n : ℕ) (input : Object (List ℕ)) : Type 0 where
  pub is_listing : IsListing command
  pub prints : WhereSeen command input.before before (λ octets h. (names : List (List ℕ)) → outcome command h names octets ≡ option_map printed (texts_for lines h names))
  pub opens : WhereSeen command input.before before (λ octets h. (names : List (List ℕ)) (name : List ℕ) → Contains names name → Opens command h names octets name)
  pub same : now ≡ before
  pub later : m ≤ n
  pub calm : IsCalm input
  pub read : ReadsOut command input.before input.now
