-- What the code that reads a script answers.
use Rattle.std.specs.Prelude.{◌≡◌, ◌<◌, ◌≤◌, ◌+◌, ℕ, Bool, List, [], ◌∷◌, ◌++◌, map, length, string_bytes, Option, Some, None, option_map, IsSome, Result, Ok, Err}
use Rattle.std.specs.Prelude.{String}
use Rattle.std.specs.declared.alloc.Global.{Global}
use Rattle.std.specs.List.{AllZip}
use Rattle.fd_key.specs.Given.{Refusal, Pair_at, Clash_of, Twice_of, given_of}
use Rattle.fd_key.specs.declared.fault.GivenFault.{GivenFault}
use Rattle.fd_key.specs.declared.fault.GivenFault.TheVariants as given_faults
use Rattle.fd_request.specs.Grammar as requests
use Rattle.fd_request.specs.Limits.{request_of}
use Rattle.fd_request.specs.Reading.{seen_kind}
use Rattle.fd_request.specs.declared.fault.RequestFault.{RequestFault}
use Rattle.fd_request.specs.declared.fault.RequestFault.TheVariants as request_faults
use Rattle.fd_script.specs.declared.fault.ScriptKind.{ScriptKind}
use Rattle.fd_script.specs.declared.fault.ScriptKind.TheVariants as kinds
use Rattle.fd_script.specs.declared.fault.ScriptFault.{ScriptFault}
use Rattle.fd_script.specs.declared.fault.ScriptFault.TheVariants as faults
use Rattle.fd_script.specs.declared.fault.Refusal as code
use Rattle.fd_script.specs.declared.fault.Refusal.TheVariants as refusals
use Rattle.fd_script.specs.declared.script.Lane.{Lane}
use Rattle.fd_script.specs.declared.script.Step.{Step}
use Rattle.fd_script.specs.declared.script.Step.TheVariants as steps
use Rattle.fd_script.specs.declared.words.Task as task_words
use Rattle.fd_script.specs.declared.words.Task.TheVariants as tasks
use Rattle.fd_script.specs.declared.words.Said as said_words
use Rattle.fd_script.specs.declared.words.Said.TheVariants as sayings
use Rattle.fd_script.specs.Lines.{Task, PutOf, FlushNow, GetOf, Said, Silent, DatasetIs, LaneBegins, Asks, MessagesFollow, Unknown, lines_of}
use Rattle.fd_script.specs.Grammar.{Wrong, TooLong, Byte, Dataset, Word, Name, Given, Request, Number, TooMany, End, Group, Script, Fault, script_from, number_of, dataset_in, lanes_from}
use Rattle.fd_script.specs.declared.reader.Read.{Read}
use Rattle.fd_script.specs.Scripts.{Scripted, IsWithin}

-- why pairs are refused, unless for want of memory
abbrev pub seen_given : GivenFault → Option Refusal
seen_given (given_faults.Pair at) = Some (Pair_at at)
seen_given (given_faults.Clash name) = Some (Clash_of (string_bytes name))
seen_given (given_faults.Twice name) = Some (Twice_of (string_bytes name))
seen_given given_faults.NoMemory = None

-- why a request is refused, unless for want of memory
abbrev pub seen_request : RequestFault → Option requests.Fault
seen_request (request_faults.At at kind) = Some (record { at = at; kind = seen_kind kind })
seen_request request_faults.NoMemory = None

-- what a kind says is wrong with a line, unless memory ran out inside it
abbrev pub seen_wrong : ScriptKind → Option Wrong
seen_wrong kinds.TooLong = Some TooLong
seen_wrong (kinds.Byte b) = Some (Byte b)
seen_wrong kinds.Dataset = Some Dataset
seen_wrong kinds.Word = Some Word
seen_wrong kinds.Name = Some Name
seen_wrong (kinds.Given fault) = option_map Given (seen_given fault)
seen_wrong (kinds.Request fault) = option_map Request (seen_request fault)
seen_wrong kinds.Number = Some Number
seen_wrong (kinds.TooMany count) = Some (TooMany count)
seen_wrong kinds.End = Some End

-- the kind names what is wrong
abbrev pub Names : ScriptKind → Option Wrong → Type 0
Names kind wrong = (wrong ≡ seen_wrong kind) × IsSome (seen_wrong kind)

-- A call succeeded where nothing is wrong, and else names what is. It may also have run out of memory.
abbrev pub Refuses : code.Refusal → Option Wrong → Type 0
Refuses refusals.NoMemory wrong = Unit {0}
Refuses (refusals.Wrong kind) wrong = Names kind wrong

abbrev pub Judges : {X : Type 0} → Result X code.Refusal → Option Wrong → Type 0
Judges (Ok x) wrong = wrong ≡ None
Judges (Err e) wrong = Refuses e wrong

-- the step is what its line asks for
abbrev pub IsStep : Step → Task → Type 0
IsStep (steps.Put n) (PutOf number) = number_of number ≡ Some n
IsStep steps.Flush FlushNow = Unit {0}
IsStep (steps.Get request) (GetOf text) = request_of text ≡ Ok request
IsStep step task = ⊥

-- the lane has the name, the pairs and the steps that its lines say, and the lines of its steps
pub record IsLane (lane : Lane) (g : Group) : Type 0 where
  pub name : string_bytes lane.name ≡ g.name
  pub given : given_of g.pairs ≡ Ok lane.given
  pub steps : AllZip (λ s (t : ℕ × Task). IsStep s t.1) lane.steps g.steps
  pub lines : lane.lines ≡ map (λ (t : ℕ × Task). t.0) g.steps

abbrev pub dataset_bytes : Option (String Global) → Option (List ℕ)
dataset_bytes None = None
dataset_bytes (Some text) = Some (string_bytes text)

-- these are the dataset and the lanes of these lines
pub record IsSaid (dataset : Option (List ℕ)) (lanes : List Lane) (lines : List Said) : Type 0 where
  pub dataset_is : dataset ≡ dataset_in lines
  pub lanes_are : AllZip IsLane lanes (lanes_from 1 lines)

-- a script that is read so, and the place behind it
pub record IsScript (reading : Result Script Fault) (s : Scripted) (place : ℕ) : Type 0 where
  pub lines : List Said
  pub is : reading ≡ Ok (record { lines = lines; place = place })
  pub says : IsSaid (Some s.dataset) s.lanes lines

-- a line that is wrong
abbrev pub wrong_at : ℕ → Wrong → Result Script Fault
wrong_at line w = Err (record { line = line; kind = w })

-- What a call answered is what is read so, or the first line that is wrong and what is wrong with it. It may also have run
-- out of memory.
abbrev pub Gives : Result Script Fault → Result (Scripted × ℕ) ScriptFault → Type 0
Gives reading (Ok p) = IsScript reading p.0 p.1
Gives reading (Err (faults.At line kind)) = (w : Wrong) × (seen_wrong kind ≡ Some w) × (reading ≡ wrong_at line w)
Gives reading (Err faults.NoMemory) = Unit {0}

-- ---- line by line

-- a lane begins behind these
pub record Begins (lanes : List Lane) (name pairs : List ℕ) (new : List Lane) : Type 0 where
  pub lane : Lane
  pub is : new ≡ lanes ++ lane ∷ []
  pub reads : IsLane lane (record { name = name; pairs = pairs; steps = [] })
  pub room : length lanes < 8
  pub none : length lane.steps ≡ 0
  pub no_lines : length lane.lines ≡ 0

-- the last of these lanes has one step more
pub record Adds (lanes : List Lane) (line : ℕ) (task : Task) (new : List Lane) : Type 0 where
  pub front : List Lane
  pub lane : Lane
  pub step : Step
  pub before : lanes ≡ front ++ lane ∷ []
  pub after : new ≡ front ++ record lane { steps = lane.steps ++ step ∷ []; lines = lane.lines ++ line ∷ [] } ∷ []
  pub is : IsStep step task
  pub room : length lane.steps < 4096

-- what was read so far is what these lines say
pub record IsRead (read : Read) (lines : List Said) : Type 0 where
  pub says : IsSaid (dataset_bytes read.dataset) read.lanes.items lines
  pub within : IsWithin read.lanes.items

-- what holds where some lines were read, and this text is left of a whole text
pub record Stands (text rest : List ℕ) (number : ℕ) (read : Read) : Type 0 where
  pub lines : List Said
  pub reads : IsRead read lines
  pub number_is : number ≡ length lines + 1
  pub at : ℕ
  pub place : at + length rest ≡ length text
  pub few : number ≤ at + 1
  pub same : script_from 0 [] (lines_of text) ≡ script_from at lines (lines_of rest)

-- what the code's words ask for and say
abbrev pub seen_task : task_words.Task → Task
seen_task (tasks.Put number) = PutOf number.now
seen_task tasks.Flush = FlushNow
seen_task (tasks.Get request) = GetOf request.now

abbrev pub seen_said : said_words.Said → Said
seen_said sayings.Silent = Silent
seen_said (sayings.Dataset text) = DatasetIs text.now
seen_said (sayings.Lane name pairs) = LaneBegins name.now pairs.now
seen_said (sayings.Step task) = Asks (seen_task task)
seen_said sayings.Messages = MessagesFollow
seen_said sayings.Unknown = Unknown
