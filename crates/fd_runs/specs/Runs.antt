-- A session of lanes as one list of the machine's steps.
use Rattle.std.specs.Prelude.{◌≡◌, ◌≢◌, ◌<◌, ◌≤◌, ◌+◌, ◌^◌, ◌||◌, ◌++◌, ℕ, zero, suc, Bool, true, false, nat_lt, List, [], ◌∷◌, map, length, All, Option}
use Rattle.fd_entries.specs.declared.batch.Pair.{Pair}
use Rattle.fd_entries.specs.Batches.{KeysFit, distinct, rows, total}
use Rattle.fd_machine.specs.declared.machine.Step.{Step}
use Rattle.fd_machine.specs.declared.machine.Step.TheVariants as steps
use Rattle.fd_machine.specs.declared.machine.Took.{Took}
use Rattle.fd_machine.specs.declared.machine.Took.TheVariants as answers
use Rattle.fd_machine.specs.World.{World}
use Rattle.fd_machine.specs.Machine.{after, start}
use Rattle.fd_machine.specs.Took.{answered, took_of}
use Rattle.fd_lanes.specs.Acts.{Act, Put, Flush, Get}
use Rattle.fd_lanes.specs.declared.end.End.{End}
use Rattle.fd_lanes.specs.declared.end.End.TheVariants.{PutOk, PutUnlisted, Fault, Listed, TableFull, NoMemory, Got}
use Rattle.fd_lanes.specs.Walks as walks
use Rattle.fd_lanes.specs.Walks.{Stand, answer_bytes, beginning}
use Rattle.fd_lanes.specs.Acts as scripts
use Rattle.fd_lanes.specs.Legal.{IsLegal, Legal}
use Rattle.fd_schema.specs.Rules.{Rule}
use Rattle.fd_script.specs.declared.script.Lane.{Lane}

-- a step of the machine, and what it answers
abbrev pub Told : Type 0
Told = Step × Took

-- a step that is taken, and answers no more than that
abbrev pub taken : Step → Told
taken step = (step, answers.Yes)

-- each step answers this where it stands; that it isn't possible is no such answer
abbrev pub Takes : World → List Told → Type 0
Takes s [] = Unit {0}
Takes s (x ∷ xs) = (took_of s x.0 ≡ x.1) × Takes (after s x.0) xs

-- the machine behind these steps
abbrev pub ran : List Told → World → World
ran [] s = s
ran (x ∷ xs) s = ran xs (after s x.0)

-- the pairs of a batch are put, its files are made firm, and it is listed
abbrev pub puts : ℕ → List Pair → List Told
puts w [] = []
puts w (p ∷ ps) = taken (steps.Put w p.key p.bytes) ∷ puts w ps

abbrev pub sealing : ℕ → List Told
sealing w = taken (steps.SyncData w) ∷ taken (steps.WriteIndex w) ∷ taken (steps.SyncIndex w) ∷ []

abbrev pub listing : ℕ → List Told
listing w =
    taken (steps.Take w) ∷ taken (steps.Body w) ∷ taken (steps.SyncBody w) ∷ taken (steps.Gate w) ∷ taken (steps.SyncGate w) ∷ taken (steps.Post w) ∷ taken (steps.Release w) ∷ []

-- the batches that were there before, each by the writer with number 1
abbrev pub opened : List (List Pair) → List Told
opened [] = []
opened (b ∷ t) = puts 1 b ++ (sealing 1 ++ (listing 1 ++ opened t))

-- the sealing, unless the batch is sealed already
abbrev pub unless_sealed : Bool → ℕ → List Told
unless_sealed true w = []
unless_sealed false w = sealing w

-- A flush that failed. Where the batch waits sealed behind it, it failed in its listing, for which there has to be room in the table;
-- else at the write of the index.
abbrev pub listing_failed : Bool → ℕ → List Told
listing_failed true w = taken (steps.Take w) ∷ taken (steps.Fail w) ∷ []
listing_failed false w = []

abbrev pub flush_failed : Bool → Bool → Bool → ℕ → List Told
flush_failed room true waits w = listing_failed room w
flush_failed room false true w = sealing w ++ listing_failed room w
flush_failed room false false w = taken (steps.SyncData w) ∷ taken (steps.Fail w) ∷ []

-- a flush for which memory was refused: before the sealing, or behind it
abbrev pub flush_starved : Bool → Bool → ℕ → List Told
flush_starved sealed true w = unless_sealed sealed w
flush_starved sealed false w = []

-- each key is fetched, and answered so
abbrev pub fetches : ℕ → List (List ℕ) → List (Option (List ℕ)) → List Told
fetches r [] os = []
fetches r (key ∷ keys) [] = (steps.Fetch r key, answers.No) ∷ fetches r keys []
fetches r (key ∷ keys) (o ∷ os) = (steps.Fetch r key, answered o) ∷ fetches r keys os

module _ {F : Type 0} where
  -- the next put tells that the batch waits sealed
  abbrev pub waits_next : List Act → List (End F) → Bool
  waits_next [] es = false
  waits_next (a ∷ acts) [] = false
  waits_next (Put p ∷ acts) (PutUnlisted ∷ es) = true
  waits_next (Put p ∷ acts) (e ∷ es) = false
  waits_next (Flush ∷ acts) (e ∷ es) = false
  waits_next (Get asked ∷ acts) (e ∷ es) = waits_next acts es

  -- The machine's steps of writer w and reader r that a step of a lane was which ended so. The batch was sealed or not, waits sealed
  -- behind it or doesn't, and the table has room or hasn't.
  abbrev pub steps_of : ℕ → ℕ → Bool → Bool → Bool → Act → End F → List Told
  steps_of w r room sealed waits (Put p) PutOk = taken (steps.Put w p.key p.bytes) ∷ []
  steps_of w r room sealed waits (Put p) (Fault f) = taken (steps.Fail w) ∷ []
  steps_of w r room sealed waits (Put p) e = []
  steps_of w r room sealed waits Flush (Listed n) = unless_sealed sealed w ++ listing w
  steps_of w r room sealed waits Flush TableFull = unless_sealed sealed w
  steps_of w r room sealed waits Flush (Fault f) = flush_failed room sealed waits w
  steps_of w r room sealed waits Flush NoMemory = flush_starved sealed waits w
  steps_of w r room sealed waits Flush e = []
  steps_of w r room sealed waits (Get asked) (Got n found) = taken (steps.Look r) ∷ fetches r asked (map answer_bytes found)
  steps_of w r room sealed waits (Get asked) e = []

  -- the batch is sealed behind the step
  abbrev pub sealed_after : Bool → Bool → Act → End F → Bool
  sealed_after sealed waits (Put p) e = sealed
  sealed_after sealed waits Flush (Listed n) = false
  sealed_after sealed waits Flush TableFull = true
  sealed_after sealed waits Flush (Fault f) = sealed || waits
  sealed_after sealed waits Flush NoMemory = sealed || waits
  sealed_after sealed waits Flush e = sealed
  sealed_after sealed waits (Get asked) e = sealed

-- A lane on its way: where it stands, whether its batch is sealed, and its steps and ends that are left.
pub record Going (F : Type 0) : Type 0 where
  pub stand : Stand
  pub sealed : Bool
  pub acts : List Act
  pub ends : List (End F)

module _ {F : Type 0} where
  -- the machine's steps of a lane's next step, and the lane behind it
  abbrev pub next_of : ℕ → ℕ → Bool → Bool → List Act → List (End F) → List Told
  next_of w r room sealed [] es = []
  next_of w r room sealed (a ∷ acts) [] = []
  next_of w r room sealed (a ∷ acts) (e ∷ es) = steps_of w r room sealed (waits_next acts es) a e

  abbrev pub gone_from : Stand → Bool → List Act → List (End F) → Going F
  gone_from s sealed [] es = record { stand = s; sealed = sealed; acts = []; ends = es }
  gone_from s sealed (a ∷ acts) [] = record { stand = s; sealed = sealed; acts = a ∷ acts; ends = [] }
  gone_from s sealed (a ∷ acts) (e ∷ es) = record { stand = walks.after s a e; sealed = sealed_after sealed (waits_next acts es) a e; acts = acts; ends = es }

  abbrev pub gone_on : Going F → Going F
  gone_on l = gone_from l.stand l.sealed l.acts l.ends

  -- the same of the lane at a place of these, of which the first has this writer and this reader
  abbrev pub next_at : ℕ → ℕ → ℕ → Bool → List (Going F) → List Told
  next_at i w r room [] = []
  next_at zero w r room (l ∷ ls) = next_of w r room l.sealed l.acts l.ends
  next_at (suc i) w r room (l ∷ ls) = next_at i (w + 1) (r + 1) room ls

  abbrev pub on_at : ℕ → List (Going F) → List (Going F)
  on_at i [] = []
  on_at zero (l ∷ ls) = gone_on l ∷ ls
  on_at (suc i) (l ∷ ls) = l ∷ on_at i ls

  -- the next steps of the lane at a place: lane i has writer i + 2 and reader i
  abbrev pub turn : ℕ → World → List (Going F) → List Told
  turn i s ls = next_at i 2 0 (nat_lt (length s.history) 65535) ls

  -- The machine's steps of lanes that take turns in this order, and the lanes in the end. Each turn takes the next step of its lane,
  -- so that the steps of each lane stand in their order.
  abbrev pub in_turns : List ℕ → World → List (Going F) → List Told
  in_turns [] s ls = []
  in_turns (i ∷ order) s ls = turn i s ls ++ in_turns order (ran (turn i s ls) s) (on_at i ls)

  abbrev pub after_turns : List ℕ → List (Going F) → List (Going F)
  after_turns [] ls = ls
  after_turns (i ∷ order) ls = after_turns order (on_at i ls)

  -- no lane has a step left
  abbrev pub AllDone : List (Going F) → Type 0
  AllDone [] = Unit {0}
  AllDone (l ∷ ls) = (l.acts ≡ []) × (l.ends ≡ []) × AllDone ls

  -- the lanes of a script before their first steps, over so many entries
  abbrev pub lanes_of : ℕ → List (List Act) → List (List (End F)) → List (Going F)
  lanes_of b [] ends = []
  lanes_of b (acts ∷ script) [] = []
  lanes_of b (acts ∷ script) (es ∷ ends) = record { stand = beginning b; sealed = false; acts = acts; ends = es } ∷ lanes_of b script ends

  -- What lanes did over a table is one run of the machine: some order of the lanes' turns takes all their steps. Each step of the
  -- machine is possible where it stands and answers what was told, and in the end the history is the table and what was flushed.
  pub record IsRun (before flushed : List (List Pair)) (script : List (List Act)) (ends : List (List (End F))) : Type 0 where
    pub order : List ℕ
    pub all : AllDone (after_turns order (lanes_of (length before) script ends))
    pub takes : Takes start (opened before ++ in_turns order (ran (opened before) start) (lanes_of (length before) script ends))
    pub history : (ran (opened before ++ in_turns order (ran (opened before) start) (lanes_of (length before) script ends)) start).history ≡ before ++ flushed

-- a batch that the machine can list: some pairs, within the bounds of an entry
pub record BatchFits (b : List Pair) : Type 0 where
  pub some : b ≢ []
  pub keys : KeysFit b
  pub few : distinct b ≤ 65536
  pub small : total b < 2 ^ 63
  pub index_small : length (rows b) < 2 ^ 63

abbrev pub BatchesFit : List (List Pair) → Type 0
BatchesFit [] = Unit {0}
BatchesFit (b ∷ t) = BatchFits b × BatchesFit t

-- a pair that is put has a key of at most 256 bytes and at most 128 MiB
abbrev pub ActFits : Act → Type 0
ActFits (Put p) = (length p.key ≤ 256) × (length p.bytes ≤ 134217728)
ActFits Flush = Unit {0}
ActFits (Get asked) = Unit {0}

abbrev pub ActsFit : List Act → Type 0
ActsFit [] = Unit {0}
ActsFit (a ∷ acts) = ActFits a × ActsFit acts

-- each lane has at most 4,096 steps
abbrev pub LanesFit : List (List Act) → Type 0
LanesFit [] = Unit {0}
LanesFit (acts ∷ script) = (length acts ≤ 4096) × ActsFit acts × LanesFit script

-- Every legal transcript is that of a run: of at most 65,534 lanes, whose steps fit, over batches that fit, with at most 65,535 entries
-- in the end.
abbrev pub EverySessionIsARun : Type 0 → Type 0
EverySessionIsARun F = (before flushed : List (List Pair)) (script : List (List Act)) (ends : List (List (End F)))
    → BatchesFit before → LanesFit script → length script ≤ 65534 → length (before ++ flushed) ≤ 65535
    → IsLegal before flushed script ends → IsRun before flushed script ends

-- The same of a script whose steps may be taken in the dataset with this text, as they have to be where lanes run.
abbrev pub EveryScriptIsARun : Type 0 → Type 0
EveryScriptIsARun F = (rules : List Rule) (messages : List (List ℕ)) (text : List ℕ) (lanes : List Lane) (before flushed : List (List Pair)) (ends : List (List (End F)))
    → All (λ (l : Lane). length l.steps ≤ 4096) lanes → length lanes ≤ 65534 → BatchesFit before → length (before ++ flushed) ≤ 65535
    → (l : Legal rules messages before flushed lanes ends) → scripts.LanesFit rules messages text l.places lanes → IsRun before flushed (scripts.all_acts rules messages l.places lanes) ends
