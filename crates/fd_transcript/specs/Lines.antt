-- The lines of the steps of a session.
use Rattle.std.specs.Prelude.{ℕ, ◌+◌, List, [], ◌∷◌, ◌++◌, length, codes, flat_map, string_bytes, zip}
use Rattle.std.specs.Fmt.{decimal}
use Rattle.fd_machine.specs.declared.machine.Answer.{Answer}
use Rattle.fd_machine.specs.declared.machine.Answer.TheVariants.{Found, Miss}
use Rattle.fd_listing.specs.Lines.{blank, line}
use Rattle.fd_script.specs.declared.script.Lane.{Lane}
use Rattle.fd_script.specs.declared.script.Step.{Step}
use Rattle.fd_script.specs.declared.script.Step.TheVariants as steps
use Rattle.fd_lanes.specs.declared.end.End.{End}
use Rattle.fd_lanes.specs.declared.end.End.TheVariants.{PutOk, PutUnlisted, Fault, Listed, Nothing, TableFull, NoMemory, Damaged, Got}

-- the word of a step
abbrev pub word : Step → List ℕ
word (steps.Put n) = codes "put"
word steps.Flush = codes "flush"
word (steps.Get request) = codes "get"

-- the line of a key that was asked for
abbrev pub answer_line : Answer → List ℕ
answer_line (Found bytes) = line (codes "found " ++ decimal (length bytes))
answer_line Miss = line (codes "miss")

-- the bytes that were found for a key
abbrev pub answer_found : Answer → List ℕ
answer_found (Found bytes) = bytes
answer_found Miss = []

module _ {F : Type 0} where
  -- how a step ended, in words
  abbrev pub end_text : Step → End F → List ℕ
  end_text step PutOk = codes "put ok"
  end_text step PutUnlisted = codes "put unlisted"
  end_text step (Fault f) = word step ++ codes " fault"
  end_text step (Listed n) = codes "flush " ++ decimal n
  end_text step Nothing = codes "flush nothing"
  end_text step TableFull = codes "flush table full"
  end_text step NoMemory = word step ++ codes " no memory"
  end_text step (Damaged d) = word step ++ codes " damaged"
  end_text step (Got n answers) = codes "get " ++ decimal n

  -- the answers of a get
  abbrev pub answers_of : End F → List Answer
  answers_of PutOk = []
  answers_of PutUnlisted = []
  answers_of (Fault f) = []
  answers_of (Listed n) = []
  answers_of Nothing = []
  answers_of TableFull = []
  answers_of NoMemory = []
  answers_of (Damaged d) = []
  answers_of (Got n answers) = answers

-- a step with its number in its lane, from 1, the lane's name, and how it ended
pub record Told (F : Type 0) : Type 0 where
  pub lane : List ℕ
  pub number : ℕ
  pub step : Step
  pub end : End F

module _ {F : Type 0} where
  -- the line of a step
  abbrev pub step_line : Told F → List ℕ
  step_line t = line (t.lane ++ blank (decimal t.number ++ blank (end_text t.step t.end)))

  -- its line, and for a get a line for each key
  abbrev pub step_lines : Told F → List ℕ
  step_lines t = step_line t ++ flat_map answer_line (answers_of t.end)

  -- the steps of a lane with their ends; the first of them has this number
  abbrev pub told_from : List ℕ → ℕ → List Step → List (End F) → List (Told F)
  told_from lane number [] ends = []
  told_from lane number (s ∷ ss) [] = []
  told_from lane number (s ∷ ss) (e ∷ ends) = record { lane = lane; number = number; step = s; end = e } ∷ told_from lane (number + 1) ss ends

  -- the steps of a lane
  abbrev pub lane_told : Lane × List (End F) → List (Told F)
  lane_told p = told_from (string_bytes p.0.name) 1 p.0.steps p.1

  -- the steps of all lanes, lane by lane in the order of the script
  abbrev pub all_told : List Lane → List (List (End F)) → List (Told F)
  all_told lanes ends = flat_map lane_told (zip lanes ends)

  -- the found bytes of the gets of a lane, in order
  abbrev pub lane_found : List (End F) → List ℕ
  lane_found es = flat_map (λ e. flat_map answer_found (answers_of e)) es

  -- the found bytes of all gets, lane by lane
  abbrev pub found_bytes : List (List (End F)) → List ℕ
  found_bytes ends = flat_map lane_found ends
