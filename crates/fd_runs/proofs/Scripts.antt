-- The steps of a script are within the machine's bounds.
use Rattle.std.proofs.Common.{◌≡◌, ◌≤◌, ℕ, suc, List, [], ◌∷◌, length, refl, ap, arith}
use Rattle.std.specs.Prelude.{All}
use Rattle.fd_lanes.specs.Acts as scripts
use Rattle.fd_lanes.specs.Acts.{AllFitting, Fitting, act_of, acts_of, all_acts, left_after, left_behind}
use Rattle.fd_schema.specs.Rules.{Rule, Texts}
use Rattle.fd_script.specs.declared.script.Lane.{Lane}
use Rattle.fd_script.specs.declared.script.Step.{Step}
use Rattle.fd_script.specs.declared.script.Step.TheVariants as steps
use Rattle.fd_runs.specs.Runs.{ActFits, ActsFit, EveryScriptIsARun, LanesFit}
use Rattle.fd_runs.proofs.Whole.{every_session}

module _ (rules : List Rule) (messages : List (List ℕ)) (text : List ℕ) where
  act_fits : (places : List Texts) (s : Step) → Fitting rules messages text places s → ActFits (act_of rules messages places s)
  act_fits [] (steps.Put n) h = absurd h
  act_fits (t ∷ ts) (steps.Put n) h = (h.3, h.4)
  act_fits places steps.Flush h = tt
  act_fits places (steps.Get request) h = tt

  acts_fit : (places : List Texts) (ss : List Step) → AllFitting rules messages text places ss → ActsFit (acts_of rules messages places ss)
  acts_fit places [] h = tt
  acts_fit places (s ∷ ss) h = (act_fits places s h.0, acts_fit (left_behind places s) ss h.1)

  acts_long : (places : List Texts) (ss : List Step) → length (acts_of rules messages places ss) ≡ length ss
  acts_long places [] = refl
  acts_long places (s ∷ ss) = ap suc (acts_long (left_behind places s) ss)

  lanes_long : (places : List Texts) (lanes : List Lane) → length (all_acts rules messages places lanes) ≡ length lanes
  lanes_long places [] = refl
  lanes_long places (l ∷ ls) = ap suc (lanes_long (left_after places l.steps) ls)

  lanes_fit : (places : List Texts) (lanes : List Lane) → All (λ (l : Lane). length l.steps ≤ 4096) lanes → scripts.LanesFit rules messages text places lanes → LanesFit (all_acts rules messages places lanes)
  lanes_fit places [] short h = tt
  lanes_fit places (l ∷ ls) short h =
      let one : length l.steps ≤ 4096 = short 0 l (omega arith) in
      let long = acts_long places l.steps in
      (omega (arith, one, long), acts_fit places l.steps h.0, lanes_fit (left_after places l.steps) ls (λ k d lt. short (suc k) d (omega (arith, lt))) h.1)

pub every_script : (F : Type 0) → EveryScriptIsARun F
every_script F rules messages text lanes before flushed ends short few_lanes fits few l fit =
    let long = lanes_long rules messages text l.places lanes in
    every_session F before flushed (all_acts rules messages l.places lanes) ends fits (lanes_fit rules messages text l.places lanes short fit) (omega (arith, few_lanes, long)) few l.legal
