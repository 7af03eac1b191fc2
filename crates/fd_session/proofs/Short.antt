-- The text of a script's dataset is short.
use Rattle.std.proofs.Common.{◌≡◌, ◌∙◌, ◌≤◌, ◌+◌, ◌++◌, ℕ, Bool, true, false, List, [], ◌∷◌, length, Option, Some, None, Result, Ok, Err, refl, sym, arith, nat_le}
use Rattle.std.specs.Prelude.{◌&&◌, nat_lt, not, if◌then◌else◌}
use Rattle.std.proofs.lemmas.Bool.Decides.{nat_tests}
use Rattle.fd_script.specs.Lines.{Said, Silent, DatasetIs, LaneBegins, Asks, MessagesFollow, Unknown, lines_of, said}
use Rattle.fd_script.specs.Grammar.{Fault, Script, Wrong, dataset_in, dataset_wrong, first_of, foreign_byte, front_of, goes_on, has_messages, is_dataset, is_messages, is_spelled, lanes_from, line_wrong, or_dataset, said_wrong, script_from, script_of, unless_wrong}
use Rattle.fd_script.specs.Reading.{IsScript}
use Rattle.fd_script.specs.Scripts.{Scripted}
use Rattle.fd_script.proofs.Groups.{dataset_more, or_first}
use Rattle.fd_script.proofs.Turns.{turns}

abbrev IsShort : Option (List ℕ) → Type 0
IsShort None = Unit {0}
IsShort (Some text) = length text ≤ 255

front_true : (a b : Bool) → (a && b) ≡ true → a ≡ true
front_true true b e = refl
front_true false b e = absurd cc

short_text : (text : List ℕ) → dataset_wrong text ≡ None → length text ≤ 255
unfolding is_dataset
short_text text e = (elim (is_dataset text) as (λ b. is_dataset text ≡ b → length text ≤ 255) [
  | true ↦ λ is. let few : nat_le (length text) 255 ≡ true = front_true _ _ is in grind (arith, nat_tests)
  | false ↦ λ is. absurd (let bad = rw is at e in cc)
]) refl

-- what the lines say behind which this one may stand
short_said : (o : Option (List ℕ)) (lanes : _) (b : Option Wrong) (s : Said) → first_of b (said_wrong o lanes s) ≡ None → IsShort o → IsShort (or_first o (or_dataset s None))
short_said (Some d) lanes b s e short = short
short_said None lanes (Some w) s e short = absurd cc
short_said None lanes None Silent e short = tt
short_said None lanes None (DatasetIs text) e short = short_text text e
short_said None lanes None (LaneBegins name pairs) e short = absurd cc
short_said None lanes None (Asks task) e short = absurd cc
short_said None lanes None MessagesFollow e short = absurd cc
short_said None lanes None Unknown e short = absurd cc

short_more : (ls : List Said) (line : List ℕ) → line_wrong ls line ≡ None → IsShort (dataset_in ls) → IsShort (dataset_in (ls ++ said line ∷ []))
unfolding line_wrong
short_more ls line e short = rw (dataset_more ls (said line)) (short_said (dataset_in ls) (lanes_from 1 ls) (foreign_byte line) (said line) e short)

made : Script → Result Script Fault
made s = Ok s

short_from : (at : ℕ) (ls : List Said) (rest : List (List ℕ)) (s : Script) → script_from at ls rest ≡ Ok s → IsShort (dataset_in ls) → IsShort (dataset_in s.lines)
unfolding script_from
short_from at ls [] s e short = absurd cc
short_from at ls (line ∷ []) s e short = absurd cc
short_from at ls (line ∷ next ∷ more) s e short =
    go (line_wrong ls line) (is_messages (said line)) refl (sym (turns at ls line next more) ∙ e)
    (λ right f. short_from (at + length line + 1) (ls ++ said line ∷ []) (next ∷ more) s f (short_more ls line right short))
  where
    here : Script
    here = record { lines = ls ++ said line ∷ []; place = at + length line + 1 }

    later : Result Script Fault
    later = script_from (at + length line + 1) (ls ++ said line ∷ []) (next ∷ more)

    go : (w : Option Wrong) (b : Bool) → line_wrong ls line ≡ w → unless_wrong (length ls + 1) w (goes_on b here later) ≡ Ok s → (line_wrong ls line ≡ None → later ≡ Ok s → IsShort (dataset_in s.lines)) → IsShort (dataset_in s.lines)
    go (Some w) b is f rest = absurd cc
    go None true is f rest = let same : here ≡ s = cc in rw (sym same) (short_more ls line is short)
    go None false is f rest = rest is f

short_of : (text : List ℕ) (s : Script) → script_of text ≡ Ok s → IsShort (dataset_in s.lines)
unfolding script_of dataset_in
short_of text s e = go (nat_lt 1048576 (length text) && not (has_messages (lines_of (front_of text)))) e
  where
    go : (b : Bool) → (if b then Err (record { line = 1; kind = Rattle.fd_script.specs.Grammar.TooLong }) else script_from 0 [] (lines_of (front_of text))) ≡ Ok s → IsShort (dataset_in s.lines)
    go true f = absurd cc
    go false f = short_from 0 [] (lines_of (front_of text)) s f tt

-- A script that was read has a dataset of at most 255 bytes.
pub short_script : (text : List ℕ) (s : Scripted) (place : ℕ) → IsScript (script_of text) s place → length s.dataset ≤ 255
short_script text s place r = rw (sym r.says.dataset_is) at (short_of text (record { lines = r.lines; place = place }) r.is)
