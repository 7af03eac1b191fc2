-- A script stands in the octets that are read of an input.
use Rattle.std.proofs.Common.{◌≡◌, ◌∙◌, ℕ, ◌+◌, ◌<◌, ◌≤◌, Bool, true, false, not, ◌&&◌, List, [], ◌∷◌, ◌++◌, length, take, drop, Option, Some, None, Result, Ok, Err, refl, sym, ap, ap₂, subst, arith, inl, inr, ◌⊎◌, if◌then◌else◌, append-nil, length-append}
use Rattle.std.specs.Prelude.{IfSome, OnOk, nat_le, nat_lt}
use Rattle.fd_io.specs.Streams.{Gives}
use Rattle.std.proofs.lemmas.Bool.{cases_Bool, le-ltb, leb-false, leb-true, lt-ltb}
use Rattle.std.proofs.lemmas.List.{length-take-le, take-append-le, take-take, take_all}
use Rattle.fd_sections.specs.Stream.{stream}
use Rattle.fd_script.specs.Grammar.{Fault, Script, TooLong, has_messages, script_from, script_of}
use Rattle.fd_script.specs.Lines.{lines_of}
use Rattle.fd_script.specs.Reading as readings
use Rattle.fd_script.specs.Reading.{IsScript}
use Rattle.fd_script.specs.Scripts.{Scripted}
use Rattle.fd_script.specs.declared.fault.ScriptFault.{ScriptFault}
use Rattle.fd_script.specs.declared.fault.ScriptFault.TheVariants as faults
use Rattle.fd_split.specs.Limits.{input_limit}
use Rattle.fd_split.specs.declared.refusal.Refusal.{Refusal}
use Rattle.fd_session.specs.declared.reading.Unaccepted.TheVariants as reasons
use Rattle.fd_session.specs.Unaccepted.{IsNamed}
use Rattle.fd_session.specs.Inputs.{IsInput, IsRefusedBehind, octets_of, refusal_of, stream_behind}

-- what is read of a front, behind which more come than a script may have, or not
abbrev read_front : Bool → List ℕ → Result Script Fault
read_front long front = if long && not (has_messages (lines_of front)) then Err (record { line = 1; kind = TooLong }) else script_from 0 [] (lines_of front)

of_front : (text : List ℕ) → script_of text ≡ read_front (nat_lt 1048576 (length text)) (take 1048576 text)
unfolding script_of
of_front text = refl

both_long : (input : List ℕ) → input_limit < length input → nat_lt 1048576 (length (take input_limit input)) ≡ nat_lt 1048576 (length input)
both_long input lt =
    let long : length (take input_limit input) ≡ input_limit = length-take-le input_limit input (omega arith) in
    lt-ltb 1048576 (length (take input_limit input)) (omega (arith, long)) ∙ sym (lt-ltb 1048576 (length input) (omega arith))

-- the script of what is read of an input is that of the input
pub same_script : (input : List ℕ) → script_of (take input_limit input) ≡ script_of input
same_script input = elim (cases_Bool (nat_le (length input) input_limit)) [
  | inl small ↦ ap script_of (take_all input_limit input (leb-true _ _ small))
  | inr large ↦
      let lt : input_limit < length input = leb-false _ _ large in
      of_front (take input_limit input) ∙ (ap₂ read_front (both_long input lt) (take-take 1048576 input_limit input (omega arith)) ∙ sym (of_front input))
]

-- the octets behind a place of those that are read
pub same_behind : (input octets behind : List ℕ) (place : ℕ) → octets ≡ take input_limit input → behind ≡ drop place octets → stream behind ≡ stream_behind input place
same_behind input octets behind place are is = ap stream (is ∙ ap (drop place) are)

-- an input that was read whole
pub accepted : (input octets behind : List ℕ) (past : Bool) (s : Scripted) (place : ℕ) (messages : List (List ℕ)) → octets ≡ take input_limit input → past ≡ nat_lt input_limit (length input) → behind ≡ drop place octets
    → IsScript (script_of octets) s place → messages ≡ octets_of (stream behind) → refusal_of past (stream behind) ≡ None → IsInput input s messages
accepted input octets behind past s place messages are more is reads all whole = record {
  place = place;
  reads = subst (λ (r : Result Script Fault). IsScript r s place) (ap script_of are ∙ same_script input) reads;
  messages_are = all ∙ ap octets_of (same_behind input octets behind place are is);
  whole = ap₂ refusal_of (sym more) (sym (same_behind input octets behind place are is)) ∙ whole;
}

-- an input whose stream is refused
pub refused_behind : (input octets behind : List ℕ) (past : Bool) (s : Scripted) (place : ℕ) (refusal : Refusal) → octets ≡ take input_limit input → past ≡ nat_lt input_limit (length input) → behind ≡ drop place octets
    → IsScript (script_of octets) s place → refusal_of past (stream behind) ≡ Some refusal → IsRefusedBehind input refusal
refused_behind input octets behind past s place refusal are more is reads whole = record {
  script = s;
  place = place;
  reads = subst (λ (r : Result Script Fault). IsScript r s place) (ap script_of are ∙ same_script input) reads;
  is = ap₂ refusal_of (sym more) (sym (same_behind input octets behind place are is)) ∙ whole;
}

-- why a script isn't read
pub same_fault : (input octets : List ℕ) (fault : ScriptFault) → octets ≡ take input_limit input → readings.Gives (script_of octets) (Err fault) → readings.Gives (script_of input) (Err fault)
same_fault input octets fault are g = subst (λ (r : Result Script Fault). readings.Gives r (Err fault)) (ap script_of are ∙ same_script input) g

-- a fault of a script names what is wrong
pub named_fault : (r : Result Script Fault) (fault : ScriptFault) → readings.Gives r (Err fault) → IsNamed (reasons.Script fault)
named_fault r (faults.At line kind) (w, is, at) = (w, is)
named_fault r faults.NoMemory g = tt

-- what was read first, behind which nothing is left, or as much was read as an input may have; and whether more comes
pub read_so : (old mid : Option (List ℕ)) (octets : List ℕ) (more : Bool) → Gives old mid octets → IfSome old (λ o. (mid ≡ Some []) ⊎ (length octets ≡ input_limit)) → length octets ≤ input_limit → IfSome mid (λ o. more ≡ nat_lt 0 (length o))
    → IfSome old (λ o. (octets ≡ take input_limit o) × (more ≡ nat_lt input_limit (length o)))
read_so None mid octets more gives whole few is = tt
read_so (Some o) None octets more gives whole few is = absurd gives
read_so (Some o) (Some l) octets more gives whole few is = elim whole as (λ _. (octets ≡ take input_limit o) × (more ≡ nat_lt input_limit (length o))) [
  | inl done ↦
      let none : l ≡ [] = cc done in
      let all : o ≡ octets = gives ∙ ap (λ (x : List ℕ). octets ++ x) none ∙ append-nil octets in
      (sym (ap (take input_limit) all ∙ take_all input_limit octets few), is ∙ ap (λ (x : List ℕ). nat_lt 0 (length x)) none ∙ sym (le-ltb input_limit (length o) (omega (arith, ap length all, few))))
  | inr full ↦
      let front : take input_limit o ≡ octets = ap (take input_limit) gives ∙ take-append-le input_limit octets l (omega (arith, full)) ∙ take_all input_limit octets few in
      (sym front, is ∙ beyond l (length o) (ap length gives ∙ length-append octets l ∙ ap (λ (n : ℕ). n + length l) full))
]
  where
    beyond : (l : List ℕ) (n : ℕ) → n ≡ input_limit + length l → nat_lt 0 (length l) ≡ nat_lt input_limit n
    beyond [] n e = sym (le-ltb input_limit n (omega (arith, e)))
    beyond (x ∷ xs) n e = lt-ltb 0 (length (x ∷ xs)) (omega arith) ∙ sym (lt-ltb input_limit n (omega (arith, e)))

-- what follows of a success
pub on_ok : {A E : Type 0} (r : Result A E) (P Q : Type 0) → OnOk r P → (P → Q) → OnOk r Q
on_ok (Ok x) P Q p to = to p
on_ok (Err e) P Q p to = p
