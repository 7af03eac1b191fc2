-- What is wrong with a script, as the code names it and as a text.
use Rattle.std.proofs.Common.{◌≡◌, ◌∙◌, sym, ap, ℕ, List, ◌∷◌, [], ◌++◌, codes, Option, Some, None, append_assoc}
use Rattle.std.specs.Fmt.{decimal}
use Rattle.fd_key.specs.FaultTexts.{given_fault_text}
use Rattle.fd_key.specs.declared.fault.GivenFault.{GivenFault}
use Rattle.fd_key.specs.declared.fault.GivenFault.TheVariants as given_faults
use Rattle.fd_request.specs.FaultTexts.{request_fault_text, request_wrong_text}
use Rattle.fd_request.specs.Grammar as requests
use Rattle.fd_request.specs.Reading.{seen_kind}
use Rattle.fd_request.specs.declared.fault.RequestFault.{RequestFault}
use Rattle.fd_request.specs.declared.fault.RequestFault.TheVariants as request_faults
use Rattle.fd_script.specs.FaultTexts.{script_kind_text}
use Rattle.fd_script.specs.Grammar.{Wrong, Given, Request}
use Rattle.fd_script.specs.Reading.{seen_wrong}
use Rattle.fd_script.specs.declared.fault.ScriptKind.{ScriptKind}
use Rattle.fd_script.specs.declared.fault.ScriptKind.TheVariants as kinds
use Rattle.fd_session.specs.Telling.{wrong_text}

some : {A : Type 0} (a b : A) → Some a ≡ Some b → a ≡ b
some a b e = cc

-- of a fault that names what is wrong
named : (text : List ℕ) (v w : Wrong) → text ≡ wrong_text v → Some v ≡ Some w → text ≡ wrong_text w
named text v w is e = is ∙ ap wrong_text (some v w e)

pub named_text : (kind : ScriptKind) (w : Wrong) → seen_wrong kind ≡ Some w → script_kind_text kind ≡ wrong_text w
named_text kinds.TooLong w e = ap wrong_text (some _ w e)
named_text (kinds.Byte byte) w e = ap wrong_text (some _ w e)
named_text kinds.Dataset w e = ap wrong_text (some _ w e)
named_text kinds.Word w e = ap wrong_text (some _ w e)
named_text kinds.Name w e = ap wrong_text (some _ w e)
named_text (kinds.Given (given_faults.Pair at)) w e = ap wrong_text (some _ w e)
named_text (kinds.Given (given_faults.Clash name)) w e = ap wrong_text (some _ w e)
named_text (kinds.Given (given_faults.Twice name)) w e = ap wrong_text (some _ w e)
named_text (kinds.Given given_faults.NoMemory) w e = cc
named_text (kinds.Request (request_faults.At at kind)) w e =
    named _ (Request (record { at = at; kind = seen_kind kind })) w
    (ap (λ (t : List ℕ). codes "Request " ++ t) (append_assoc (decimal at) (codes " ") (request_wrong_text (seen_kind kind))) ∙ sym (append_assoc (codes "Request ") (decimal at) (codes " " ++ request_wrong_text (seen_kind kind)))) e
named_text (kinds.Request request_faults.NoMemory) w e = cc
named_text kinds.Number w e = ap wrong_text (some _ w e)
named_text (kinds.TooMany count) w e = ap wrong_text (some _ w e)
named_text kinds.End w e = ap wrong_text (some _ w e)
