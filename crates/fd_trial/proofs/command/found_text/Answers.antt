use Rattle.std.proofs.Common.{◌≡◌, ◌∙◌, ℕ, List, ◌++◌, append_assoc, Result, Ok, Err, IfOk, String, Global, string_bytes, codes}
use Rattle.std.specs.Fmt.{decimal}
use Rattle.fd_trial.proofs.command.found_text.Goals as goal

regroup : (f b : List ℕ) → codes "found " ++ (f ++ (codes " bytes " ++ b)) ≡ ((codes "found " ++ f) ++ codes " bytes ") ++ b
regroup f b = simp append_assoc

ok_is : {E : Type 0} (r : Result (String Global) E) (x y : List ℕ) → x ≡ y → IfOk r (λ t. string_bytes t ≡ x) → IfOk r (λ t. string_bytes t ≡ y)
ok_is (Ok t) x y e h = h ∙ e
ok_is (Err f) x y e h = tt

pub returns : goal.returns
returns c = ok_is c.format.result _ _ (regroup (decimal c.args.found) (decimal c.args.bytes)) c.format.ensures.ok
