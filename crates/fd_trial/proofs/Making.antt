-- One message more is made.
use Rattle.std.proofs.Common.{◌≡◌, ◌∙◌, ◌≤◌, ◌<◌, ◌+◌, ◌-◌, ℕ, zero, suc, List, ◌++◌, length, drop, sym, ap, ap₂, arith}
use Rattle.std.proofs.lemmas.List.{drop_all}
use Rattle.fd_gen.specs.Generated.{generated_octets}
use Rattle.fd_trial.specs.Made.{messages_from}

-- the messages that are left, once those before were given whole
pub one_made : (message bytes : List ℕ) (at next rest : ℕ) → length bytes ≤ at → 0 < rest → message ≡ generated_octets next → message ++ messages_from (next + 1) (rest - 1) ≡ drop at bytes ++ messages_from next rest
one_made message bytes at next zero le some is = absurd (omega (arith, some))
one_made message bytes at next (suc k) le some is =
    let down : suc k - 1 ≡ k = omega arith in
    ap₂ (λ (a b : List ℕ). a ++ b) is (ap (messages_from (next + 1)) down) ∙ sym (ap (λ (a : List ℕ). a ++ messages_from next (suc k)) (drop_all at bytes le))
