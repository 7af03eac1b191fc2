use Rattle.std.proofs.Common.{◌≡◌, ◌-◌, ◌+◌, ◌++◌, [], List, ℕ, sym, ap, ◌∙◌, append_assoc, arith}
use Rattle.std.proofs.lemmas.List.{append-nil, nil_from_length}
use Rattle.fd_packing.specs.Bits.{binary}
use Rattle.fd_packing.proofs.BitLemmas.{binary_next, length-binary}
use Rattle.fd_packing.proofs.writer.BitWriter.push_number.Goals as goal

pub loop-i-preserved : goal.loop-i-preserved
loop-i-preserved c =
    let rest = binary (c.args.width - (c.loop-i.i + 1)) c.args.number in
    ap (λ (t : List ℕ). t ++ rest) c.in_ok-push.ensures.ok
    ∙ append_assoc c.loop-i.self _ rest
    ∙ ap (λ (t : List ℕ). c.loop-i.self ++ t) (sym (binary_next c.args.width c.loop-i.i c.args.number c.loop-i-test.true))
    ∙ c.loop-i.invariant

pub returns : goal.returns
returns c =
    let nothing : binary (c.args.width - c.loop-i.i) c.args.number ≡ [] = nil_from_length _ (length-binary (c.args.width - c.loop-i.i) c.args.number ∙ omega arith) in
    sym (ap (λ (t : List ℕ). c.loop-i.self ++ t) nothing ∙ append-nil c.loop-i.self) ∙ c.loop-i.invariant
