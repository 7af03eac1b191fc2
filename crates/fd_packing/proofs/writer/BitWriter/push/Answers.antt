use Rattle.std.proofs.Common.{List, ℕ, ◌∷◌, ◌++◌, [], ap, ◌∙◌}
use Rattle.fd_packing.specs.Bits.{binary, bits_of}
use Rattle.fd_packing.proofs.BitLemmas.{push_part, push_full}
use Rattle.fd_packing.proofs.writer.BitWriter.push.Goals as goal

pub returns-in_ok-push-clause-ok : goal.returns-in_ok-push-clause-ok
returns-in_ok-push-clause-ok c =
    let s = c.self.inside in
    ap (λ (t : List ℕ). bits_of t ++ binary 0 0) c.in_ok-push.ensures.items
    ∙ push_full s.bytes.items s.count s.partial c.args.bit c.if-self-eq7.true c.requires ∙ ap (λ (t : List ℕ). t ++ c.args.bit ∷ []) c.self.view_is

pub returns-else-self-eq7-clause-ok : goal.returns-else-self-eq7-clause-ok
returns-else-self-eq7-clause-ok c =
    let s = c.self.inside in
    push_part s.bytes.items s.count s.partial c.args.bit c.requires ∙ ap (λ (t : List ℕ). t ++ c.args.bit ∷ []) c.self.view_is
