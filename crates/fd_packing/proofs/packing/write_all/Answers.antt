use Rattle.std.proofs.Common.{◌++◌, List, ℕ, get_or, sym, ap, ◌∙◌}
use Rattle.fd_packing.specs.Bits.{binary, packed}
use Rattle.fd_packing.proofs.BitLemmas.{packed_more}
use Rattle.fd_packing.proofs.packing.write_all.Goals as goal

pub loop-x-init : goal.loop-x-init
unfolding packed
loop-x-init c = c.new-writer.ensures

pub loop-x-preserved : goal.loop-x-preserved
loop-x-preserved c =
    c.in_ok-push_number.ensures ∙ ap (λ (t : List ℕ). t ++ binary c.args.bits (get_or c.args.xs.now c.loop-x.x-index 0)) c.loop-x.invariant
    ∙ sym (packed_more c.args.bits c.args.xs.now c.loop-x.x-index c.loop-x-test.true)
