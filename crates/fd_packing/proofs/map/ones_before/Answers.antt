use Rattle.std.proofs.Common.{◌+◌, ◌<◌, length, sym, ap, ◌∙◌, arith}
use Rattle.fd_packing.specs.Bits.{bits_of}
use Rattle.fd_packing.proofs.BitLemmas.{length-bits}
use Rattle.fd_packing.proofs.Maps.{ones_yes, ones_no, ones_few}
use Rattle.fd_packing.proofs.map.ones_before.Goals as goal
use Rattle.fd_packing.proofs.map.ones_before.Goals.{then-is_one, else-is_one}

pub overflow_add-count : goal.overflow_add-count
overflow_add-count c = omega (arith, ones_few (bits_of c.args.bytes.now) c.loop-i.i, c.loop-i.invariant)

pub loop-i-preserved : goal.loop-i-preserved
loop-i-preserved c =
    let bits = bits_of c.args.bytes.now in
    let within : c.loop-i.i < length (bits_of c.args.bytes.now) = omega (arith, length-bits c.args.bytes.now) in
    elim c.if-is_one.branch [
      | then-is_one w ↦ w.count-is ∙ ap (λ n. n + 1) c.loop-i.invariant ∙ sym (ones_yes bits c.loop-i.i within (sym c.is_one.ensures ∙ w.if-is_one.true))
      | else-is_one w ↦ w.count-is ∙ c.loop-i.invariant ∙ sym (ones_no bits c.loop-i.i within (sym c.is_one.ensures ∙ w.if-is_one.false))
    ]
