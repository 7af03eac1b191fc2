use Rattle.std.proofs.Common.{arith}
use Rattle.std.proofs.lemmas.Int.Digits.{number_more}
use Rattle.fd_packing.proofs.BitLemmas.{byte_fits}
use Rattle.fd_packing.proofs.bits.big_endian.Goals as goal

pub overflow_mul-all : goal.overflow_mul-all
overflow_mul-all c = let k = byte_fits c.loop-b.all c.loop-b.b-index 0 _ c.loop-b.invariant.1 c.loop-b-test.true c.requires (omega arith) in omega (arith, k.1)

pub overflow_add-all : goal.overflow_add-all
overflow_add-all c = let k = byte_fits c.loop-b.all c.loop-b.b-index c.from.result _ c.loop-b.invariant.1 c.loop-b-test.true c.requires (omega (arith, c.from.ensures, c.type_inv.bytes c.loop-b.b-index)) in omega (arith, k.1)

pub loop-b-preserved : goal.loop-b-preserved
loop-b-preserved c =
    let k = byte_fits c.loop-b.all c.loop-b.b-index c.from.result _ c.loop-b.invariant.1 c.loop-b-test.true c.requires (omega (arith, c.from.ensures, c.type_inv.bytes c.loop-b.b-index)) in
    (omega (arith, c.loop-b.invariant.0, c.from.ensures, number_more 256 c.args.bytes.now c.loop-b.b-index c.loop-b-test.true), k.0)
