use Rattle.std.proofs.Common.{arith, ◌<◌, length}
use Rattle.fd_ahead.proofs.dealing.fill.Goals as goal

pub returns-in-None-clause-wanted : goal.returns-in-None-clause-wanted
returns-in-None-clause-wanted c = λ os are all.
    let lt : c.loop-i.i < length c.args.located.now = omega (arith, c.loop-i-test.true) in
    c.want.ensures os (c.loop-i.invariant.wanted os are all) (are c.loop-i.i _ lt)

pub loop-i-preserved : goal.loop-i-preserved
loop-i-preserved c = record {
  wanted = λ os are all.
      let lt : c.loop-i.i < length c.args.located.now = omega (arith, c.loop-i-test.true) in
      c.want.ensures os (c.loop-i.invariant.wanted os are all) (are c.loop-i.i _ lt);
}
