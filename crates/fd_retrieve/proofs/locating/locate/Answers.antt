use Rattle.std.proofs.Common.{◌≤◌, length, arith}
use Rattle.fd_retrieve.proofs.LocatingLemmas.{located_all}
use Rattle.fd_retrieve.proofs.locating.locate.Goals as goal

pub returns-clause-located : goal.returns-clause-located
returns-clause-located g c =
    let all : length c.args.opened.now ≤ c.loop-number.number = omega (arith, c.loop-number-test.false) in
    located_all c.args.opened.now c.args.places.now c.in-Ok.dealt.numbers.items c.loop-number.number c.loop-number.located.items all c.in-Ok.ensures.numbers c.loop-number.invariant
