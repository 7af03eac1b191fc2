use Rattle.std.proofs.Common.{◌≡◌, ◌<◌, ◌+◌, ◌-◌, length, subst, arith}
use Rattle.std.specs.BTreeMap.{get_by_text}
use Rattle.fd_retrieve.proofs.LocatingLemmas.{IsNumberFrom, noted_all, noted_more, noted_none}
use Rattle.fd_retrieve.proofs.locating.noted_numbers.Goals as goal

pub loop-left-init : goal.loop-left-init
loop-left-init g c = record {
  few = omega arith;
  noted = noted_none c.args.opened.now (length c.args.opened.now) c.new-noted.result (omega arith) c.new-noted.ensures.empty;
}

pub loop-left-preserved : goal.loop-left-preserved
loop-left-preserved g c =
    let os = c.args.opened.now in
    let n = c.loop-left.left - 1 in
    let lt : n < length os = omega (arith, c.loop-left.invariant.few, c.loop-left-test.true) in
    let next : c.loop-left.left ≡ n + 1 = omega (arith, c.loop-left-test.true) in
    record {
      few = omega (arith, c.loop-left.invariant.few);
      noted = λ t.
          noted_more os n c.index-opened-left.result t lt c.index-opened-left.is c.name.result.now (get_by_text c.loop-left.noted t) (get_by_text c.note_number.new.noted t) c.name.ensures (c.in_ok-note_number.ensures t)
          (subst (λ k. IsNumberFrom os k t (get_by_text c.loop-left.noted t)) next (c.loop-left.invariant.noted t));
    }

pub returns : goal.returns
returns g c = λ t. noted_all c.args.opened.now c.loop-left.left t (get_by_text c.loop-left.noted t) (omega (arith, c.loop-left-test.false)) (c.loop-left.invariant.noted t)
