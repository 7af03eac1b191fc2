use Rattle.std.proofs.Common.{rules, ◌≡◌, ◌+◌, ◌-◌, arith, sym, subst, drop, []}
use Rattle.fd_inventory.specs.Counted.{AreKeys}
use Rattle.fd_outcome.specs.Rows.{keys_in}
use Rattle.fd_inventory.proofs.Counts.{keys_batch}
use Rattle.fd_inventory.proofs.Recording.{rest_all, rest_more, rest_none}
use Rattle.fd_inventory.proofs.counting.keys_of.Goals as goal

pub loop-left-init : goal.loop-left-init
loop-left-init g c =
    let empty : AreKeys c.new-keys.result.entries [] = search rules in
    record {
      few = omega (arith, c.len-left.ensures.count);
      keys = rest_none c.args.snapshot.now c.len-left.result (λ t. AreKeys c.new-keys.result.entries (keys_in (drop c.len-left.result t))) (omega (arith, c.len-left.ensures.count))
          (λ t none. subst (λ bs. AreKeys c.new-keys.result.entries (keys_in bs)) (sym none) empty);
    }

pub loop-left-preserved : goal.loop-left-preserved
loop-left-preserved g c =
    let n = c.loop-left.left - 1 in
    let next : c.loop-left.left ≡ n + 1 = omega (arith, c.loop-left-test.true) in
    record {
      few = omega (arith, c.loop-left.invariant.few);
      keys = rest_more c.args.snapshot.now n c.loop-left.left c.segment.result.now c.in_ok-index.index
          (λ t. AreKeys c.loop-left.keys.entries (keys_in (drop c.loop-left.left t))) (λ t. AreKeys c.add_keys.new.keys.entries (keys_in (drop n t)))
          next c.segment.ensures c.in_ok-index.ensures.records
          (λ t b at few lengths are. keys_batch t n c.loop-left.left b c.in_ok-index.index c.loop-left.keys.entries c.add_keys.new.keys.entries next at lengths c.in-Ok.ensures are)
          c.loop-left.invariant.keys;
    }

pub returns-clause-keys : goal.returns-clause-keys
returns-clause-keys g c = rest_all c.args.snapshot.now c.loop-left.left (λ k t. AreKeys c.loop-left.keys.entries (keys_in (drop k t))) (omega (arith, c.loop-left-test.false)) c.loop-left.invariant.keys
