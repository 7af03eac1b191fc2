use Rattle.std.proofs.Common.{◌≡◌, ◌-◌, arith, sym, subst, drop}
use Rattle.fd_inventory.specs.Counted.{AreKeys}
use Rattle.fd_outcome.specs.Rows.{put_keys}
use Rattle.fd_inventory.proofs.Counts.{keys_start, keys_more}
use Rattle.fd_inventory.proofs.counting.add_keys.Goals as goal

pub loop-left-init : goal.loop-left-init
loop-left-init c = record {
  few = omega (arith, c.len-left.ensures.count);
  keys = λ b ks lengths are.
      subst (λ n. AreKeys c.args.keys.now.entries (put_keys (drop n b) ks)) (sym c.len-left.ensures.count) (keys_start b c.args.index.now ks c.args.keys.now.entries lengths are);
}

pub loop-left-preserved : goal.loop-left-preserved
loop-left-preserved c = record {
  few = omega (arith, c.loop-left.invariant.few);
  keys = λ b ks lengths are.
      keys_more b c.args.index.now (c.loop-left.left - 1) c.loop-left.left _ c.in_ok-text.text ks c.loop-left.keys.entries c.insert.new.self.entries lengths (omega (arith, c.loop-left-test.true)) c.record.ensures
      c.in_ok-text.ensures.items c.in_ok-insert.ensures.entries (c.loop-left.invariant.keys b ks lengths are);
}

pub returns : goal.returns
returns c = λ b ks lengths are.
    let none : c.loop-left.left ≡ 0 = omega (arith, c.loop-left-test.false) in
    subst (λ n. AreKeys c.loop-left.keys.entries (put_keys (drop n b) ks)) none (c.loop-left.invariant.keys b ks lengths are)
