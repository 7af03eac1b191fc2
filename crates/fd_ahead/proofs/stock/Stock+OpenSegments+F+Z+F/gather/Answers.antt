use Rattle.std.proofs.Common.{arith, refl, ◌≡◌, ◌<◌, length}
use Rattle.fd_ahead.proofs.Joining.{joined_next}
use Rattle.fd_ahead.proofs.stock.Stock+OpenSegments+F+Z+F.gather.Goals as goal

pub loop-i-preserved : goal.loop-i-preserved
loop-i-preserved g c =
    let lt : c.loop-i.i < length c.args.located.now = omega (arith, c.loop-i-test.true, c.requires.range.1) in
    record {
      stock = λ os was. let s = c.loop-i.invariant.stock os was in record { segments = s.segments; ready = c.join_next.ensures.ready os s.ready };
      joined = λ os was.
          let s = c.loop-i.invariant.stock os was in
          let one = c.if-not-join_next.ensures.joined refl os s.ready in
          joined_next os c.args.located.now c.args.from c.loop-i.i c.args.joined.now.items c.loop-i.joined.items c.join_next.new.joined.items one.0 _ c.loop-i.auto.i lt (c.loop-i.invariant.joined os was) one.1 one.2;
      none = λ e. absurd {A = c.join_next.new.joined.items ≡ c.args.joined.now.items} (omega (arith, e, c.loop-i.auto.i));
    }
