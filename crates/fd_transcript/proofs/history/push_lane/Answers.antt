use Rattle.std.proofs.Common.{map, arith}
use Rattle.fd_transcript.specs.History.{entry_of}
use Rattle.fd_transcript.specs.Seen.{seen_flush}
use Rattle.fd_transcript.proofs.Flushes.{count_next, lane_next, listed_few}
use Rattle.fd_transcript.proofs.history.push_lane.Goals as goal

pub push_one-requires : goal.push_one-requires
push_one-requires g c =
    let few = listed_few entry_of c.args.ends.now c.loop-i.i in
    omega (arith, few, c.loop-i.invariant.count, c.loop-i-test.true, c.len-total.ensures, c.len-total.type_inv)

pub loop-i-preserved : goal.loop-i-preserved
loop-i-preserved g c =
    let xs = c.args.ends.now in
    let i = c.loop-i.i in
    let x = c.at.result.now in
    let at = c.at.ensures in
    record {
      flushes = lane_next entry_of c.args.lane.now xs i x c.loop-i.count c.entry_of.result (map seen_flush c.args.listed.now.items) (map seen_flush c.loop-i.listed.items) (map seen_flush c.push_one.new.listed.items) at c.entry_of.ensures c.loop-i.invariant.flushes c.loop-i.invariant.count c.in_ok-count.ensures.flushes;
      count = count_next entry_of xs i x c.loop-i.count c.in_ok-count.count c.entry_of.result at c.entry_of.ensures c.loop-i.invariant.count c.in_ok-count.ensures.count;
    }
