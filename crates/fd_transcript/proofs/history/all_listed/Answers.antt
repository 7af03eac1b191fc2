use Rattle.std.proofs.Common.{rules, ◌≡◌, ◌∙◌, ◌≤◌, ◌<◌, ◌++◌, length, map, arith}
use Rattle.std.specs.Prelude.{min, zip}
use Rattle.fd_transcript.specs.History.{lane_flushed}
use Rattle.fd_transcript.specs.Seen.{seen_flush}
use Rattle.fd_transcript.proofs.Pieces.{item_at, zip_at, zip_short}
use Rattle.fd_transcript.proofs.Flushes.{lanes_all, lanes_next}
use Rattle.fd_transcript.proofs.history.all_listed.Goals as goal

pub loop-i-preserved : goal.loop-i-preserved
loop-i-preserved g c =
    let lanes = c.args.lanes.now in
    let ends = c.args.ends.now in
    let i = c.loop-i.i in
    let lane = c.index-lanes-i.result in
    let few : i < min (length lanes) (length ends) = search rules in
    let lt : i < length lanes = omega (arith, few) in
    let at = zip_at lanes ends i lane c.at.result.now (item_at lanes i lane lt c.index-lanes-i.is) c.at.ensures in
    let pushed : map seen_flush c.push_lane.new.listed.items ≡ map seen_flush c.loop-i.listed.items ++ lane_flushed (lane, c.at.result.now) = search rules in
    lanes_next lane_flushed (zip lanes ends) i (lane, c.at.result.now) at (map seen_flush c.loop-i.listed.items) (map seen_flush c.push_lane.new.listed.items) pushed c.loop-i.invariant

pub returns : goal.returns
returns g c =
    let lanes = c.args.lanes.now in
    let ends = c.args.ends.now in
    let i = c.loop-i.i in
    let few : min (length lanes) (length ends) ≤ i = search rules in
    c.loop-i.invariant ∙ lanes_all lane_flushed (zip lanes ends) i (zip_short lanes ends i few)
