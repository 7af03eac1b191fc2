use Rattle.std.proofs.Common.{rules, ◌≡◌, ◌∙◌, ◌++◌, ◌∷◌, [], ap, refl, length}
use Rattle.fd_session.specs.Endings.{count_faults, lane_faults}
use Rattle.fd_session.proofs.Noting.{count_more, counting_begins, counting_ends, counting_more, nothing_left}
use Rattle.fd_session.proofs.closing.note_all.Goals as goal

pub loop-lane-init : goal.loop-lane-init
loop-lane-init g c = record {
  has = refl;
  out = refl;
  counted = counting_begins (count_faults c.args.ends) (count_faults c.into_vec-left.result.items) (g.S.Store.faults c.args.store.now) (ap count_faults c.into_vec-left.ensures);
}

pub loop-lane-preserved : goal.loop-lane-preserved
loop-lane-preserved g c =
    let popped : c.loop-lane.left.items ≡ c.pop.new.self.items ++ c.in-Some.lane ∷ [] = search rules in
    record {
      has = c.note_lane.ensures.has ∙ c.loop-lane.invariant.has;
      out = c.note_lane.ensures.out ∙ c.loop-lane.invariant.out;
      counted = counting_more (count_faults c.args.ends) (count_faults c.loop-lane.left.items) (count_faults c.pop.new.self.items) (lane_faults c.in-Some.lane) (g.S.Store.faults c.args.store.now) (g.S.Store.faults c.loop-lane.store) (g.S.Store.faults c.note_lane.new.store)
          (ap count_faults popped ∙ count_more c.pop.new.self.items c.in-Some.lane) c.loop-lane.invariant.counted c.note_lane.ensures.counted;
    }

pub returns-clause-counted : goal.returns-clause-counted
returns-clause-counted g c =
    let zero : length c.loop-lane.left.items ≡ 0 = search rules in
    counting_ends (count_faults c.args.ends) (count_faults c.loop-lane.left.items) (g.S.Store.faults c.args.store.now) (g.S.Store.faults c.loop-lane.store) (ap count_faults (nothing_left c.loop-lane.left.items zero)) c.loop-lane.invariant.counted
