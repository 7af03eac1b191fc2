use Rattle.std.proofs.Common.{rules, ◌≡◌, ◌∙◌, ◌++◌, ◌∷◌, [], ap, refl, length}
use Rattle.fd_session.specs.Endings.{is_fault, lane_faults, one_if}
use Rattle.fd_session.proofs.Noting.{counting_begins, counting_ends, counting_more, lane_more, nothing_left}
use Rattle.fd_session.proofs.closing.note_lane.Goals as goal

pub loop-end-init : goal.loop-end-init
loop-end-init g c = record {
  has = refl;
  out = refl;
  counted = counting_begins (lane_faults c.args.ends) (lane_faults c.into_vec-left.result.items) (g.S.Store.faults c.args.store.now) (ap lane_faults c.into_vec-left.ensures);
}

pub loop-end-preserved : goal.loop-end-preserved
loop-end-preserved g c =
    let popped : c.loop-end.left.items ≡ c.pop.new.self.items ++ c.in-Some.end ∷ [] = search rules in
    record {
      has = c.note_end.ensures.has ∙ c.loop-end.invariant.has;
      out = c.note_end.ensures.out ∙ c.loop-end.invariant.out;
      counted = counting_more (lane_faults c.args.ends) (lane_faults c.loop-end.left.items) (lane_faults c.pop.new.self.items) (one_if (is_fault c.in-Some.end)) (g.S.Store.faults c.args.store.now) (g.S.Store.faults c.loop-end.store) (g.S.Store.faults c.note_end.new.store)
          (ap lane_faults popped ∙ lane_more c.pop.new.self.items c.in-Some.end) c.loop-end.invariant.counted c.note_end.ensures.counted;
    }

pub returns-clause-counted : goal.returns-clause-counted
returns-clause-counted g c =
    let zero : length c.loop-end.left.items ≡ 0 = search rules in
    counting_ends (lane_faults c.args.ends) (lane_faults c.loop-end.left.items) (g.S.Store.faults c.args.store.now) (g.S.Store.faults c.loop-end.store) (ap lane_faults (nothing_left c.loop-end.left.items zero)) c.loop-end.invariant.counted
