use Rattle.std.proofs.Common.{rules, ◌≡◌, ◌<◌, ◌+◌, ◌∙◌, ℕ, Bool, length, ap}
use Rattle.fd_split.specs.Rounds.{lacks_by, lacks_map}
use Rattle.fd_split.specs.Seen.{seen, seen_force}
use Rattle.fd_split.proofs.Loops.{cuts_next}
use Rattle.fd_split.proofs.cutting.cut.Goals as goal

pub loop-round-preserved : goal.loop-round-preserved
loop-round-preserved c =
    let rounds = c.args.rounds.now in
    let i = c.loop-round.round-index in
    let x = c.round-item.result in
    let f = c.loop-round.force in
    let l = c.loop-round.lacking in
    let lt : i < length rounds = search rules in
    record {
      cuts = cuts_next rounds i f c.behind-force.result l c.first_lacking-lacking.result c.loop-round.parts.items c.push.new.self.items x c.parts.result c.loop-round.invariant.cuts lt c.round-item.is
          c.parts.ensures c.behind-force.ensures
          (c.first_lacking-lacking.ensures ∙ ap (λ (b : Bool). lacks_by l b (c.loop-round.number + 1)) c.lacks_map.ensures ∙ ap (λ (n : ℕ). lacks_by l (lacks_map (seen_force f) (seen x)) (n + 1)) c.loop-round.invariant.number)
          c.in_ok-push.ensures.items;
      number = ap (λ (n : ℕ). n + 1) c.loop-round.invariant.number;
      few = c.loop-round.invariant.few;
    }
