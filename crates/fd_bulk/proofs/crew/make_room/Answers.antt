use Rattle.std.proofs.Common.{rules, arith, ◌∙◌, ◌<◌, ◌+◌, refl, sym, ap, length}
use Rattle.fd_bulk.specs.Halting.{HasRoom, IsSameJob}
use Rattle.fd_shares.specs.declared.round.Job.{Job}
use Rattle.fd_shares.proofs.Shares.{get_there, inside}
use Rattle.fd_bulk.proofs.Turns.{each_begins, each_map, each_turns, has_at, less_next}
use Rattle.fd_bulk.proofs.crew.make_room.Goals as goal

pub loop-w-init : goal.loop-w-init
loop-w-init g c = each_begins (λ i j k. IsSameJob j k × (i < 0 → HasRoom k)) c.args.jobs.now (λ i j at. (record { desks = refl; halt = refl }, λ lt. absurd (omega (arith, lt))))

pub loop-w-preserved : goal.loop-w-preserved
loop-w-preserved g c =
    let lt : c.loop-w.w < length c.loop-w.jobs = search rules in
    let at = get_there c.loop-w.jobs c.loop-w.w c.index-jobs-w.result lt c.index-jobs-w.is in
    each_turns (λ i j k. IsSameJob j k × (i < c.loop-w.w → HasRoom k)) (λ i j k. IsSameJob j k × (i < c.loop-w.w + 1 → HasRoom k)) c.args.jobs.now c.loop-w.jobs c.loop-w.w c.index-jobs-w.result _ c.loop-w.invariant at
    (λ i x v other r. (r.0, λ less. r.1 (less_next i c.loop-w.w other less)))
    (λ x x_at r. (
      record {
        desks = c.reserve.ensures.items ∙ ap (λ (k : Job g.row.A.Denot g.row.P.Denot g.row.E.Denot). k.desks.items) (sym c.index-jobs-w.is) ∙ r.0.desks;
        halt = ap (λ (k : Job g.row.A.Denot g.row.P.Denot g.row.E.Denot). k.halt) (sym c.index-jobs-w.is) ∙ r.0.halt;
      },
      λ less. omega (arith, c.in-Ok.ensures.ok),
    ))

pub returns-in-Err-clause-same : goal.returns-in-Err-clause-same
returns-in-Err-clause-same g c =
    let lt : c.loop-w.w < length c.loop-w.jobs = search rules in
    let at = get_there c.loop-w.jobs c.loop-w.w c.index-jobs-w.result lt c.index-jobs-w.is in
    each_turns (λ i j k. IsSameJob j k × (i < c.loop-w.w → HasRoom k)) (λ i. IsSameJob) c.args.jobs.now c.loop-w.jobs c.loop-w.w c.index-jobs-w.result _ c.loop-w.invariant at
    (λ i x v other r. r.0)
    (λ x x_at r. record {
      desks = c.reserve.ensures.items ∙ ap (λ (k : Job g.row.A.Denot g.row.P.Denot g.row.E.Denot). k.desks.items) (sym c.index-jobs-w.is) ∙ r.0.desks;
      halt = ap (λ (k : Job g.row.A.Denot g.row.P.Denot g.row.E.Denot). k.halt) (sym c.index-jobs-w.is) ∙ r.0.halt;
    })

pub returns-clause-same : goal.returns-clause-same
returns-clause-same g c = each_map (λ i j k. IsSameJob j k × (i < c.loop-w.w → HasRoom k)) (λ i. IsSameJob) c.args.jobs.now c.loop-w.jobs c.loop-w.invariant (λ i x y a b r. r.0)

pub returns-clause-room : goal.returns-clause-room
returns-clause-room g c = λ v k at.
    let lt = inside c.loop-w.jobs v k at in
    let x = has_at c.args.jobs.now v (omega (arith, lt, c.loop-w.auto.jobs)) in
    (c.loop-w.invariant.at v x.0 k x.1 at).1 (omega (arith, lt, c.loop-w.auto.jobs, c.loop-w-test.false))
