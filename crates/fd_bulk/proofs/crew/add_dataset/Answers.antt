use Rattle.std.proofs.Common.{rules, ◌∙◌, ◌<◌, ◌++◌, ◌∷◌, [], ap, sym, subst, length, None}
use Rattle.fd_bulk.specs.Halting.{HasOneMore, HasRoom}
use Rattle.fd_shares.specs.declared.round.Job.{Job}
use Rattle.fd_shares.proofs.Shares.{get_there}
use Rattle.fd_bulk.proofs.Turns.{turns_begin, turns_end, turns_next, turns_on}
use Rattle.fd_bulk.proofs.crew.add_dataset.Goals as goal

pub loop-w-init : goal.loop-w-init
loop-w-init g c = turns_begin HasOneMore c.args.jobs.now

pub push_reserved-requires : goal.push_reserved-requires
push_reserved-requires g c =
    let lt : c.loop-w.w < length c.loop-w.jobs = search rules in
    let at = get_there c.loop-w.jobs c.loop-w.w c.index-jobs-w.result lt c.index-jobs-w.is in
    let there = turns_next HasOneMore c.args.jobs.now c.loop-w.jobs c.loop-w.w c.index-jobs-w.result c.loop-w.invariant at in
    subst HasRoom c.index-jobs-w.is (c.requires.room c.loop-w.w c.index-jobs-w.result there)

pub loop-w-preserved : goal.loop-w-preserved
loop-w-preserved g c =
    let lt : c.loop-w.w < length c.loop-w.jobs = search rules in
    let at = get_there c.loop-w.jobs c.loop-w.w c.index-jobs-w.result lt c.index-jobs-w.is in
    turns_on HasOneMore c.args.jobs.now c.loop-w.jobs c.loop-w.w c.index-jobs-w.result _ c.loop-w.invariant at record { desks = c.push_reserved.ensures.items ∙ ap (λ (k : Job g.row.A.Denot g.row.P.Denot g.row.E.Denot). k.desks.items ++ None ∷ []) (sym c.index-jobs-w.is); halt = ap (λ (k : Job g.row.A.Denot g.row.P.Denot g.row.E.Denot). k.halt) (sym c.index-jobs-w.is) }

pub returns : goal.returns
returns g c = record { added = turns_end HasOneMore c.args.jobs.now c.loop-w.jobs c.loop-w.w c.loop-w-test.false c.loop-w.invariant }
