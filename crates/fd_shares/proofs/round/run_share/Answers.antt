use Rattle.std.proofs.Common.{rules, ◌≡◌, ◌<◌, ◌≤◌, ◌+◌, ◌++◌, ◌∷◌, [], ◌∙◌, List, ℕ, ap, sym, subst, length, take, append_assoc, append-nil}
use Rattle.fd_entries.specs.declared.batch.Pair.{Pair}
use Rattle.fd_shares.specs.declared.round.Parcel.{Parcel}
use Rattle.fd_shares.specs.Working.{Filling}
use Rattle.fd_shares.specs.Sharing.{Sharing, SharedTo, share}
use Rattle.fd_shares.proofs.Shares.{fit_at, get_there, met_on, met_there, same_met, share_more, share_other, share_room, take_all, work_told}
use Rattle.fd_shares.proofs.round.run_share.Goals.{then-parcel-worker+in-Ok, else-parcel-worker}
use Rattle.fd_shares.proofs.round.run_share.Goals as goal

pub store_parcel-requires-clause-can : goal.store_parcel-requires-clause-can
store_parcel-requires-clause-can g c κs within =
    let r = c.requires.can in
    let inv = c.loop-at.invariant in
    let p = c.index-parcels-at.result in
    let ps = c.args.parcels.now in
    let i : ℕ = c.loop-at.at in
    let lt : i < length ps = search rules in
    let mine : p.worker ≡ c.args.worker = search rules in
    let had = r.met i p (get_there ps i p lt c.index-parcels-at.is) mine in
    let has = met_there c.args.job.now.desks.items c.loop-at.job.desks.items p.dataset had.0 inv.met had.1 in
    record {
      names = r.names;
      pairs = λ n. r.pairs n ++ share c.args.worker n (take i ps);
      works = inv.goes r.names r.pairs r.works;
      fit = fit_at r.names ps i p r.fit lt c.index-parcels-at.is;
      desk = has.0;
      at = has.1;
      sum = share_room c.args.worker ps i p (r.pairs p.dataset) lt c.index-parcels-at.is mine (r.sum p.dataset);
    }

pub returns-in-Err : goal.returns-in-Err
returns-in-Err g c =
    let inv = c.loop-at.invariant in
    let p = c.index-parcels-at.result in
    let ps = c.args.parcels.now in
    let i : ℕ = c.loop-at.at in
    let lt : i < length ps = search rules in
    let mine : p.worker ≡ c.args.worker = search rules in
    record {
      shared = record {
        met = met_on c.args.job.now.desks.items c.loop-at.job.desks.items c.store_parcel.new.job.desks.items inv.met c.in-Err.ensures.met;
        goes = λ names pairs all.
            let s = c.in-Err.ensures.stores names (λ n. pairs n ++ share c.args.worker n (take i ps)) (inv.goes names pairs all) in
            (p, get_there ps i p lt c.index-parcels-at.is, mine, s.0, s.1);
      };
    }

pub loop-at-init : goal.loop-at-init
loop-at-init g c =
    let r = c.requires.can in
    record {
      running = r.running;
      met = same_met c.args.job.now.desks.items;
      goes = λ names pairs all. work_told g.H.Shelf.kept (λ n. Filling) pairs (λ n. pairs n ++ share c.args.worker n (take 0 c.args.parcels.now)) c.args.datasets.now names c.args.job.now.desks.items (λ n. append-nil (pairs n)) all;
    }

pub loop-at-preserved : goal.loop-at-preserved
loop-at-preserved g c =
    let r = c.requires.can in
    let inv = c.loop-at.invariant in
    let kept = g.H.Shelf.kept in
    let boards = c.args.datasets.now in
    let v = c.args.worker in
    let p = c.index-parcels-at.result in
    let ps = c.args.parcels.now in
    let i : ℕ = c.loop-at.at in
    let lt : i < length ps = search rules in
    elim c.if-parcel-worker.branch [
      | then-parcel-worker+in-Ok w ↦
          let mine : p.worker ≡ v = search rules in
          subst (λ k. Sharing kept boards v ps (i + 1) c.args.job.now k) (sym w.job-is) (record {
            running = w.in-Ok.ensures.halt ∙ inv.running;
            met = met_on c.args.job.now.desks.items c.loop-at.job.desks.items w.store_parcel.new.job.desks.items inv.met w.in-Ok.ensures.met;
            goes = λ names pairs all.
                work_told kept (λ n. Filling) (λ n. (pairs n ++ share v n (take i ps)) ++ share p.worker n (p ∷ [])) (λ n. pairs n ++ share v n (take (i + 1) ps)) boards names w.store_parcel.new.job.desks.items
                (λ n. ap (λ (xs : List Pair). pairs n ++ xs) (share_more v n ps i p lt c.index-parcels-at.is) ∙ sym (append_assoc (pairs n) (share v n (take i ps)) (share v n (p ∷ []))) ∙ ap (λ (x : ℕ). (pairs n ++ share v n (take i ps)) ++ share x n (p ∷ [])) (sym mine))
                (w.in-Ok.ensures.stores names (λ n. pairs n ++ share v n (take i ps)) (inv.goes names pairs all));
          })
      | else-parcel-worker w ↦
          subst (λ k. Sharing kept boards v ps (i + 1) c.args.job.now k) (sym w.job-is) (record {
            running = inv.running;
            met = inv.met;
            goes = λ names pairs all.
                work_told kept (λ n. Filling) (λ n. pairs n ++ share v n (take i ps)) (λ n. pairs n ++ share v n (take (i + 1) ps)) boards names c.loop-at.job.desks.items
                (λ n. ap (λ (xs : List Pair). pairs n ++ xs) (share_more v n ps i p lt c.index-parcels-at.is ∙ ap (λ (xs : List Pair). share v n (take i ps) ++ xs) (share_other v n p (search rules)) ∙ append-nil (share v n (take i ps))))
                (inv.goes names pairs all);
          })
    ]

pub returns : goal.returns
returns g c =
    let inv = c.loop-at.invariant in
    let ps = c.args.parcels.now in
    let le : length ps ≤ c.loop-at.at = search rules in
    record {
      shared = record {
        met = inv.met;
        goes = λ names pairs all.
            subst (SharedTo g.H.Shelf.kept c.args.datasets.now c.args.worker ps names pairs c.loop-at.job.desks.items) (sym inv.running)
            (work_told g.H.Shelf.kept (λ n. Filling) (λ n. pairs n ++ share c.args.worker n (take c.loop-at.at ps)) (λ n. pairs n ++ share c.args.worker n ps) c.args.datasets.now names c.loop-at.job.desks.items
            (λ n. ap (λ (xs : List Parcel). pairs n ++ share c.args.worker n xs) (sym (take_all ps c.loop-at.at le))) (inv.goes names pairs all));
      };
    }
