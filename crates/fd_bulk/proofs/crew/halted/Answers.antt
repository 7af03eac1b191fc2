use Rattle.std.proofs.Common.{rules, arith, ◌≡◌, ◌∙◌, ◌<◌, ◌+◌, ap, sym, subst, length, ℕ, IfSome}
use Rattle.fd_bytes.specs.Causes.{Rose}
use Rattle.fd_bulk.specs.Halting.{HaltedSo, IsQuiet, OnStore}
use Rattle.fd_shares.specs.declared.round.Job.{Job}
use Rattle.fd_bulk.proofs.Lowest.{cause_lower, halted_none, halted_some, none_more, some_more}
use Rattle.fd_shares.proofs.Shares.{get_there}
use Rattle.fd_bulk.proofs.Turns.{turns_end, turns_next, turns_on}
use Rattle.fd_bulk.proofs.crew.halted.Goals.{in-None, in-Some}
use Rattle.fd_bulk.proofs.crew.halted.Goals as goal

pub returns-in-None-first-clause-quiet : goal.returns-in-None-first-clause-quiet
returns-in-None-first-clause-quiet g c = turns_end IsQuiet c.args.jobs.now c.loop-w.jobs c.loop-w.w c.loop-w-test.false c.loop-w.invariant.quiet

pub returns-in-None-first-clause-halted : goal.returns-in-None-first-clause-halted
returns-in-None-first-clause-halted g c = halted_none c.loop-w.w c.args.jobs.now c.loop-w.first c.loop-w-test.false c.in-None-first.is c.loop-w.invariant.found

pub returns-in-Some-first-clause-quiet : goal.returns-in-Some-first-clause-quiet
returns-in-Some-first-clause-quiet g c = turns_end IsQuiet c.args.jobs.now c.loop-w.jobs c.loop-w.w c.loop-w-test.false c.loop-w.invariant.quiet

pub returns-in-Some-first-clause-halted : goal.returns-in-Some-first-clause-halted
returns-in-Some-first-clause-halted g c =
    halted_some c.loop-w.w c.args.jobs.now c.loop-w.first c.in-Some-first.field-0 (omega (arith, c.loop-w-test.false, c.loop-w.auto.w-end)) c.in-Some-first.is c.loop-w.invariant.found

pub loop-w-preserved : goal.loop-w-preserved
loop-w-preserved g c =
    let js = c.args.jobs.now in
    let ks = c.loop-w.jobs in
    let w = c.loop-w.w in
    let j = c.index-jobs-w.result in
    let inv = c.loop-w.invariant in
    let lt : c.loop-w.w < length c.loop-w.jobs = search rules in
    let at = get_there ks w j lt c.index-jobs-w.is in
    let there = turns_next IsQuiet js ks w j inv.quiet at in
    let halt : c.take.result ≡ c.index-jobs-w.result.halt = c.take.ensures.value ∙ ap (λ (k : Job g.row.A.Denot g.row.P.Denot _). k.halt) (sym c.index-jobs-w.is) in
    let quiet = turns_on IsQuiet js ks w j _ inv.quiet at record { desks = ap (λ (k : Job g.row.A.Denot g.row.P.Denot _). k.desks.items) (sym c.index-jobs-w.is); halt = c.take.ensures.after } in
    elim c.match-take.branch [
      | in-None b ↦ record {
        quiet = quiet;
        found = subst (HaltedSo (w + 1) js) (sym b.first-is) (none_more w js j there c.loop-w.first (sym halt ∙ b.in-None.is) inv.found);
        has = ap g.S.Store.has b.store-is ∙ inv.has;
        out = ap g.S.Store.out b.store-is ∙ inv.out;
        cause = search rules;
        later = search rules;
      }
      | in-Some b ↦
          let t = b.told-fault.ensures in
          record {
            quiet = quiet;
            found = subst (HaltedSo (w + 1) js) (sym b.first-is) (some_more w js j there b.in-Some.field-0 (sym halt ∙ b.in-Some.is) b.told-fault.result t.told c.loop-w.first b.lower.result b.lower.ensures inv.found);
            has = ap g.S.Store.has b.store-is ∙ t.has ∙ inv.has;
            out = ap g.S.Store.out b.store-is ∙ t.out ∙ inv.out;
            cause = subst (λ f. IfSome f (λ h. OnStore h.fault (Rose (g.S.Store.faults c.args.store.now) (g.S.Store.faults c.match-take.store)))) (sym b.first-is)
                (subst (λ (n : ℕ). OnStore b.lower.result.fault (Rose (g.S.Store.faults c.args.store.now) n)) (sym (ap g.S.Store.faults b.store-is))
                (cause_lower (g.S.Store.faults c.args.store.now) (g.S.Store.faults c.loop-w.store) (g.S.Store.faults b.told-fault.new.store) inv.later t.later c.loop-w.first _ b.lower.result b.lower.ensures inv.cause t.cause));
            later = omega (arith, inv.later, t.later, ap g.S.Store.faults b.store-is);
          }
    ]
