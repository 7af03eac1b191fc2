use Rattle.std.proofs.Common.{rules, arith, subst, sym}
use Rattle.fd_entries.specs.Table.{AllFit}
use Rattle.fd_entries.proofs.StandingLemmas.{fit-push}
use Rattle.fd_purge.proofs.dividing.Divided.place.Goals as goal

pub returns-in-Ok-push-clause-fit : goal.returns-in-Ok-push-clause-fit
returns-in-Ok-push-clause-fit c = λ fit.
    subst (AllFit 0) (sym c.in-Ok-push.ensures.items) (fit-push 0 c.args.self.now.kept.items c.args.entry fit (record {
      writer = omega (arith, c.if-from-kept.false, c.len-kept.ensures);
      seq = omega arith;
      fields = omega arith;
      index_len = omega arith;
      fields_len = omega arith;
      digest = search rules;
    }))
