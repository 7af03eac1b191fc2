use Rattle.std.proofs.Common.{get_or, refl, subst}
use Rattle.fd_beside.specs.Beside.{ChangesShown}
use Rattle.fd_beside.proofs.beside.change_all_shown.Goals as goal

pub returns : goal.returns
returns g c = record {
  changed = record {
    each = λ i d lt.
        let r = (c.for_each_mut.ensures i d lt).1 in
        let left = subst (λ y. ChangesShown g.F.Fn c.args.each.now c.args.items.now i r.argument.now y) {y = get_or c.for_each_mut.new.s i d} r.left r.call in
        (refl, subst (λ x. ChangesShown g.F.Fn c.args.each.now c.args.items.now i x (get_or c.for_each_mut.new.s i d)) r.argument_is left);
  };
}
