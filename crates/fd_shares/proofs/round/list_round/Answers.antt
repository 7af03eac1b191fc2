use Rattle.std.proofs.Common.{rules, get_or, sym, subst}
use mir.Syntax.{of_param}
use denote.Exit.{unseen}
use denote.Param.Send.{Quiet-if}
use Rattle.fd_shares.specs.Sharing.{CanListAll, Listed}
use Rattle.fd_shares.proofs.round.list_round.Goals as goal

pub for_each_mut-requires-clause-accepts : goal.for_each_mut-requires-clause-accepts
for_each_mut-requires-clause-accepts g c κs within = λ i p lt is.
    let can = subst (λ j. CanListAll g.H.Shelf.kept c.args.datasets.now j) (sym is) (c.requires.can i p.now lt) in
    let b = c.type_bounds in
    (can, (record { owned = b.send-F.owned; leaving = λ k. Quiet-if (k (of_param 0)) unseen unseen (λ x w. tt) (λ x w. tt) }, record { owned = b.send-T.owned; leaving = λ k. Quiet-if (k (of_param 1)) unseen unseen (λ x w. tt) (λ x w. tt) }, record { owned = b.send-H.owned; leaving = λ k. Quiet-if (k (of_param 2)) unseen unseen (λ x w. tt) (λ x w. tt) }, record { owned = b.send-T-Sealed.owned; leaving = λ k. Quiet-if (k (of_param 4)) unseen unseen (λ x w. tt) (λ x w. tt) }, record { owned = b.send-T-Sealed-Reader.owned; leaving = λ k. Quiet-if (k (of_param 5)) unseen unseen (λ x w. tt) (λ x w. tt) }, record { owned = b.send-H-Sealed.owned; leaving = λ k. Quiet-if (k (of_param 6)) unseen unseen (λ x w. tt) (λ x w. tt) }, record { owned = b.send-H-File.owned; leaving = λ k. Quiet-if (k (of_param 7)) unseen unseen (λ x w. tt) (λ x w. tt) }, record { owned = b.send-H-Sealed-Reader.owned; leaving = λ k. Quiet-if (k (of_param 8)) unseen unseen (λ x w. tt) (λ x w. tt) }, search rules, search rules, search rules))

pub returns-clause-listed : goal.returns-clause-listed
returns-clause-listed g c = λ i e lt.
    let h = c.for_each_mut.ensures i e lt in
    let r = h.1 in
    let left = subst (λ y. Listed g.H.Shelf.kept c.args.datasets.now r.argument.now y) r.left r.call in
    subst (λ x. Listed g.H.Shelf.kept c.args.datasets.now x (get_or c.for_each_mut.new.s i e)) r.argument_is left
