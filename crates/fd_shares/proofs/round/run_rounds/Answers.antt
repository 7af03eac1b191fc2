use Rattle.std.proofs.Common.{rules, arith, ◌<◌, get_or, sym, subst}
use mir.Syntax.{of_param}
use denote.Exit.{unseen}
use denote.Param.Send.{Quiet-if}
use Rattle.fd_shares.specs.Sharing.{CanShare, Shared}
use Rattle.fd_shares.proofs.round.run_rounds.Goals as goal

pub serve-requires-clause-accepts : goal.serve-requires-clause-accepts
serve-requires-clause-accepts g c κs within = λ i x lt is s p shows same.
    let there = subst (λ j. CanShare g.H.Shelf.kept c.args.datasets.now i c.args.parcels.now j) (sym is) (c.requires.can i x lt) in
    let own = subst (λ j. CanShare g.H.Shelf.kept c.args.datasets.now i c.args.parcels.now j) (sym same) there in
    let can = subst (λ ps. CanShare g.H.Shelf.kept c.args.datasets.now i ps p.now) (sym shows) own in
    let inside : i < 8 = omega (arith, lt, c.requires.few) in
    let b = c.type_bounds in
    ((inside, can), (record { owned = b.send-F.owned; leaving = λ k. Quiet-if (k (of_param 0)) unseen unseen (λ x w. tt) (λ x w. tt) }, record { owned = b.send-T.owned; leaving = λ k. Quiet-if (k (of_param 1)) unseen unseen (λ x w. tt) (λ x w. tt) }, record { owned = b.send-H.owned; leaving = λ k. Quiet-if (k (of_param 2)) unseen unseen (λ x w. tt) (λ x w. tt) }, record { owned = b.send-T-Sealed.owned; leaving = λ k. Quiet-if (k (of_param 5)) unseen unseen (λ x w. tt) (λ x w. tt) }, record { owned = b.send-T-Sealed-Reader.owned; leaving = λ k. Quiet-if (k (of_param 6)) unseen unseen (λ x w. tt) (λ x w. tt) }, record { owned = b.send-H-Sealed.owned; leaving = λ k. Quiet-if (k (of_param 7)) unseen unseen (λ x w. tt) (λ x w. tt) }, record { owned = b.send-H-File.owned; leaving = λ k. Quiet-if (k (of_param 8)) unseen unseen (λ x w. tt) (λ x w. tt) }, record { owned = b.send-H-Sealed-Reader.owned; leaving = λ k. Quiet-if (k (of_param 9)) unseen unseen (λ x w. tt) (λ x w. tt) }, search rules, search rules, search rules, search rules))

pub returns-clause-shared : goal.returns-clause-shared
returns-clause-shared g c = λ i e lt.
    let r = (c.serve.ensures.changed.each i e lt).1 in
    let left = subst (λ y. Shared g.H.Shelf.kept c.args.datasets.now i r.shown.now r.argument.now y) r.left r.call in
    let job = subst (λ x. Shared g.H.Shelf.kept c.args.datasets.now i r.shown.now x (get_or c.serve.new.jobs i e)) r.argument_is left in
    subst (λ ps. Shared g.H.Shelf.kept c.args.datasets.now i ps (get_or c.args.jobs.now i e) (get_or c.serve.new.jobs i e)) r.shown_is job
