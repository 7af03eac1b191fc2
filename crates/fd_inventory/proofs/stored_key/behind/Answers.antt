use Rattle.std.proofs.Common.{◌≡◌, ◌∙◌, Bool, Option, List, Some, None, IfOk, cond, sym, ap, subst}
use Rattle.fd_key.specs.Pairs.{Pair}
use Rattle.fd_inventory.specs.Keys.{whole, whole_behind}
use Rattle.fd_inventory.proofs.stored_key.behind.Goals as goal

pub returns-in_ok-fill-in-Some : goal.returns-in_ok-fill-in-Some
returns-in_ok-fill-in-Some c =
    let same : whole_behind c.args.pairs.now c.args.datum.now ≡ whole c.fill.new.room c.args.datum.now =
    ap (λ (o : Option (List Pair)). whole_behind o c.args.datum.now) c.in-Some.is ∙ ap (λ (k : List Pair). whole k c.args.datum.now) (sym c.in_ok-fill-in-Some.ensures) in
    subst (λ (o : Option (List Pair)). IfOk c.complete.result (λ (b : Bool). o ≡ cond b (Some c.complete.new.pairs) None)) (sym same) c.complete.ensures
