use Rattle.std.proofs.Common.{◌≡◌, ◌∙◌, Option, List, None, IfOk, MatchOption, sym, ap, subst}
use Rattle.fd_key.specs.Pairs.{Pair}
use Rattle.fd_spelling.specs.Numerals.{◌>>=◌}
use Rattle.fd_outcome.specs.Rows.{Stored, stored_at}
use Rattle.fd_inventory.specs.Keys.{IsStored, ending}
use Rattle.fd_inventory.proofs.Keyed.{led}
use Rattle.fd_inventory.proofs.stored_key.stored_at.Goals as goal

pub returns-in-Some : goal.returns-in-Some
returns-in-Some c =
    let same : stored_at c.args.dataset.now c.args.index.now c.args.datum.now ≡ ending c.in-Some.pairs c.args.index.now c.args.datum.now =
    led c.args.dataset.now c.args.index.now c.args.datum.now ∙ ap (λ (o : Option (List Pair)). o >>= λ is. ending is c.args.index.now c.args.datum.now) (sym c.in_ok-pairs.ensures.pairs ∙ c.in-Some.is) in
    subst (λ (o : Option Stored). IfOk c.ending.result (λ r. MatchOption r (o ≡ None) (IsStored o))) (sym same) c.ending.ensures

pub returns-in-None : goal.returns-in-None
returns-in-None c =
    led c.args.dataset.now c.args.index.now c.args.datum.now ∙ ap (λ (o : Option (List Pair)). o >>= λ is. ending is c.args.index.now c.args.datum.now) (sym c.in_ok-pairs.ensures.pairs ∙ c.in-None.is)
