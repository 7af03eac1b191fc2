use Rattle.std.proofs.Common.{rules, ◌≡◌, None}
use Rattle.fd_outcome.specs.Rows.{stored_at}
use Rattle.fd_inventory.specs.Found.{keep}
use Rattle.fd_inventory.specs.Keys.{IsStored}
use Rattle.fd_inventory.proofs.Finding.{if_ok, kept_key, no_key, stored_named}
use Rattle.fd_inventory.proofs.found.with_texts.Goals as goal

pub with_more-requires : goal.with_more-requires
with_more-requires c =
    let is : IsStored (stored_at c.args.dataset.now c.args.index.now c.args.datum.now) c.in-Some.stored = search rules in
    stored_named c.args.dataset.now c.args.index.now c.args.datum.now c.in-Some.stored is

pub returns-in-Some : goal.returns-in-Some
returns-in-Some c =
    let is : IsStored (stored_at c.args.dataset.now c.args.index.now c.args.datum.now) c.in-Some.stored = search rules in
    if_ok (λ f e. kept_key c.args.dataset.now c.args.index.now c.args.datum.now c.args.found f c.in-Some.stored is e) c.with_more.result c.with_more.ensures

pub returns-in-None : goal.returns-in-None
returns-in-None c =
    let none : stored_at c.args.dataset.now c.args.index.now c.args.datum.now ≡ None = search rules in
    λ r has i d. no_key c.args.dataset.now c.args.index.now c.args.datum.now (c.args.found ≡ keep c.args.found r.key.pairs) none r has i d
