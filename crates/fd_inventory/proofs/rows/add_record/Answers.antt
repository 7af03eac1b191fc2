use Rattle.std.proofs.Common.{rules, ◌≡◌, string_bytes, sym, subst}
use Rattle.fd_request.specs.Matching.{Matches}
use Rattle.fd_inventory.specs.Keys.{IsKey}
use Rattle.fd_inventory.specs.Shown.{AreRows}
use Rattle.fd_outcome.specs.Rows.{stored}
use Rattle.fd_inventory.proofs.Asking.{adds_asked, adds_unasked}
use Rattle.fd_inventory.proofs.Placing.{adds}
use Rattle.fd_inventory.proofs.Wholes.{renamed}
use Rattle.fd_inventory.proofs.rows.add_record.Goals as goal

pub returns-then-not-matches-clause-row : goal.returns-then-not-matches-clause-row
returns-then-not-matches-clause-row c = λ t rs newness rows.
    let is : IsKey (stored c.args.dataset.now c.args.key.now) c.in-Some.index.now c.in-Some.datum.now c.in_ok-read.read.1.room = search rules in
    let un : Matches c.args.partial.now c.in_ok-read.read.1.room → ⊥ = search rules in
    subst (AreRows c.args.rows.now.entries) (sym (adds_unasked c.args.partial.now t c.args.key.now (stored c.args.dataset.now c.args.key.now) c.in-Some.index.now c.in-Some.datum.now c.in_ok-read.read.1.room rs is un)) rows

pub returns-clause-row : goal.returns-clause-row
returns-clause-row c =
    let is : IsKey (stored c.args.dataset.now c.args.key.now) c.in-Some.index.now c.in-Some.datum.now c.in_ok-read.read.1.room = search rules in
    let index : string_bytes c.in_ok-index.index ≡ c.in-Some.index.now = search rules in
    let datum : string_bytes c.in_ok-datum.datum ≡ c.in-Some.datum.now = search rules in
    let own = renamed (stored c.args.dataset.now c.args.key.now) c.in-Some.index.now c.in-Some.datum.now (string_bytes c.in_ok-index.index) (string_bytes c.in_ok-datum.datum) c.in_ok-read.read.1.room is index datum in
    let put = adds (c.in_ok-index.index, c.in_ok-datum.datum) c.args.newest c.args.rows.now.entries c.add_row.new.rows.entries c.in_ok-add_row.ensures.entries c.in_ok-add_row.ensures.ordered in
    let all : Matches c.args.partial.now c.in_ok-read.read.1.room = search rules in
    λ t rs newness rows.
    adds_asked c.args.partial.now t c.args.key.now (stored c.args.dataset.now c.args.key.now) c.in_ok-index.index c.in_ok-datum.datum c.in_ok-read.read.1.room c.args.newest c.args.rows.now.entries c.add_row.new.rows.entries rs
    own all newness put rows
