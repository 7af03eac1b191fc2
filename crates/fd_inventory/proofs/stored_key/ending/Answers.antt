use Rattle.std.proofs.Common.{rules, ◌≡◌, Some, None, string_bytes}
use Rattle.fd_inventory.specs.Keys.{ending, whole}
use Rattle.fd_inventory.proofs.Wholes.{ends, none_ends, owned}
use Rattle.fd_inventory.proofs.stored_key.ending.Goals as goal

pub returns-then-not-branch : goal.returns-then-not-branch
returns-then-not-branch c =
    let none : whole c.args.pairs c.args.datum.now ≡ None = search rules in
    none_ends c.args.pairs c.args.index.now c.args.datum.now none

pub returns : goal.returns
returns c =
    let some : whole c.args.pairs c.args.datum.now ≡ Some c.complete.new.pairs = search rules in
    let index : string_bytes c.in_ok-index.index ≡ c.args.index.now = search rules in
    let datum : string_bytes c.in_ok-datum.datum ≡ c.args.datum.now = search rules in
    owned (ending c.args.pairs c.args.index.now c.args.datum.now) _ c.args.index.now c.args.datum.now (ends c.args.pairs c.complete.new.pairs c.args.index.now c.args.datum.now some) index datum
