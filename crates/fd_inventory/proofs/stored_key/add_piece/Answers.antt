use Rattle.std.proofs.Common.{rules}
use Rattle.fd_inventory.proofs.Pieces.{added, one_more}
use Rattle.fd_inventory.proofs.stored_key.add_piece.Goals as goal

pub returns-in_ok-set-in-Some-clause-few : goal.returns-in_ok-set-in-Some-clause-few
returns-in_ok-set-in-Some-clause-few c = one_more c.args.pairs.now c.in-Some.name.now c.in-Some.value.now c.set.new.self (search rules) c.in_ok-set-in-Some.ensures.ok

pub returns-in_ok-set-in-Some-clause-pair : goal.returns-in_ok-set-in-Some-clause-pair
returns-in_ok-set-in-Some-clause-pair c = added c.args.pairs.now c.args.piece.now c.in-Some.name.now c.in-Some.value.now c.set.new.self (search rules) (search rules) c.in_ok-set-in-Some.ensures.ok
