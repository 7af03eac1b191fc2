use Rattle.std.proofs.Common.{rules}
use Rattle.fd_turn.proofs.Locks.{leaves_lock}
use Rattle.fd_turn.proofs.board.Board.unlock.Goals as goal

pub store-requires : goal.store-requires
store-requires g c = (search rules, search rules, leaves_lock _ _ _ _ _ _ _ _ _ _ c.args.state c.requires.owner.0 (search rules) (search rules) (search rules) (search rules) (search rules) (search rules) (search rules))

pub invariant_of-pass : goal.invariant_of-pass
invariant_of-pass g c = let t = c.store.ensures.2 c.args.state (search rules) in record { away = search rules; compared = search rules; some_parts = search rules; out = search rules }
