use Rattle.fd_turn.proofs.Ends.{starts_as}
use Rattle.fd_turn.proofs.board.Board.start.Goals as goal

pub new-requires : goal.new-requires
new-requires g c = starts_as _ _ _ _ _ _ _ c.args.first c.args.state _ _ c.in_ok-slots.ensures c.of-about.ensures c.requires.same c.requires.subject c.requires.sure
