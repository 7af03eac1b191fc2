use Rattle.std.proofs.Common.{rules, ◌≡◌, length, ℕ}
use Rattle.fd_sections.specs.Frames.{frame_at}
use Rattle.fd_sections.proofs.frame.frame_at.Goals as goal

pub returns-then-have-lt16 : goal.returns-then-have-lt16
unfolding frame_at
returns-then-have-lt16 c = (16, search rules)
