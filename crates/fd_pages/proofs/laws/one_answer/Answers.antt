use Rattle.fd_pages.specs.Parts.{pages_by}
use Rattle.fd_pages.proofs.Turning.{halved_once}
use Rattle.fd_pages.proofs.laws.one_answer.Goals as goal

pub returns : goal.returns
returns c = λ b len key p q seen other. halved_once b key 0 (pages_by len) p q seen.1 other.1
