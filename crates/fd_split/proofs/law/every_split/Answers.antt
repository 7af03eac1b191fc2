use Rattle.fd_split.proofs.RoundAgain.{reading_of}
use Rattle.fd_split.proofs.RoundLaws.{reading_has}
use Rattle.fd_split.proofs.Special.{all_whole}
use Rattle.fd_split.proofs.law.every_split.Goals as goal

pub returns-clause-has : goal.returns-clause-has
returns-clause-has c m x e = reading_has m x e

pub returns-clause-whole : goal.returns-clause-whole
returns-clause-whole c m fs e = all_whole m fs e

pub returns-clause-read : goal.returns-clause-read
returns-clause-read c m x h = reading_of m x h
