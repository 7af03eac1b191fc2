-- A pass that may be lent to a writer.
use Rattle.std.specs.Prelude.{◌≡◌, List, ℕ, codes}
use Rattle.fd_turn.specs.declared.board.Pass.{Pass}
use Rattle.fd_turn.specs.declared.view.Lock.TheVariants.{Free}
use Rattle.fd_turn.specs.Passes.{BoardId, IsOf, view}
use Rattle.fd_turn.specs.Views.{all_parts}

-- the pass is of this board, has all parts of the dataset `a=1`, and no lock
pub record IsFree {X Y : Type 0} (board : BoardId) (pass : Pass X Y) : Type 0 where
  pub own : IsOf board pass
  pub subject : (view pass).subject ≡ codes "a=1"
  pub lock : (view pass).lock ≡ Free
  pub parts : (view pass).parts ≡ all_parts

-- a writer of a dataset of this name may flush: it is the dataset `a=1`, and the pass may be lent
pub record IsReady {X Y : Type 0} (name : List ℕ) (board : BoardId) (pass : Pass X Y) : Type 0 where
  pub dataset : name ≡ codes "a=1"
  pub free : IsFree board pass
