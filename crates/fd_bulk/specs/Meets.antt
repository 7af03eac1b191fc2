-- A dataset that is met by all workers.
use Rattle.std.specs.Prelude.{◌≡◌, ◌++◌, ◌∷◌, [], ℕ, List, Some, None, IfSome, slice_get}
use Rattle.fd_turn.specs.declared.board.Pass.{Pass}
use Rattle.fd_turn.specs.Passes.{IsOf}
use Rattle.fd_archiver.specs.Writing.{Writing}
use Rattle.fd_library.specs.Calls.{Changes}
use Rattle.fd_library.specs.Open.{IsWhole, OpenDatasets, seat_of}
use Rattle.fd_shares.specs.declared.round.Job.{Job}
use Rattle.fd_bulk.specs.Halting.{Each, HasOneMore}

-- The pass of the dataset with this number was handed out and put behind the others, and each worker has one dataset more.
pub record Meets {D H X Y E : Type 0} (n : ℕ) (l m : OpenDatasets D) (ps qs : List (Pass X Y)) (js ks : List (Job (Writing H) (Pass X Y) E)) : Type 0 where
  pub pass : Pass X Y
  pub own : IfSome (slice_get l.boards n) (λ b. IsOf b pass)
  pub seats : Changes n l m (λ h g. (h.pass ≡ Some (seat_of pass)) × IsWhole h.name (seat_of pass) × (g ≡ record h { pass = None }))
  pub passes : qs ≡ ps ++ pass ∷ []
  pub jobs : Each (λ i. HasOneMore) js ks
