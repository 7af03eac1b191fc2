-- What a sink has taken of a text where memory ran out.
use Rattle.std.specs.Prelude.{◌≡◌, ◌≢◌, ℕ, List, [], ◌++◌, Option}
use Rattle.fd_io.specs.Streams.{Takes}

-- of a text a front was taken, and not all of it
pub record TakesShort (old new : Option (List ℕ)) (text : List ℕ) : Type 0 where
  pub front : List ℕ
  pub rest : List ℕ
  pub split : text ≡ front ++ rest
  pub more : rest ≢ []
  pub took : Takes old new front
