-- Where the newest bytes of keys stand, each in the nearest of its datasets that has it.
use Rattle.std.specs.Prelude.{◌≡◌, ℕ, List, Option}
use Rattle.fd_schema.specs.declared.place.Place.{Place}
use Rattle.fd_ahead.specs.declared.located.Located.{Located}
use Rattle.fd_retrieve.specs.Located.{AreLocated}
use Rattle.fd_retrieve.specs.Open.{Open}
use Rattle.fd_layered.specs.Chains.{firsts}

-- Each place was looked at, and of so many behind one another the first is taken whose dataset has the key.
pub record AreNearest (os : List Open) (places : List Place) (width count : ℕ) (nearest : List (Option Located)) : Type 0 where
  pub located : List (Option Located)
  pub each : AreLocated os places located
  pub is : nearest ≡ firsts width count located
