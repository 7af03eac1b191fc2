-- A list in room that was reserved for it.
use Rattle.std.specs.Prelude.{ℕ, List}

pub record Buffered (T : Type 0) : Type 0 where
  pub items : List T
  -- how many it has room for
  pub size : ℕ
