-- Why generated messages aren't all written.
use Rattle.std.specs.Prelude.{}
use Rattle.fd_streams.specs.declared.making.Unmade.{Unmade}
use Rattle.fd_streams.specs.declared.making.Unmade.TheVariants.{Unwritten, NoMemory}

abbrev pub OnUnwritten : {X : Type 0} → Unmade X → Type 0 → Type 0
OnUnwritten (Unwritten fault) P = P
OnUnwritten NoMemory P = Unit {0}
