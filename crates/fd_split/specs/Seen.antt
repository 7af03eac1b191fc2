-- What is seen of rounds and of fields that are lent from a message.
use Rattle.std.specs.Prelude.{◌≡◌, ℕ, List, ◌++◌, map, Result, Ok, Err}
use Rattle.std.specs.Option.{option_copied}
use Rattle.fd_sections.specs.declared.bad.Bad.{Bad}
use Rattle.fd_sections.specs.Message.{Sections, IsMessage, message_octets}
use Rattle.fd_split.specs.declared.fault.SplitFault.{SplitFault}
use Rattle.fd_split.specs.declared.fault.SplitFault.TheVariants as faults
use Rattle.fd_split.specs.declared.slices.Slices.{Slices}
use Rattle.fd_split.specs.declared.cutting.InForce.{InForce}
use Rattle.fd_split.specs.declared.cutting.Parts.{Parts}
use Rattle.fd_split.specs.Rounds.{Force, Round}
use Rattle.fd_split.specs.Reading.{Wrong, NoMessage, NoMap}

-- a round, without where it lies in memory
abbrev pub seen : Slices → Round
seen r = record {
  local_use = option_copied r.local_use;
  grid = option_copied r.grid;
  product = r.product.now;
  representation = r.representation.now;
  bit_map = r.bit_map.now;
  values = r.values.now;
}

abbrev pub all_seen : List Slices → List Round
all_seen rs = map seen rs

-- what is in force
abbrev pub seen_force : InForce → Force
seen_force f = record { local_use = option_copied f.local_use; grid = f.grid.now; bit_map = option_copied f.bit_map }

-- the sections of a field, with these sections 0 and 1
abbrev pub seen_parts : List ℕ → List ℕ → Parts → Sections
seen_parts s0 s1 p = record {
  indicator = s0;
  identification = s1;
  local_use = option_copied p.local_use;
  grid = p.grid.now;
  product = p.product.now;
  representation = p.representation.now;
  bit_map = p.bit_map.now;
  values = p.values.now;
}

-- rounds were read behind others, or why not
abbrev pub AreRead : Result (List Round) Bad → List Slices → List Slices → Result (Unit {0}) SplitFault → Type 0
AreRead read before after (Ok done) = (rs : List Round) × (read ≡ Ok rs) × (all_seen after ≡ all_seen before ++ rs)
AreRead read before after (Err (faults.Bad bad)) = read ≡ Err bad
AreRead read before after (Err (faults.NoMap field)) = ⊥
AreRead read before after (Err faults.NoMemory) = Unit {0}

-- a message was read, or why not
abbrev pub IsOpened : {X : Type 0} → (X → List Sections) → Result (List Sections) Wrong → Result X SplitFault → Type 0
IsOpened view read (Ok x) = read ≡ Ok (view x)
IsOpened view read (Err (faults.Bad bad)) = read ≡ Err (NoMessage bad)
IsOpened view read (Err (faults.NoMap field)) = read ≡ Err (NoMap field)
IsOpened view read (Err faults.NoMemory) = Unit {0}

-- the octets of the field are a message of its sections
abbrev pub IsWhole : Sections → Type 0
IsWhole s = IsMessage (message_octets s) s
