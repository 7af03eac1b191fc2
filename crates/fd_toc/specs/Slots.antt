-- A table is read slot by slot.
use Rattle.std.specs.Prelude.{◌≡◌, ◌==◌, ◌+◌, length, if◌then◌else◌, ℕ, List, [], ◌∷◌, ◌++◌, Option, Some, None, Result, Ok, Err}
use Rattle.fd_entries.specs.declared.table.Entry.{Entry}
use Rattle.fd_entries.specs.declared.table.NotATable.{NotATable}
use Rattle.fd_entries.specs.Table.{gate_at, entry_fault, entry_in, with_entry, run_from}
use Rattle.fd_toc.specs.declared.parse.Slot.{Slot}
use Rattle.fd_toc.specs.declared.parse.Slot.TheVariants.{Bad, End, Next}
use Rattle.fd_toc.specs.declared.parse.ReadFault.{ReadFault}
use Rattle.fd_toc.specs.declared.parse.ReadFault.TheVariants.{Not, NoMemory}

abbrev pub bad_or : Option NotATable → Entry → Slot
bad_or (Some f) e = Bad f
bad_or None e = Next e

-- the slot i, whose bytes begin here
abbrev pub slot_at : ℕ → List ℕ → Slot
slot_at i [] = Bad (record { at = gate_at i; want = 0; found = None })
slot_at i (gate ∷ rest) = if gate == 79 then bad_or (entry_fault i rest) (entry_in rest) else End

-- entries that were read, and what the rest lists
abbrev pub joined : List Entry → Result (List Entry) NotATable → Result (List Entry) NotATable
joined es (Ok more) = Ok (es ++ more)
joined es (Err f) = Err f

abbrev pub OnNot : ReadFault → (NotATable → Type 0) → Type 0
OnNot (Not f) P = P f
OnNot NoMemory P = Unit {0}

abbrev pub IfNext : Slot → Type 0 → Type 0
IfNext (Bad f) P = Unit {0}
IfNext End P = Unit {0}
IfNext (Next e) P = P

-- what a slot and the slots after it list
abbrev pub after : Slot → Result (List Entry) NotATable → Result (List Entry) NotATable
after (Bad f) r = Err f
after End r = Ok []
after (Next e) r = with_entry e r

-- the byte behind the last slot is there, and is no open gate
abbrev pub last_fault : List ℕ → Option NotATable
last_fault [] = Some (record { at = gate_at 65535; want = 0; found = None })
last_fault (gate ∷ rest) = if gate == 79 then Some (record { at = gate_at 65535; want = 0; found = Some gate }) else None

-- these entries were read, and the rest begins at this slot
pub record IsAt (all : List ℕ) (es : List Entry) (i : ℕ) (rest : List ℕ) : Type 0 where
  pub room : ℕ
  pub sum : room + i ≡ 65535
  pub count : length es ≡ i
  pub same : joined es (run_from room i rest) ≡ run_from 65535 0 all
