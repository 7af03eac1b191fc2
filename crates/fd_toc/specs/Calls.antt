-- What the calls of a table of n entries leave of its file.
use Rattle.std.specs.Prelude.{◌≡◌, ◌⊎◌, ◌+◌, ℕ, [], ◌∷◌, ◌++◌, Option, Some, None, IsSome}
use Rattle.fd_disk.specs.declared.file.File.{File}
use Rattle.fd_disk.specs.Images.{synced}
use Rattle.fd_entries.specs.declared.table.Entry.{Entry}
use Rattle.fd_entries.specs.Table.{body_of, gate_at, with_body, with_closed, with_gate}
use Rattle.fd_toc.specs.Writes.{IsUnsynced}

-- gate n is closed
abbrev pub closed : ℕ → File → File
closed n f = synced (with_closed f n)

-- the body of entry n stands behind its gate, and a closed gate behind it
abbrev pub bodied : ℕ → Entry → File → File
bodied n e f = synced (with_body f n e)

-- gate n is open
abbrev pub opened : ℕ → File → File
opened n f = synced (with_gate f n)

-- the gate of an entry in doubt is closed
abbrev pub mended : Option Entry → ℕ → File → File
mended None n f = f
mended (Some d) n f = closed n f

abbrev pub appended : Option Entry → ℕ → Entry → File → File
appended doubt n e f = opened n (bodied n e (mended doubt n f))

-- each of the three, failed at its write or at its sync
abbrev pub ClosingFails : ℕ → File → File → Type 0
ClosingFails n f g = IsUnsynced f (gate_at n) (0 ∷ []) g

abbrev pub BodyFails : ℕ → Entry → File → File → Type 0
BodyFails n e f g = IsUnsynced f (gate_at n + 1) (body_of e ++ 0 ∷ []) g

abbrev pub OpeningFails : ℕ → File → File → Type 0
OpeningFails n f g = IsUnsynced f (gate_at n) (79 ∷ []) g

-- The gate in doubt wasn't closed, and the doubt stays; or the body wasn't written, and nothing is in doubt; or the gate
-- wasn't opened, and the new entry is in doubt.
abbrev pub AppendFails : Option Entry → ℕ → Entry → Option Entry → File → File → Type 0
AppendFails doubt n e left f g =
    ((IsSome doubt × (left ≡ doubt)) × ClosingFails n f g)
    ⊎ (((left ≡ None) × BodyFails n e (mended doubt n f) g)
    ⊎ ((left ≡ Some e) × OpeningFails n (bodied n e (mended doubt n f)) g))
