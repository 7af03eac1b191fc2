-- The table reads as a table at all times.
use Rattle.std.proofs.Common.{inl, inr, ℕ, List, [], ◌∷◌, ◌++◌, Option, Some, None}
use Rattle.fd_disk.specs.declared.file.File.{File}
use Rattle.fd_entries.specs.declared.table.Entry.{Entry}
use Rattle.fd_entries.proofs.StandingLemmas.{doubt_table, staged_settled}
use Rattle.fd_entries.specs.Numbers.{ListsSome}
use Rattle.fd_machine.specs.declared.machine.Phase.{Phase}
use Rattle.fd_machine.specs.declared.machine.Phase.TheVariants.{Filling, Synced, Written, Sealed, Holding, BodyLoose, BodyFirm, GateLoose, Listed, Posted, Closing}
use Rattle.fd_machine.specs.declared.machine.Writer.{Writer}
use Rattle.fd_machine.specs.World.{World}
use Rattle.fd_machine.specs.Machine.{entry_of, writer_of}
use Rattle.fd_machine.proofs.Holds.{Doubtful, Owned, Mending, OwnedOrMending, FreeOrInDoubt, TableHolds, HoldsUp}

some_of_doubt : (es : List Entry) (f : File) (e : Entry) → Doubtful f es e → ListsSome f.reads
some_of_doubt es f e d = elim (doubt_table [] es f e d.0 f.reads d.1) [
  | inl t ↦ record { entries = es; table = t }
  | inr t ↦ record { entries = es ++ e ∷ []; table = t }
]

some_owned : (es : List Entry) (f : File) (x : Writer) (p : Phase) → Owned f es x p → ListsSome f.reads
some_owned es f x Holding h = record { entries = es; table = h.0.reads }
some_owned es f x BodyLoose h = record { entries = es; table = h.0.reads }
some_owned es f x BodyFirm h = record { entries = es; table = (staged_settled [] es f (entry_of x) h).reads }
some_owned es f x GateLoose h = record { entries = es ++ entry_of x ∷ []; table = h.1 }
some_owned es f x Listed h = record { entries = es ++ entry_of x ∷ []; table = h.reads }
some_owned es f x Posted h = record { entries = es; table = h.reads }
some_owned es f x Filling h = absurd h
some_owned es f x Synced h = absurd h
some_owned es f x Written h = absurd h
some_owned es f x Sealed h = absurd h
some_owned es f x Closing h = absurd h

some_mending : (es : List Entry) (f : File) (e : Entry) (p : Phase) → Mending f es e p → ListsSome f.reads
some_mending es f e Holding h = some_of_doubt es f e h
some_mending es f e Closing h = some_of_doubt es f e h.0
some_mending es f e BodyLoose h = absurd h
some_mending es f e BodyFirm h = absurd h
some_mending es f e GateLoose h = absurd h
some_mending es f e Listed h = absurd h
some_mending es f e Posted h = absurd h
some_mending es f e Filling h = absurd h
some_mending es f e Synced h = absurd h
some_mending es f e Written h = absurd h
some_mending es f e Sealed h = absurd h

abbrev By : (s : World) → HoldsUp s → Option ℕ → Option Entry → Type 0
By s h None d = FreeOrInDoubt s.table h.entries d
By s h (Some w) d = OwnedOrMending s.table h.entries (writer_of s w) (writer_of s w).phase d

by_owner : (s : World) (h : HoldsUp s) (o : Option ℕ) → TableHolds s h.entries o → By s h o s.doubt
by_owner s h None t = t
by_owner s h (Some w) t = t

-- whatever is going on at the table, it reads as a table of some entries
pub lists_some : (s : World) → HoldsUp s → ListsSome s.table.reads
lists_some s h = go s.owner s.doubt (by_owner s h s.owner h.table)
  where
    go : (o : Option ℕ) (d : Option Entry) → By s h o d → ListsSome s.table.reads
    go None None t = record { entries = h.entries; table = t.reads }
    go None (Some e) t = some_of_doubt h.entries s.table e t
    go (Some w) None t = some_owned h.entries s.table (writer_of s w) (writer_of s w).phase t
    go (Some w) (Some e) t = some_mending h.entries s.table e (writer_of s w).phase t
