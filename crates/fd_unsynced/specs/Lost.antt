-- What a sync that failed may have lost of a file.
use Rattle.std.specs.Prelude.{◌&&◌, ◌||◌, if◌then◌else◌, ℕ, Bool, false, min, max, nat_le, nat_eq, Option, Some, None, is_some}
use Rattle.fd_unsynced.specs.declared.unsynced.Span.{Span}
use Rattle.fd_unsynced.specs.declared.unsynced.Unsynced.{Unsynced}

-- a write from one place up to another covers all of these bytes
abbrev pub covers : ℕ → ℕ → Span → Bool
covers from end s = nat_le from s.from && nat_le s.end end

-- what is lost still, after such a write
abbrev pub lost_after : ℕ → ℕ → Option Span → Option Span
lost_after from end None = None
lost_after from end (Some s) = if covers from end s then None else Some s

-- what was written since the last sync, with such a write, as one span
abbrev pub written_with : ℕ → ℕ → Option Span → Option Span
written_with from end None = Some (record { from = from; end = end })
written_with from end (Some s) = Some (record { from = min s.from from; end = max s.end end })

abbrev pub after_write : ℕ → ℕ → Unsynced → Unsynced
after_write from end u = record { written = written_with from end u.written; lost = lost_after from end u.lost; is_name_lost = u.is_name_lost }

-- a write from one place up to another is all that was written since the last sync
abbrev pub is_all : ℕ → ℕ → Option Span → Bool
is_all from end None = false
is_all from end (Some s) = nat_eq s.from from && nat_eq s.end end

-- bytes of the file or its name are lost: no sync answers well
abbrev pub is_lost : Unsynced → Bool
is_lost u = is_some u.lost || u.is_name_lost

-- nothing was written since a sync that answered well
abbrev pub all_firm : Unsynced
all_firm = record { written = None; lost = None; is_name_lost = false }
