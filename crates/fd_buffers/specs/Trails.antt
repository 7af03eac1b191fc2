-- The ranges that the writes to a gathering file have made loose.
use Rattle.std.specs.Prelude.{if◌then◌else◌, nat_lt, List, [], ◌∷◌, length, Option, Some, None}
use Rattle.fd_disk.specs.declared.file.File.{File}
use Rattle.fd_disk.specs.declared.file.Range.{Range}
use Rattle.fd_buffers.specs.declared.trail.Trail.{Trail, Began, Gathered', Tried'}

abbrev pub loose_in : Option File → List Range
loose_in (Some f) = f.loose
loose_in None = []

-- the range came to those before it, if the file has more loose ranges after the write
abbrev pub loosened_if : Option File → Option File → Range → List Range → List Range
loosened_if before after r rs = if nat_lt (length (loose_in before)) (length (loose_in after)) then r ∷ rs else rs

-- the ranges that the writes of the trail have made loose, the last write first
abbrev pub loose_by : {T : Type 0} → (T → Option File) → Trail T → List Range
loose_by file (Began s) = loose_in (file s.value)
loose_by file (Gathered' at len p t) = record { at = at; len = len } ∷ loose_by file t
loose_by file (Tried' at len before after p t) = loosened_if (file before.value) (file after.value) (record { at = at; len = len }) (loose_by file t)
