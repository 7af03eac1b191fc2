-- A file with bytes that are to be written to it.
use Rattle.std.specs.Prelude.{◌≡◌, ◌+◌, ◌&&◌, ◌||◌, ◌==◌, if◌then◌else◌, ℕ, Bool, nat_le, nat_lt, List, [], ◌∷◌, length, max, Option, option_map}
use Rattle.fd_disk.specs.declared.file.File.{File}
use Rattle.fd_disk.specs.declared.file.Range.{Range}
use Rattle.fd_disk.specs.Images.{is_in, overwritten}

-- bytes with the gathered ones laid over them
abbrev pub laid : List ℕ → ℕ → List ℕ → List ℕ
laid reads start [] = reads
laid reads start (b ∷ bs) = overwritten reads start (b ∷ bs)

-- the file with the gathered bytes, and the ranges that its writes have made loose
abbrev pub gathering : ℕ → List ℕ → List Range → File → File
gathering start gathered loose f = record { firm = f.firm; reads = laid f.reads start gathered; loose = loose }

abbrev pub told : Option File → ℕ → List ℕ → List Range → Option File
told inner start gathered loose = option_map (gathering start gathered loose) inner

-- the greatest end of a write
abbrev pub reached : ℕ → ℕ → ℕ → ℕ
reached extent start len = if len == 0 then extent else max extent (start + len)

abbrev pub in_span : ℕ → ℕ → ℕ → Bool
in_span k at len = nat_le at k && nat_lt k (at + len)

-- The ranges are loose that are so in the file below, and that of the gathered bytes.
pub record Covers (start len : ℕ) (loose : List Range) (f : File) : Type 0 where
  pub same : (k : ℕ) → is_in k loose ≡ (is_in k f.loose || in_span k start len)
  pub none : length loose ≡ 0 → (length f.loose ≡ 0) × (len ≡ 0)
  pub all : length f.loose ≡ 0 → len ≡ 0 → length loose ≡ 0
