-- What a crash leaves, by the number that is chosen.
use Rattle.std.specs.Prelude.{◌≡◌, ◌<◌, ◌||◌, ◌*◌, ◌/◌, ◌%◌, ◌^◌, ℕ, Bool, true, false, nat_le, List, length, slice_index, bit_xor}
use Rattle.fd_disk.specs.declared.file.File.{File}
use Rattle.fd_disk.specs.Images.{IsImage, is_in}

-- the place is in a loose range, or past the firm end
abbrev pub is_loose : File → ℕ → Bool
is_loose f k = nat_le (length f.firm) k || is_in k f.loose

-- a byte that looks like chance, from the number that is chosen and the place
abbrev pub mixed : ℕ → ℕ → ℕ
mixed choice place = bit_xor choice (place * 0x9E3779B97F4A7C15 % 2 ^ 64) * 0xBF58476D1CE4E5B9 % 2 ^ 64 / 2 ^ 56

-- The bytes are as long as what a read gives, firm where nothing is loose, and elsewhere the byte of the place.
pub record IsSpoiled (byte : ℕ → ℕ) (f : File) (c : List ℕ) : Type 0 where
  pub long : length c ≡ length f.reads
  pub firm : (k : ℕ) → k < length c → is_loose f k ≡ false → slice_index c k ≡ slice_index f.firm k
  pub loose : (k : ℕ) → k < length c → is_loose f k ≡ true → slice_index c k ≡ byte k

-- A crash by this choice leaves these bytes, which are an image of the file.
pub record IsLeft (choice : ℕ) (f : File) (c : List ℕ) : Type 0 where
  pub image : IsImage f c
  pub as_it_was : choice ≡ 0 → c ≡ f.firm
  pub as_it_reads : choice ≡ 1 → c ≡ f.reads
  pub gates : choice ≡ 2 → IsSpoiled (λ k. 0x4F) f c
  pub zeros : choice ≡ 3 → IsSpoiled (λ k. 0) f c
  pub others : 3 < choice → IsSpoiled (mixed choice) f c

-- a byte that is loose or not, before and after
pub record IsByteLeft (choice place : ℕ) (loose : Bool) (old new : ℕ) : Type 0 where
  pub same : loose ≡ false → new ≡ old
  pub gates : choice ≡ 2 → loose ≡ true → new ≡ 0x4F
  pub zeros : choice ≡ 3 → loose ≡ true → new ≡ 0
  pub others : 3 < choice → loose ≡ true → new ≡ mixed choice place

-- each byte of a list
pub record AreBytesLeft (choice : ℕ) (loose : ℕ → Bool) (old new : List ℕ) : Type 0 where
  pub long : length new ≡ length old
  pub each : (k : ℕ) → k < length new → IsByteLeft choice k (loose k) (slice_index old k) (slice_index new k)
