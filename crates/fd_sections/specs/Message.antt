-- A GRIB edition 2 message (FM 92): its sections, one after the other. Octets of a section count from 1.
use Rattle.std.specs.Prelude.{◌≡◌, ◌≤◌, ℕ, zero, suc, List, [], ◌∷◌, ◌++◌, length, Option, Some, None, IfSome, true, nat_eq}
use Rattle.std.specs.List.{starts_with}
use Rattle.fd_bytes.specs.Numbers.{octets}

-- the octets of sections 0 to 7; section 2, for local use, may be absent, and section 8 is always the same
pub record Sections : Type 0 where
  pub indicator : List ℕ
  pub identification : List ℕ
  pub local_use : Option (List ℕ)
  pub grid : List ℕ
  pub product : List ℕ
  pub representation : List ℕ
  pub bit_map : List ℕ
  pub values : List ℕ

-- the four octets that begin a message
abbrev pub grib : List ℕ
grib = 71 ∷ 82 ∷ 73 ∷ 66 ∷ []

-- section 8, `7777`
abbrev pub end_section : List ℕ
end_section = 55 ∷ 55 ∷ 55 ∷ 55 ∷ []

-- the octets of a section that may be absent
abbrev pub if_present : Option (List ℕ) → List ℕ
if_present None = []
if_present (Some s) = s

-- the octets of the message
abbrev pub message_octets : Sections → List ℕ
message_octets s = s.indicator ++ (s.identification ++ (if_present s.local_use ++ (s.grid ++ (s.product ++ (s.representation ++ (s.bit_map ++ (s.values ++ end_section)))))))

-- section 0 of a message of this length
pub record IsIndicator (len : ℕ) (s : List ℕ) : Type 0 where
  pub size : length s ≡ 16
  pub mark : starts_with nat_eq s grib ≡ true
  pub edition : octets 8 8 s ≡ 2
  pub total : octets 9 16 s ≡ len
  pub limit : len ≤ 134217728

-- a section of this number, with at least so many octets
pub record IsSection (number least : ℕ) (s : List ℕ) : Type 0 where
  pub size : octets 1 4 s ≡ length s
  pub number_is : octets 5 5 s ≡ number
  pub long : least ≤ length s
  -- its length and number are there
  pub header : 5 ≤ length s

-- the octets m are a message with these sections
pub record IsMessage (m : List ℕ) (s : Sections) : Type 0 where
  pub whole : m ≡ message_octets s
  pub indicator : IsIndicator (length m) s.indicator
  pub identification : IsSection 1 21 s.identification
  pub local_use : IfSome s.local_use (IsSection 2 5)
  pub grid : IsSection 3 14 s.grid
  pub product : IsSection 4 9 s.product
  pub representation : IsSection 5 11 s.representation
  pub bit_map : IsSection 6 6 s.bit_map
  pub values : IsSection 7 5 s.values

-- the octets of section n, which is at most 8
abbrev pub section_octets : Sections → ℕ → Option (List ℕ)
section_octets s zero = Some s.indicator
section_octets s (suc zero) = Some s.identification
section_octets s (suc (suc zero)) = s.local_use
section_octets s (suc (suc (suc zero))) = Some s.grid
section_octets s (suc (suc (suc (suc zero)))) = Some s.product
section_octets s (suc (suc (suc (suc (suc zero))))) = Some s.representation
section_octets s (suc (suc (suc (suc (suc (suc zero)))))) = Some s.bit_map
section_octets s (suc (suc (suc (suc (suc (suc (suc zero))))))) = Some s.values
section_octets s (suc (suc (suc (suc (suc (suc (suc (suc n)))))))) = Some end_section
