-- Texts without their comments, in lower case.
use Rattle.std.specs.Prelude.{ℕ, Bool, not, ◌&&◌, ◌||◌, List, [], ◌∷◌, nat_lt, ◌==◌, if◌then◌else◌}
use Rattle.std.specs.Char.{to_ascii_lowercase}

-- the byte stands in a comment, which goes from `#` to the end of its line
abbrev pub in_comment : Bool → ℕ → Bool
in_comment inside b = not (b == 10) && (inside || b == 35)

-- a blank for a byte of a comment that is ASCII, else the byte in lower case
abbrev pub shown : Bool → ℕ → ℕ
shown inside b = if inside && nat_lt b 128 then 32 else to_ascii_lowercase b

-- the text in lower case and without its comments; each byte keeps its place
unfoldable pub plain : Bool → List ℕ → List ℕ
plain inside [] = []
plain inside (b ∷ bs) = shown (in_comment inside b) b ∷ plain (in_comment inside b) bs
