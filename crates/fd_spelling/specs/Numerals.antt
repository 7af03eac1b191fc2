-- Numbers as decimal digits, and texts cut at a byte.
use Rattle.std.specs.Prelude.{ℕ, Bool, List, length, Option, Some, None, if◌then◌else◌, nat_lt, nat_le, not, ◌==◌, ◌&&◌}
use Rattle.std.specs.List.{before_first, after_first, position_or_len, list_all}
use Rattle.std.specs.Char.{is_ascii_digit}
use Rattle.std.specs.Str.Parse.{digits_value}

-- one decimal digit or more
abbrev pub is_numeral : List ℕ → Bool
is_numeral text = nat_lt 0 (length text) && list_all is_ascii_digit text

-- how many digits the text begins with
abbrev pub digit_count : List ℕ → ℕ
digit_count text = position_or_len (λ b. not (is_ascii_digit b)) text

-- the number that decimal digits write, where it is at most this one
unfoldable pub number_up_to : ℕ → List ℕ → Option ℕ
number_up_to most text = if is_numeral text && nat_le (digits_value 10 text) most then Some (digits_value 10 text) else None

-- what stands before a byte and what stands behind it, at the first place where it stands
unfoldable pub cut : ℕ → List ℕ → Option (List ℕ × List ℕ)
cut mark text =
    if nat_lt (position_or_len (λ b. b == mark) text) (length text)
    then Some (before_first (λ b. b == mark) text, after_first (λ b. b == mark) text)
    else None

-- what comes of the value, if there is one
infixl 10 ◌>>=◌
abbrev pub ◌>>=◌ : {A B : Type 0} → Option A → (A → Option B) → Option B
None >>= f = None
(Some x) >>= f = f x
