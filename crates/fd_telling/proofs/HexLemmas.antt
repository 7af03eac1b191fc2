-- The hexadecimal text of a digest.
use Rattle.std.proofs.Common.{◌≡◌, ◌∙◌, ◌/◌, ◌%◌, ℕ, List, [], ◌∷◌, IfOk, Result, Ok, Err, ap, refl}
use Rattle.hex.specs.Hex.{encode_lower, encode_with}
use Rattle.fd_stored.specs.Causes.{hex_digit, hex_text}

-- it is that of the ported crate
pub encoded_is : (xs : List ℕ) → encode_lower xs ≡ hex_text xs
unfolding encode_with
encoded_is [] = refl
encoded_is (x ∷ xs) = ap (λ (l : List ℕ). hex_digit (x / 16) ∷ hex_digit (x % 16) ∷ l) (encoded_is xs)

pub encoded_ok : {A E : Type 0} (bytes : A → List ℕ) (r : Result A E) (xs : List ℕ) → IfOk r (λ t. bytes t ≡ encode_lower xs) → IfOk r (λ t. bytes t ≡ hex_text xs)
encoded_ok bytes (Ok t) xs is = is ∙ encoded_is xs
encoded_ok bytes (Err e) xs is = tt
