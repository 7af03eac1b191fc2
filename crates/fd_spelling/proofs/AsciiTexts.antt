-- Bytes that are ASCII are a text.
use Rattle.std.proofs.Common.{◌≡◌, ℕ, zero, suc, ◌<◌, true, List, [], ◌∷◌, get_or, arith}
use Rattle.std.specs.Prelude.{nat_lt}
use Rattle.std.specs.Str.{IsUtf8}
use Rattle.std.proofs.lemmas.Str.{IsUtf8-from_ascii}
use Rattle.std.proofs.lemmas.Bool.{and_parts}
use borrow.Author.Tests.{ltb-true}
use Rattle.fd_spelling.specs.Texts.{is_ascii}

below : (bs : List ℕ) → is_ascii bs ≡ true → (i : ℕ) → get_or bs i 0 < 128
below [] h i = omega arith
below (b ∷ bs) h zero = ltb-true b 128 (and_parts (nat_lt b 128) (is_ascii bs) h).0
below (b ∷ bs) h (suc i) = below bs (and_parts (nat_lt b 128) (is_ascii bs) h).1 i

pub is_utf8 : (bs : List ℕ) → is_ascii bs ≡ true → IsUtf8 bs
is_utf8 bs h = IsUtf8-from_ascii bs (below bs h)
