-- Whole texts.
use Rattle.std.proofs.Common.{◌≡◌, ◌<◌, ℕ, List, length, refl}
use Rattle.std.proofs.lemmas.Bool.{lt-ltb}
use Rattle.fd_schema.specs.Grammar.{TooLong, wrong, schema_of}

pub too_long : (text : List ℕ) → 65536 < length text → schema_of text ≡ wrong 0 TooLong
unfolding schema_of
too_long text lt = rw (lt-ltb 65536 (length text) lt) refl
