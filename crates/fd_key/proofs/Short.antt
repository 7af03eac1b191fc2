-- The key of a message has at most 255 bytes.
use Rattle.std.proofs.Common.{◌≡◌, ◌≤◌, Bool, true, false, if◌then◌else◌, List, ◌++◌, length, Result, Ok, Err, refl, ap, arith}
use Rattle.std.specs.Prelude.{nat_lt}
use Rattle.std.proofs.lemmas.Bool.{ltb-false}
use Rattle.fd_sections.specs.Message.{Sections}
use Rattle.fd_key.specs.declared.fault.KeyFault.{KeyFault}
use Rattle.fd_key.specs.declared.fault.KeyFault.TheVariants.{KeyTooLong}
use Rattle.fd_key.specs.Pairs.{Pair, key_text}
use Rattle.fd_key.specs.Keys.{key_of, message_pairs, with_given, within_limit}

limited : (pairs key : List Pair) (b : Bool) → nat_lt 255 (length (key_text pairs)) ≡ b → (if b then Err (KeyTooLong (length (key_text pairs))) else Ok pairs) ≡ Ok key → length (key_text key) ≤ 255
limited pairs key true t e = absurd cc
limited pairs key false t e =
    let same : pairs ≡ key = cc in
    let le : length (key_text pairs) ≤ 255 = ltb-false _ _ t in
    omega (arith, le, ap (λ (ps : List Pair). length (key_text ps)) same)

with_short : (own : Result (List Pair) KeyFault) (given key : List Pair) → with_given own given ≡ Ok key → length (key_text key) ≤ 255
unfolding within_limit
with_short (Err fault) given key e = absurd cc
with_short (Ok own) given key e = limited (own ++ given) key (nat_lt 255 (length (key_text (own ++ given)))) refl e

pub key_short : (m : Sections) (given key : List Pair) → key_of m given ≡ Ok key → length (key_text key) ≤ 255
unfolding key_of
key_short m given key e = with_short (message_pairs m) given key e
