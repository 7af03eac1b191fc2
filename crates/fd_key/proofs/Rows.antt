-- Worked examples of pairs, computed from the definitions.
use Rattle.std.proofs.Common.{◌≡◌, Err, refl}
use Rattle.std.specs.Prelude.{codes}
use Rattle.fd_spelling.specs.Numerals.{cut}
use Rattle.fd_key.specs.Given.{Pair_at, Clash_of, Twice_of, plain_pair, with_piece, pairs_from, given_of}

-- the first fault of pairs, with the byte where its pair begins
no_pair_behind_a_comma : given_of (codes "class=od,") ≡ Err (Pair_at 9)
unfolding given_of pairs_from with_piece plain_pair cut
no_pair_behind_a_comma = refl

a_reserved_name : given_of (codes "a=1,Date=x") ≡ Err (Clash_of (codes "date"))
unfolding given_of pairs_from with_piece plain_pair cut
a_reserved_name = refl

a_name_twice : given_of (codes "a=1,A=2,b") ≡ Err (Twice_of (codes "a"))
unfolding given_of pairs_from with_piece plain_pair cut
a_name_twice = refl

a_time_with_colons : given_of (codes "time=12:00") ≡ Err (Pair_at 0)
unfolding given_of pairs_from with_piece plain_pair cut
a_time_with_colons = refl
