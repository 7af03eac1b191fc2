-- Worked rows, by computation.
use Rattle.std.proofs.Common.{◌≡◌, ℕ, List, [], ◌∷◌, ◌++◌, length, take, refl, Err}
use Rattle.std.specs.Prelude.{codes}
use Rattle.fd_sections.specs.declared.bad.Bad.TheVariants.{Length}
use Rattle.fd_sections.specs.Stream.{stream, first_at, Cut}
use Rattle.fd_sections.specs.Reading.{reading, indicator_at, section_at, local_use_at, end_at}

abbrev message_0 : List ℕ
message_0 = 71 ∷ 82 ∷ 73 ∷ 66 ∷ 255 ∷ 255 ∷ 0 ∷ 2 ∷ 0 ∷ 0 ∷ 0 ∷ 0 ∷ 0 ∷ 0 ∷ 0 ∷ 183 ∷ 0 ∷ 0 ∷ 0 ∷ 21 ∷ 1 ∷ 0 ∷ 98 ∷ 0 ∷ 0 ∷ 2 ∷ 0 ∷ 1 ∷ 7 ∷ 232 ∷ 1 ∷ 1 ∷ 0 ∷ 0 ∷ 0 ∷ 0 ∷ 1 ∷ 0 ∷ 0 ∷ 0 ∷ 72 ∷ 3 ∷ 0 ∷ 0 ∷ 0 ∷ 0 ∷ 4 ∷ 0 ∷ 0 ∷ 0 ∷ 0 ∷ 6 ∷ 255 ∷ 255 ∷ 255 ∷ 255 ∷ 255 ∷ 255 ∷ 255 ∷ 255 ∷ 255 ∷ 255 ∷ 255 ∷ 255 ∷ 255 ∷ 255 ∷ 255 ∷ 0 ∷ 0 ∷ 0 ∷ 2 ∷ 0 ∷ 0 ∷ 0 ∷ 2 ∷ 0 ∷ 0 ∷ 0 ∷ 0 ∷ 255 ∷ 255 ∷ 255 ∷ 255 ∷ 0 ∷ 152 ∷ 150 ∷ 128 ∷ 0 ∷ 0 ∷ 0 ∷ 0 ∷ 48 ∷ 0 ∷ 0 ∷ 0 ∷ 0 ∷ 0 ∷ 152 ∷ 150 ∷ 128 ∷ 0 ∷ 152 ∷ 150 ∷ 128 ∷ 0 ∷ 152 ∷ 150 ∷ 128 ∷ 0 ∷ 0 ∷ 0 ∷ 0 ∷ 34 ∷ 4 ∷ 0 ∷ 0 ∷ 0 ∷ 0 ∷ 0 ∷ 0 ∷ 2 ∷ 0 ∷ 0 ∷ 0 ∷ 0 ∷ 0 ∷ 1 ∷ 0 ∷ 0 ∷ 0 ∷ 0 ∷ 100 ∷ 0 ∷ 0 ∷ 1 ∷ 134 ∷ 160 ∷ 255 ∷ 255 ∷ 255 ∷ 255 ∷ 255 ∷ 255 ∷ 0 ∷ 0 ∷ 0 ∷ 21 ∷ 5 ∷ 0 ∷ 0 ∷ 0 ∷ 4 ∷ 0 ∷ 0 ∷ 67 ∷ 250 ∷ 0 ∷ 0 ∷ 128 ∷ 1 ∷ 0 ∷ 1 ∷ 8 ∷ 0 ∷ 0 ∷ 0 ∷ 0 ∷ 6 ∷ 6 ∷ 255 ∷ 0 ∷ 0 ∷ 0 ∷ 9 ∷ 7 ∷ 3 ∷ 16 ∷ 29 ∷ 42 ∷ 55 ∷ 55 ∷ 55 ∷ 55 ∷ []

long : reading (71 ∷ 82 ∷ 73 ∷ 66 ∷ 255 ∷ 255 ∷ 0 ∷ 2 ∷ 0 ∷ 0 ∷ 0 ∷ 0 ∷ 0 ∷ 0 ∷ 0 ∷ 184 ∷ 0 ∷ 0 ∷ 0 ∷ 21 ∷ 1 ∷ 0 ∷ 98 ∷ 0 ∷ 0 ∷ 2 ∷ 0 ∷ 1 ∷ 7 ∷ 232 ∷ 1 ∷ 1 ∷ 0 ∷ 0 ∷ 0 ∷ 0 ∷ 1 ∷ 0 ∷ 0 ∷ 0 ∷ 72 ∷ 3 ∷ 0 ∷ 0 ∷ 0 ∷ 0 ∷ 4 ∷ 0 ∷ 0 ∷ 0 ∷ 0 ∷ 6 ∷ 255 ∷ 255 ∷ 255 ∷ 255 ∷ 255 ∷ 255 ∷ 255 ∷ 255 ∷ 255 ∷ 255 ∷ 255 ∷ 255 ∷ 255 ∷ 255 ∷ 255 ∷ 0 ∷ 0 ∷ 0 ∷ 2 ∷ 0 ∷ 0 ∷ 0 ∷ 2 ∷ 0 ∷ 0 ∷ 0 ∷ 0 ∷ 255 ∷ 255 ∷ 255 ∷ 255 ∷ 0 ∷ 152 ∷ 150 ∷ 128 ∷ 0 ∷ 0 ∷ 0 ∷ 0 ∷ 48 ∷ 0 ∷ 0 ∷ 0 ∷ 0 ∷ 0 ∷ 152 ∷ 150 ∷ 128 ∷ 0 ∷ 152 ∷ 150 ∷ 128 ∷ 0 ∷ 152 ∷ 150 ∷ 128 ∷ 0 ∷ 0 ∷ 0 ∷ 0 ∷ 34 ∷ 4 ∷ 0 ∷ 0 ∷ 0 ∷ 0 ∷ 0 ∷ 0 ∷ 2 ∷ 0 ∷ 0 ∷ 0 ∷ 0 ∷ 0 ∷ 1 ∷ 0 ∷ 0 ∷ 0 ∷ 0 ∷ 100 ∷ 0 ∷ 0 ∷ 1 ∷ 134 ∷ 160 ∷ 255 ∷ 255 ∷ 255 ∷ 255 ∷ 255 ∷ 255 ∷ 0 ∷ 0 ∷ 0 ∷ 21 ∷ 5 ∷ 0 ∷ 0 ∷ 0 ∷ 4 ∷ 0 ∷ 0 ∷ 67 ∷ 250 ∷ 0 ∷ 0 ∷ 128 ∷ 1 ∷ 0 ∷ 1 ∷ 8 ∷ 0 ∷ 0 ∷ 0 ∷ 0 ∷ 6 ∷ 6 ∷ 255 ∷ 0 ∷ 0 ∷ 0 ∷ 9 ∷ 7 ∷ 3 ∷ 16 ∷ 29 ∷ 42 ∷ 55 ∷ 55 ∷ 55 ∷ 55 ∷ []) ≡ Err (Length 184 183)
unfolding reading indicator_at
long = refl

skips : (stream (codes "0123456789ab" ++ (message_0 ++ codes "GRI"))).skipped ≡ 15
unfolding stream first_at reading indicator_at section_at local_use_at end_at
skips = refl

one : length (stream (codes "0123456789ab" ++ (message_0 ++ codes "GRI"))).messages ≡ 1
unfolding stream first_at reading indicator_at section_at local_use_at end_at
one = refl

cut : (stream (take 175 message_0)).end ≡ Cut 175 183
unfolding stream first_at reading indicator_at section_at local_use_at end_at
cut = refl
