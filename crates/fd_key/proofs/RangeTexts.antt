-- The texts of time ranges.
use Rattle.std.proofs.Common.{◌≡◌, ◌<◌, true, List, [], ◌∷◌, length, refl, arith}
use Rattle.std.specs.Prelude.{map}
use Rattle.fd_templates.specs.declared.interval.Range.{Range}
use Rattle.fd_spelling.specs.Stats.{parts_text}
use Rattle.fd_key.specs.Fields.{range_text, ranges_text}

-- ranges, one of them at least
pub some_ranges : (rs : List Range) → 0 < length rs → ranges_text rs ≡ parts_text true (map range_text rs)
unfolding ranges_text
some_ranges [] some = absurd (omega arith)
some_ranges (r ∷ rs) some = refl
