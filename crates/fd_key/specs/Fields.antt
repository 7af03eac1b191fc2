-- What is said of the surfaces of a field and of its time ranges.
use Rattle.std.specs.Prelude.{ℕ, ℤ, true, false, List, [], ◌∷◌, map, codes, Option, Some, None, ◌==◌, if◌then◌else◌}
use Rattle.fd_templates.specs.declared.product.Product.{Product}
use Rattle.fd_templates.specs.declared.interval.Range.{Range}
use Rattle.fd_spelling.specs.Steps.{step_text}
use Rattle.fd_spelling.specs.Levels.{levels_text, scaled_text}
use Rattle.fd_spelling.specs.Stats.{part_text, parts_text}

-- the value of a surface of this type, by its scale factor and its scaled value: there is none where the type, the factor or
-- the value is missing
abbrev pub scaled_if : Option ℤ → Option ℤ → Option (List ℕ)
scaled_if None value = None
scaled_if (Some factor) None = None
scaled_if (Some factor) (Some value) = Some (scaled_text factor value)

unfoldable pub surface_text : ℕ → Option ℤ → Option ℤ → Option (List ℕ)
surface_text type factor value = if type == 255 then None else scaled_if factor value

-- the values of the surfaces of a product
abbrev pub levels_of : Product → Option (List ℕ)
levels_of p =
    levels_text (surface_text p.first_surface_type p.first_surface_factor p.first_surface_value)
    (surface_text p.second_surface_type p.second_surface_factor p.second_surface_value)

-- the process of a time range, and its length in the spelling of a step
abbrev pub range_text : Range → List ℕ
range_text r = part_text r.process (step_text false r.length r.unit)

-- `none` where there are no ranges
unfoldable pub ranges_text : List Range → List ℕ
ranges_text [] = codes "none"
ranges_text (r ∷ rs) = parts_text true (map range_text (r ∷ rs))
