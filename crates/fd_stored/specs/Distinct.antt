-- Names that come once or several times.
use Rattle.std.specs.Prelude.{ℕ, ◌+◌, Bool, List, [], ◌∷◌, if◌then◌else◌}
use Rattle.std.specs.List.{list_any}
use Rattle.std.specs.Str.{bytes_eq}

abbrev pub is_among : List (List ℕ) → List ℕ → Bool
is_among names name = list_any (λ n. bytes_eq name n) names

-- how many of the names are distinct
abbrev pub count_distinct : List (List ℕ) → ℕ
count_distinct [] = 0
count_distinct (n ∷ ns) = (if is_among ns n then 0 else 1) + count_distinct ns
