-- Distinct keys as they are kept, and the line of `stats`.
use Rattle.std.specs.Prelude.{◌≡◌, ◌++◌, ℕ, List, codes, map}
use Rattle.std.specs.Fmt.{decimal}
use Rattle.std.specs.Global.{Vec}
use Rattle.fd_listing.specs.Lines.{line}

abbrev pub Kept : Type 0
Kept = Vec ℕ × Unit {0}

-- the keys of a map's entries
abbrev pub kept_keys : List Kept → List (List ℕ)
kept_keys es = map (λ e. e.0.items) es

abbrev pub AreKeys : List Kept → List (List ℕ) → Type 0
AreKeys es ks = kept_keys es ≡ ks

abbrev pub stats_line : List ℕ → ℕ → ℕ → ℕ → ℕ → List ℕ
stats_line dataset entries fields keys bytes =
    line (dataset ++ codes " entries " ++ decimal entries ++ codes " fields " ++ decimal fields ++ codes " keys " ++ decimal keys ++ codes " bytes " ++ decimal bytes)
