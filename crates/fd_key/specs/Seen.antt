use Rattle.std.specs.Prelude.{List, map, String, string_bytes}
use Rattle.std.specs.declared.alloc.Global.{Global}
use Rattle.fd_key.specs.Pairs.{Pair}

-- the bytes of names and texts
abbrev pub seen_pairs : List (String Global × String Global) → List Pair
seen_pairs es = map (λ e. (string_bytes e.0, string_bytes e.1)) es
