-- Texts out of bytes, and lists of texts.
use Rattle.std.specs.Prelude.{ℕ, Bool, List, map, nat_lt, Option, None, if◌then◌else◌, String, string_bytes}
use Rattle.std.specs.List.{list_all}
use Rattle.std.specs.declared.alloc.Global.{Global}
use Rattle.fd_spelling.specs.Canonical.{canonical}

-- the bytes of each text of a list
abbrev pub texts : List (String Global) → List (List ℕ)
texts ss = map string_bytes ss

-- a text of ASCII alone
abbrev pub is_ascii : List ℕ → Bool
is_ascii text = list_all (λ b. nat_lt b 128) text

-- the one spelling of a value, which is ASCII
abbrev pub spelled : List ℕ → List ℕ → Option (List ℕ)
spelled name text = if is_ascii text then canonical name text else None
