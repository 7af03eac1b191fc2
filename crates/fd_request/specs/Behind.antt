-- Ends by how far they are behind another.
use Rattle.std.specs.Prelude.{◌≡◌, ℕ, ◌+◌, pos, ◌+ℤ◌, List, Option, Some}
use Rattle.fd_request.specs.Ranges.{End, Number, Hour, OnDay, later, text_behind}
use Rattle.fd_request.specs.Seen.{Fits}

-- the end so far behind another
unfoldable pub end_behind : End → ℕ → End
end_behind (Number z) far = Number (z +ℤ pos far)
end_behind (Hour h) far = Hour (h + far)
end_behind (OnDay d) far = OnDay (later far d)

-- A text was read as an end of the same kind as this one: if it is the text of a value behind this end, it was read as that
-- value.
abbrev pub ReadsBehind : End → List ℕ → Option End → Type 0
ReadsBehind first text read = (far : ℕ) → Fits first far → text ≡ text_behind first far → read ≡ Some (end_behind first far)
