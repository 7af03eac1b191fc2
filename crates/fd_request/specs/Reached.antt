-- How far a range goes, by the ends that it goes from and to.
use Rattle.std.specs.Prelude.{◌≡◌, ◌<◌, ℕ, ◌*◌, List, length, slice_get, Some}
use Rattle.fd_request.specs.Ranges.{End, end_of, step_of, text_behind}
use Rattle.fd_request.specs.Behind.{end_behind}

-- So much further on than an end is the last one, which may be that end itself. Days go on by the calendar.
abbrev pub IsAtMost : End → End → Type 0
IsAtMost last e = (left : ℕ) × (end_behind e left ≡ last)

-- The end is further on than the last one.
abbrev pub IsOver : End → End → Type 0
IsOver last e = (more : ℕ) × (0 < more) × (end_behind last more ≡ e)

-- The values are a, a+c, a+2c and so on up to b.
pub record IsRange (name a b c : List ℕ) (values : List (List ℕ)) : Type 0 where
  pub first : End
  pub last : End
  pub step : ℕ
  pub begins : end_of name a ≡ Some first
  pub ends : end_of name b ≡ Some last
  pub moves : step_of c ≡ Some step
  -- each is one step behind the one before it
  pub steps : (i : ℕ) → i < length values → slice_get values i ≡ Some (text_behind first (i * step))
  -- none is over b
  pub within : (i : ℕ) → i < length values → IsAtMost last (end_behind first (i * step))
  -- and the next one would be
  pub over : IsOver last (end_behind first (length values * step))
