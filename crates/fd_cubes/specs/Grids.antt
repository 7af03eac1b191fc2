-- Cubes while they are joined.
use Rattle.std.specs.Prelude.{◌≡◌, ◌<◌, ◌≤◌, ◌+◌, ℕ, suc, true, List, [], ◌∷◌, ◌++◌, length, map, slice_index_or, String, Vec, Option, Some, None}
use Rattle.std.specs.BTreeMap.{BTreeMap, get_by_text}
use Rattle.std.specs.List.{All, AllPairs, Contains}
use Rattle.std.specs.List.Sorted.{IsPermutation}
use Rattle.std.specs.declared.alloc.Global.{Global}
use Rattle.fd_request.specs.Expansion.{Keyword}
use Rattle.fd_request.specs.Keywords.{differ_after}
use Rattle.fd_cubes.specs.declared.grid.Grid as code_grid
use Rattle.fd_cubes.specs.Axes.{AreSorted, code, seen_axes, IsFilled, SameBut, values_at, width, with_values}
use Rattle.fd_cubes.specs.Cubes.{cube_text, keys_of}

abbrev pub seen_grid : code_grid.Grid → List Keyword
seen_grid g = seen_axes g.axes.items

abbrev pub seen_grids : List code_grid.Grid → List (List Keyword)
seen_grids gs = map seen_grid gs

-- A cube whose values stand in byte order, with the number of bytes of its text.
pub record IsGrid (g : code_grid.Grid) : Type 0 where
  pub once : differ_after [] (seen_grid g) ≡ true
  pub filled : All IsFilled (seen_grid g)
  pub sorted : All (λ k. AreSorted k.values) (seen_grid g)
  pub sized : g.size ≡ length (cube_text (seen_grid g))
  pub short : g.size ≤ 65536

-- the one can take the values that the other has for the name at a place
pub record Takes (place : ℕ) (g h : code_grid.Grid) : Type 0 where
  pub within : place < length (seen_grid g)
  pub same : SameBut place (seen_grid g) (seen_grid h)
  pub room : g.size + width (values_at place (seen_grid h)) ≤ 65536

-- the one with the values that the other has for the name at a place
pub record Joins (place : ℕ) (g h new : code_grid.Grid) : Type 0 where
  pub values : IsPermutation (values_at place (seen_grid g) ++ values_at place (seen_grid h)) (values_at place (seen_grid new))
  pub rest : seen_grid new ≡ with_values place (values_at place (seen_grid new)) (seen_grid g)
  pub sorted : AreSorted (values_at place (seen_grid g)) → AreSorted (values_at place (seen_grid h)) → AreSorted (values_at place (seen_grid new))
  pub size : new.size ≡ g.size + width (values_at place (seen_grid h))

-- the keys of the one list are those of the other, in no more cubes
pub record Regroups (old new : List code_grid.Grid) : Type 0 where
  pub keys : IsPermutation (keys_of (seen_grids old)) (keys_of (seen_grids new))
  pub each : All IsGrid new
  pub fewer : length new ≤ length old

-- ---- cubes that can't be joined

-- neither can take the other's values for the name at a place
pub record AreApartAt (place : ℕ) (g h : code_grid.Grid) : Type 0 where
  pub one : Takes place g h → ⊥
  pub other : Takes place h g → ⊥

-- no two of the cubes can be joined at a place
abbrev pub IsSettled : ℕ → List code_grid.Grid → Type 0
IsSettled place gs = AllPairs (AreApartAt place) gs

-- no two of the cubes can be joined
abbrev pub AreSettled : List code_grid.Grid → Type 0
AreSettled gs = (place : ℕ) → IsSettled place gs

-- none of the cubes can take the values that another has
abbrev pub NoneTakes : ℕ → List code_grid.Grid → code_grid.Grid → Type 0
NoneTakes place gs h = All (λ g. Takes place g h → ⊥) gs

-- ---- where cubes stand

-- the text of a cube without its values at a place
abbrev pub rest_of : ℕ → code_grid.Grid → List ℕ
rest_of place g = code (with_values place [] (seen_grid g))

abbrev pub items_or_none : Option (Vec ℕ Global) → List ℕ
items_or_none None = []
items_or_none (Some v) = v.items

-- the places that stand at a text
abbrev pub noted : BTreeMap (String Global) (Vec ℕ Global) → List ℕ → List ℕ
noted alike text = items_or_none (get_by_text alike text)

-- each cube's place stands at its text
abbrev pub IsNoting : ℕ → BTreeMap (String Global) (Vec ℕ Global) → List code_grid.Grid → Type 0
IsNoting place alike gs = (i : ℕ) (d : code_grid.Grid) → i < length gs → Contains (noted alike (rest_of place (slice_index_or gs i d))) i

-- ---- a pass

-- one more cube joined to one of others, between which nothing can be joined, or put behind them
pub record Puts (place : ℕ) (old : List code_grid.Grid) (g : code_grid.Grid) (new : List code_grid.Grid) : Type 0 where
  pub regroups : Regroups (old ++ g ∷ []) new
  pub settled : IsSettled place new
  pub kept : suc (length old) ≤ length new → new ≡ old ++ g ∷ []

-- what a pass leaves: no two can be joined at its place, and if none was, the cubes are the same
pub record PassesTo (place : ℕ) (old new : List code_grid.Grid) : Type 0 where
  pub regroups : Regroups old new
  pub settled : IsSettled place new
  pub kept : length old ≤ length new → IsPermutation old new

-- what a round over all names leaves: if none were joined, no two can be
pub record RoundsTo (old new : List code_grid.Grid) : Type 0 where
  pub regroups : Regroups old new
  pub settled : length old ≤ length new → AreSettled new

-- In a round: what can't be joined at the places that are done, if none were.
pub record IsRounding (gs now : List code_grid.Grid) (place : ℕ) : Type 0 where
  pub regroups : Regroups gs now
  pub settled : length gs ≤ length now → (i : ℕ) → place ≤ i → IsSettled i now

-- In a pass: the keys of all cubes are those of the cubes that are done and of those that are left.
pub record IsPassing (place : ℕ) (gs done left : List code_grid.Grid) : Type 0 where
  pub keys : IsPermutation (keys_of (seen_grids gs)) (keys_of (seen_grids done) ++ keys_of (seen_grids left))
  pub good : All IsGrid done
  pub others : All IsGrid left
  pub fewer : length done + length left ≤ length gs
  pub settled : IsSettled place done
  pub kept : length gs ≤ length done + length left → IsPermutation gs (done ++ left)
