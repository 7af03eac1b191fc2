-- Jobs that threads changed.
use Rattle.std.specs.Prelude.{◌≡◌, ◌<◌, ℕ, List, length, slice_index_or}
use Rattle.std.specs.Fork.{ChangesEach}
use denote.Ref.{Bor, MutBor}
use denote.Param.Members.{Shared}

-- Each job was changed by a call, and none was added.
pub record AreChanged {F T : Type 0} (g : Shared F (ℕ × (MutBor T × Unit {0})) ((Unit {0}) × (MutBor T × Unit {0}))) (f : F) (old new : List T) : Type 0 where
  pub each : ChangesEach g f old new

-- ---- jobs that look at items

module _ {F P T : Type 0} (g : Shared F (Bor (List P) × (ℕ × (MutBor T × Unit {0}))) ((Unit {0}) × (MutBor T × Unit {0}))) (f : F) (items : List P) where
  -- f may be called with these items, i and a `&mut` to x
  abbrev pub AcceptsShown : ℕ → T → Type 0
  AcceptsShown i x = (b : Bor (List P)) (p : MutBor T) → b.now ≡ items → p.now ≡ x → g.pre f (b, (i, (p, tt)))

  -- a call of f with these items, i and a `&mut` to x may leave y there
  pub record ChangesShown (i : ℕ) (x y : T) : Type 0 where
    pub shown : Bor (List P)
    pub shown_is : shown.now ≡ items
    pub argument : MutBor T
    pub argument_is : argument.now ≡ x
    pub after_call : MutBor T
    pub call : g.post f (shown, (i, (argument, tt))) (tt, (after_call, tt))
    pub left : after_call.now ≡ y

  -- f may be called with these items at each place of xs
  abbrev pub AcceptsAll : List T → Type 0
  AcceptsAll xs = (i : ℕ) (x : T) → i < length xs → x ≡ slice_index_or xs i x → AcceptsShown i x

  -- Each job was changed by a call with these items, and none was added.
  pub record AreShown (old new : List T) : Type 0 where
    pub each : (i : ℕ) (d : T) → i < length old → (slice_index_or new i d ≡ slice_index_or new i d) × ChangesShown i (slice_index_or old i d) (slice_index_or new i d)
