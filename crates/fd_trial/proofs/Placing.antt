-- The places of messages that are made up, one after the other.
use Rattle.std.proofs.Common.{◌≡◌, ◌∙◌, ◌+◌, ℕ, List, [], ◌∷◌, ◌++◌, length, Ok, Result, Some, sym, ap, subst, arith}
use Rattle.fd_key.specs.Pairs.{Pair}
use Rattle.fd_key.specs.Keys.{key_of}
use Rattle.fd_key.specs.declared.fault.KeyFault.{KeyFault}
use Rattle.fd_sections.specs.declared.bad.Bad.{Bad}
use Rattle.fd_sections.specs.Message.{IsMessage, Sections}
use Rattle.fd_sections.proofs.Laws.{reading_again}
use Rattle.fd_schema.specs.Rules.{Rule, Texts, place_from}
use Rattle.fd_gen.specs.Generated.{generated_sections}
use Rattle.fd_trial.specs.Placed.{ArePlaced, IsPlacedAt}

ok_is : (x y : Sections) → (let r : Result Sections Bad = Ok x in r ≡ Ok y) → x ≡ y
ok_is x y e = cc

-- a message has one list of sections
same_sections : (m : List ℕ) (s t : Sections) → IsMessage m s → IsMessage m t → s ≡ t
same_sections m s t a b = ok_is s t (sym (reading_again m s a) ∙ reading_again m t b)

-- the key of what is read of a message that was made, and its place
pub placed_so : (rules : List Rule) (given key : List Pair) (i : ℕ) (m : List ℕ) (s : Sections) (p : Texts) → IsMessage m s → IsMessage m (generated_sections i) → key_of s given ≡ Ok key → place_from 0 rules key ≡ Some p → IsPlacedAt rules given i p
placed_so rules given key i m s p read made keyed placed = (key, ap (λ (x : Sections). key_of x given) (sym (same_sections m s (generated_sections i) read made)) ∙ keyed, placed)

-- what is read of such a message has the key that the message has
pub key_there : (rules : List Rule) (given : List Pair) (i : ℕ) (m : List ℕ) (s : Sections) → IsMessage m s → IsMessage m (generated_sections i) → (p : Texts) × IsPlacedAt rules given i p → (key : List Pair) × (key_of s given ≡ Ok key)
key_there rules given i m s read made (p, (key, keyed, placed)) = (key, ap (λ (x : Sections). key_of x given) (same_sections m s (generated_sections i) read made) ∙ keyed)

ok_key : (x y : List Pair) → (let r : Result (List Pair) KeyFault = Ok x in r ≡ Ok y) → x ≡ y
ok_key x y e = cc

-- and that key has a place
pub place_there : (rules : List Rule) (given key : List Pair) (i : ℕ) (m : List ℕ) (s : Sections) → IsMessage m s → IsMessage m (generated_sections i) → key_of s given ≡ Ok key → (p : Texts) × IsPlacedAt rules given i p
    → (t : Texts) × (place_from 0 rules key ≡ Some t)
place_there rules given key i m s read made is (p, (k, keyed, placed)) =
    let same : k ≡ key = ok_key k key (sym keyed ∙ (ap (λ (x : Sections). key_of x given) (sym (same_sections m s (generated_sections i) read made)) ∙ is)) in
    (p, ap (place_from 0 rules) (sym same) ∙ placed)

-- one place more
pub placed_more : (rules : List Rule) (given : List Pair) (next i : ℕ) (ps : List Texts) (p : Texts) → ArePlaced rules given next ps → next + length ps ≡ i → IsPlacedAt rules given i p → ArePlaced rules given next (ps ++ p ∷ [])
placed_more rules given next i [] p all at one =
    let same : i ≡ next = omega (arith, at) in
    (subst (λ n. IsPlacedAt rules given n p) same one, tt)
placed_more rules given next i (q ∷ ps) p all at one =
    let up : next + 1 + length ps ≡ i = omega (arith, at) in
    (all.0, placed_more rules given (next + 1) i ps p all.1 up one)
