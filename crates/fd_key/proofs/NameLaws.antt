-- Names that differ, and names that are reserved.
use Rattle.std.proofs.Common.{◌≡◌, ℕ, Bool, true, false, cond, not, List, [], ◌∷◌, ◌++◌, Option, Some, None, refl, ap, ◌∙◌, append_assoc}
use Rattle.std.specs.Prelude.{is_some, ◌&&◌}
use Rattle.std.specs.Str.{bytes_eq}
use Rattle.std.specs.Cmp.Lexicographic.{bytes_decides}
use Rattle.std.proofs.lemmas.Bool.{and_parts, not-true}
use Rattle.fd_key.specs.Pairs.{Pair, text_of}
use Rattle.fd_key.specs.Given.{is_reserved, are_reserved, are_free, differ_after}

is_none : (o : Option (List ℕ)) → not (is_some o) ≡ true → o ≡ None
is_none None h = refl
is_none (Some x) h = absurd (cc)

-- the first pair's name is new, and the others differ from it too
pub first_differs : (before : List Pair) (p : Pair) (ps : List Pair) → differ_after before (p ∷ ps) ≡ true → (text_of before p.0 ≡ None) × (differ_after (before ++ p ∷ []) ps ≡ true)
first_differs before p ps h =
    let parts = and_parts (not (is_some (text_of before p.0))) (differ_after (before ++ p ∷ []) ps) h in
    (is_none (text_of before p.0) parts.0, parts.1)

text_of_joined : (own before : List Pair) (name : List ℕ) → text_of own name ≡ None → text_of (own ++ before) name ≡ text_of before name
text_of_joined [] before name h = refl
text_of_joined (q ∷ own) before name h = go (bytes_eq name q.0) h (text_of_joined own before name)
  where
    go : (b : Bool) → cond b (Some q.1) (text_of own name) ≡ None → (text_of own name ≡ None → text_of (own ++ before) name ≡ text_of before name)
        → cond b (Some q.1) (text_of (own ++ before) name) ≡ text_of before name
    go true e k = absurd (cc)
    go false e k = k e

-- a name that isn't reserved is none of the reserved ones
pub free_is_absent : (own : List Pair) (name : List ℕ) → are_reserved own ≡ true → is_reserved name ≡ false → text_of own name ≡ None
free_is_absent [] name own free = refl
free_is_absent (q ∷ qs) name own free =
    let parts = and_parts (is_reserved q.0) (are_reserved qs) own in
    go (bytes_eq name q.0) refl parts.0 (free_is_absent qs name parts.1 free)
  where
    go : (b : Bool) → bytes_eq name q.0 ≡ b → is_reserved q.0 ≡ true → text_of qs name ≡ None → cond b (Some q.1) (text_of qs name) ≡ None
    go true e r h = let same : name ≡ q.0 = (bytes_decides name q.0).0 e in let bad : is_reserved name ≡ true = ap is_reserved same ∙ r in absurd (cc)
    go false e r h = h

-- free names that differ also differ from reserved ones
pub differ_after_own : (own before ps : List Pair) → are_reserved own ≡ true → are_free ps ≡ true → differ_after before ps ≡ true → differ_after (own ++ before) ps ≡ true
differ_after_own own before [] r f d = refl
differ_after_own own before (p ∷ ps) r f d =
    let names = and_parts (not (is_reserved p.0)) (are_free ps) f in
    let first = first_differs before p ps d in
    let free : is_reserved p.0 ≡ false = not-true (is_reserved p.0) names.0 in
    let absent : text_of (own ++ before) p.0 ≡ None = text_of_joined own before p.0 (free_is_absent own p.0 r free) ∙ first.0 in
    let others : differ_after (own ++ (before ++ p ∷ [])) ps ≡ true = differ_after_own own (before ++ p ∷ []) ps r names.1 first.1 in
    let moved : differ_after ((own ++ before) ++ p ∷ []) ps ≡ true = ap (λ qs. differ_after qs ps) (append_assoc own before (p ∷ [])) ∙ others in
    ap (λ o. not (is_some o) && differ_after ((own ++ before) ++ p ∷ []) ps) absent ∙ moved
