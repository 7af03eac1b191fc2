-- The names of pairs that a text is differ, so their copy is built one by one.
use Rattle.std.proofs.Common.{◌≡◌, ◌∙◌, ℕ, Bool, true, false, true≢false, ◌||◌, not, cond, List, [], ◌∷◌, ◌++◌, Option, Some, None, is_some, refl, sym, ap, subst, bytes_eq}
use Rattle.std.specs.Prelude.{slice_get}
use Rattle.std.proofs.lemmas.Bool.{and_from, and_parts, not-true}
use Rattle.std.proofs.lemmas.List.Elements.{All-get_or}
use Rattle.std.proofs.lemmas.Option.{get_or_from_slice_get, slice_get_within}
use Rattle.std.proofs.lemmas.Slice.Eq.{bytes_eq-Decides}
use Rattle.fd_key.specs.Pairs as keys
use Rattle.fd_key.specs.Pairs.{text_of}
use Rattle.fd_key.specs.Given as given
use Rattle.fd_request.specs.Expansion.{Keyword}
use Rattle.fd_request.specs.Grammar.{has_name}
use Rattle.fd_request.specs.Keywords.{differ_after}
use Rattle.fd_cubes.specs.Cubes.{alone}
use Rattle.fd_inventory.specs.Found.{AreSpelled, IsSpelled}

-- a name that the keywords don't have is none of the pairs'
no_text : (ps : List keys.Pair) (n : List ℕ) → has_name (alone ps) n ≡ false → text_of ps n ≡ None
no_text [] n h = refl
no_text (p ∷ ps) n h = by (bytes_eq p.0 n) (bytes_eq n p.0) refl refl h (no_text ps n)
  where
    by : (a b : Bool) → bytes_eq p.0 n ≡ a → bytes_eq n p.0 ≡ b → (a || has_name (alone ps) n) ≡ false → (has_name (alone ps) n ≡ false → text_of ps n ≡ None) → cond b (Some p.1) (text_of ps n) ≡ None
    by true b e f h more = absurd (true≢false h)
    by false false e f h more = more h
    by false true e f h more = absurd (true≢false (sym ((bytes_eq-Decides p.0 n).1 (sym ((bytes_eq-Decides n p.0).0 f))) ∙ e))

pub alone_push : (ps : List keys.Pair) (p : keys.Pair) → alone (ps ++ p ∷ []) ≡ alone ps ++ record { name = p.0; values = p.1 ∷ [] } ∷ []
alone_push [] p = refl
alone_push (q ∷ ps) p = ap (λ (ks : List Keyword). record { name = q.0; values = q.1 ∷ [] } ∷ ks) (alone_push ps p)

apart : (before ps : List keys.Pair) → differ_after (alone before) (alone ps) ≡ true → given.differ_after before ps ≡ true
apart before [] h = refl
apart before (p ∷ ps) h =
    let k : Keyword = record { name = p.0; values = p.1 ∷ [] } in
    let parts = and_parts (not (has_name (alone before) p.0)) (differ_after (alone before ++ k ∷ []) (alone ps)) h in
    let none : text_of before p.0 ≡ None = no_text before p.0 (not-true (has_name (alone before) p.0) parts.0) in
    and_from (not (is_some (text_of before p.0))) (given.differ_after (before ++ p ∷ []) ps) (ap (λ (o : Option (List ℕ)). not (is_some o)) none)
    (apart (before ++ p ∷ []) ps (ap (λ (ks : List Keyword). differ_after ks (alone ps)) (alone_push before p) ∙ parts.1))

pub all_apart : (ps : List keys.Pair) → AreSpelled ps → given.differ_after [] ps ≡ true
all_apart ps are = apart [] ps are.once

pub spelled_there : (ps : List keys.Pair) (i : ℕ) (p : keys.Pair) → AreSpelled ps → slice_get ps i ≡ Some p → IsSpelled p
spelled_there ps i p are at = subst IsSpelled (get_or_from_slice_get ps i p p at) (All-get_or IsSpelled ps i p (slice_get_within ps i p at) are.spelled)
