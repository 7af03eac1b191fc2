-- Texts of pairs, one pair at a time, and texts that stand in one.
use Rattle.std.proofs.Common.{◌≡◌, ℕ, Bool, true, false, List, [], ◌∷◌, ◌++◌, ◌∙◌, length, sym, subst, arith, append_assoc, length-append}
use Rattle.std.specs.Str.{IsCharBoundary, IsUtf8}
use Rattle.std.proofs.lemmas.List.{append-nil}
use Rattle.std.proofs.lemmas.Str.{IsCharBoundary-from_take}
use Rattle.std.proofs.Math.Seq.{take-append_seam}
use Rattle.fd_key.specs.Pairs.{Pair, pair_text, rest_text, key_text}
use Rattle.fd_schema.specs.Rules.{pair_behind}
use Rattle.fd_schema.specs.Cuts.{AreCut}

-- the pairs that are still to come of a level, none of which stands before them, or some
abbrev pub pairs_behind : Bool → List Pair → List ℕ
pairs_behind true ps = key_text ps
pairs_behind false ps = rest_text ps

-- one pair more
pub one_more : (out : List ℕ) (is_first : Bool) (p : Pair) (ps : List Pair) → (out ++ pair_behind is_first p) ++ pairs_behind false ps ≡ out ++ pairs_behind is_first (p ∷ ps)
one_more out true p ps = append_assoc out (pair_text p) (rest_text ps)
one_more out false p ps = append_assoc out (44 ∷ pair_text p) (rest_text ps)

-- no pairs more
pub no_more : (out : List ℕ) (is_first : Bool) → out ++ pairs_behind is_first [] ≡ out
no_more out true = append-nil out
no_more out false = append-nil out

-- ---- texts that are put behind each other

-- a text may be cut where another ends that it begins with
cut_behind : (front more : List ℕ) → IsUtf8 front → IsUtf8 (front ++ more) → IsCharBoundary (front ++ more) (length front)
cut_behind front more u v =
    IsCharBoundary-from_take (front ++ more) (length front) v (omega (arith, length-append front more)) (subst IsUtf8 (sym (take-append_seam front more)) u)

-- three texts, of which the second is put behind the first, and the third behind both
pub record Joined (text : List ℕ) (i j : ℕ) (a b d : List ℕ) : Type 0 where
  pub is : text ≡ (a ++ b) ++ d
  pub first : i ≡ length a
  pub both : j ≡ length (a ++ b)

pub are_cut : (text : List ℕ) (i j : ℕ) (a b d : List ℕ) → IsUtf8 a → IsUtf8 (a ++ b) → IsUtf8 text → Joined text i j a b d → AreCut text i j
are_cut text i j a b d u v w t =
    let apart : text ≡ a ++ (b ++ d) = t.is ∙ append_assoc a b d in
    let second : IsCharBoundary text (length a) = subst (λ (l : List ℕ). IsCharBoundary l (length a)) (sym apart) (cut_behind a (b ++ d) u (subst IsUtf8 apart w)) in
    let third : IsCharBoundary text (length (a ++ b)) = subst (λ (l : List ℕ). IsCharBoundary l (length (a ++ b))) (sym t.is) (cut_behind (a ++ b) d v (subst IsUtf8 t.is w)) in
    record {
      ordered = omega (arith, t.first, t.both, length-append a b);
      second = subst (IsCharBoundary text) (sym t.first) second;
      third = subst (IsCharBoundary text) (sym t.both) third;
    }
