-- The pairs of the pieces of a text, one after the other.
use Rattle.std.proofs.Common.{◌≡◌, ◌∙◌, ℕ, ◌+◌, ◌≤◌, List, [], ◌∷◌, ◌++◌, length, Option, Some, None, is_some, cond, refl, sym, ap, arith, length-append}
use Rattle.fd_key.specs.Pairs as keys
use Rattle.fd_key.specs.Pairs.{text_of, with_pair}
use Rattle.fd_spelling.specs.Numerals.{cut, ◌>>=◌}
use Rattle.fd_key.proofs.PairLaws.{with_new_pair}
use Rattle.fd_outcome.specs.Rows.{if_pair, if_new, with_piece, with_pieces}

pub turn : (before more : List keys.Pair) (piece : List ℕ) (pieces : List (List ℕ)) → with_piece before piece ≡ Some more → with_pieces before (piece ∷ pieces) ≡ with_pieces more pieces
unfolding with_pieces
turn before more piece pieces h = ap (λ (r : Option (List keys.Pair)). r >>= λ ps. with_pieces ps pieces) h

pub refused : (before : List keys.Pair) (piece : List ℕ) (pieces : List (List ℕ)) → with_piece before piece ≡ None → with_pieces before (piece ∷ pieces) ≡ None
unfolding with_pieces
refused before piece pieces h = ap (λ (r : Option (List keys.Pair)). r >>= λ ps. with_pieces ps pieces) h

pub done : (before : List keys.Pair) → with_pieces before [] ≡ Some before
unfolding with_pieces
done before = refl

-- a pair whose name is new
pub added : (before : List keys.Pair) (piece name value : List ℕ) (new : List keys.Pair) → if_pair (cut 61 piece) ≡ Some (name, value) → text_of before name ≡ None → new ≡ with_pair before name value → with_piece before piece ≡ Some new
unfolding with_piece
added before piece name value new pair free is =
    ap (if_new before) pair ∙ ap (λ (t : Option (List ℕ)). cond (is_some t) None (Some (before ++ (name, value) ∷ []))) free ∙ ap Some (sym (is ∙ with_new_pair before name value free))

pub one_more : (before : List keys.Pair) (name value : List ℕ) (new : List keys.Pair) → text_of before name ≡ None → new ≡ with_pair before name value → length new ≤ length before + 1
one_more before name value new free is =
    let e : length new ≡ length before + 1 = ap length (is ∙ with_new_pair before name value free) ∙ length-append before ((name, value) ∷ []) in
    omega (arith, e)
