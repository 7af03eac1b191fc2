-- Reading pairs: one piece, and the next.
use Rattle.std.proofs.Common.{◌≡◌, ◌<◌, ◌+◌, ℕ, Bool, true, false, cond, not, List, [], ◌∷◌, ◌++◌, length, Option, Some, None, Result, Ok, Err, refl, sym, ap, ◌∙◌, append_assoc, arith}
use Rattle.std.specs.Prelude.{is_some, ◌&&◌}
use Rattle.std.proofs.lemmas.Bool.{and_parts, and_from}
use Rattle.std.proofs.lemmas.List.{append-nil}
use Rattle.std.specs.Prelude.{◌^◌, string_bytes}
use Rattle.fd_spelling.specs.Names.{is_name, is_value}
use Rattle.fd_spelling.specs.Numerals.{cut, ◌>>=◌}
use Rattle.fd_key.specs.Pairs.{Pair, text_of, rest_text, key_text}
use Rattle.fd_key.specs.Given.{Refusal, Pair_at, Clash_of, Twice_of, is_reserved, are_free, differ_after, plain_pair, new_pair, with_piece, ◌and_then◌, pairs_from, IsGiven}
use Rattle.fd_key.specs.declared.fault.GivenFault.{GivenFault}
use Rattle.fd_key.specs.declared.fault.GivenFault.TheVariants as faults
use Rattle.fd_key.specs.Reading.{Refuses}
use Rattle.fd_key.proofs.PairLaws.{length-rest_push, length-key_push}
use Rattle.fd_spelling.proofs.PieceLaws.{cut_lengths}

-- what holds of a pair that is taken
pub record IsNew (before : List Pair) (o : Option Pair) (p : Pair) : Type 0 where
  pub plain : o ≡ Some p
  pub free : is_reserved p.0 ≡ false
  pub other : text_of before p.0 ≡ None

is_none : (o : Option (List ℕ)) → is_some o ≡ false → o ≡ None
is_none None h = refl
is_none (Some x) h = absurd (cc)

pub taken : (before : List Pair) (o : Option Pair) (at : ℕ) (p : Pair) → new_pair before o at ≡ Ok p → IsNew before o p
taken before None at p h = absurd (cc)
taken before (Some q) at p h = go (is_reserved q.0) (is_some (text_of before q.0)) refl refl h
  where
    go : (r s : Bool) → is_reserved q.0 ≡ r → is_some (text_of before q.0) ≡ s → cond r (Err (Clash_of q.0)) (cond s (Err (Twice_of q.0)) (Ok q)) ≡ Ok p → IsNew before (Some q) p
    go true s er es e = absurd (cc)
    go false true er es e = absurd (cc)
    go false false er es e =
        let same : q ≡ p = cc in
        record {
          plain = ap (λ x. Some x) same;
          free = sym (ap (λ (x : Pair). is_reserved x.0) same) ∙ er;
          other = sym (ap (λ (x : Pair). text_of before x.0) same) ∙ is_none (text_of before q.0) es;
        }

-- a pair has the length of its piece
pub plain_length : (piece : List ℕ) (p : Pair) → plain_pair piece ≡ Some p → length p.0 + length p.1 + 1 ≡ length piece
unfolding plain_pair
plain_length piece p h = go (cut 61 piece) refl h
  where
    go : (o : Option Pair) → cut 61 piece ≡ o → (o >>= λ parts. cond (is_name parts.0 && is_value parts.1) (Some parts) None) ≡ Some p → length p.0 + length p.1 + 1 ≡ length piece
    go None e k = absurd (cc)
    go (Some parts) e k = cut_lengths 61 piece p (e ∙ chosen (is_name parts.0 && is_value parts.1) k)
      where
        chosen : (b : Bool) → cond b (Some parts) None ≡ Some p → Some parts ≡ Some p
        chosen true same = same
        chosen false same = absurd (cc)

-- one more name that differs
pub differ_push : (before ps : List Pair) (p : Pair) → differ_after before ps ≡ true → text_of (before ++ ps) p.0 ≡ None → differ_after before (ps ++ p ∷ []) ≡ true
differ_push before [] p d none =
    let other : text_of before p.0 ≡ None = ap (λ qs. text_of qs p.0) (sym (append-nil before)) ∙ none in
    ap (λ o. not (is_some o) && true) other
differ_push before (q ∷ ps) p d none =
    let parts = and_parts (not (is_some (text_of before q.0))) (differ_after (before ++ q ∷ []) ps) d in
    let moved : text_of ((before ++ q ∷ []) ++ ps) p.0 ≡ None = ap (λ qs. text_of qs p.0) (append_assoc before (q ∷ []) ps) ∙ none in
    and_from (not (is_some (text_of before q.0))) (differ_after (before ++ q ∷ []) (ps ++ p ∷ [])) parts.0 (differ_push (before ++ q ∷ []) ps p parts.1 moved)

-- one more name that isn't reserved
pub free_push : (ps : List Pair) (p : Pair) → are_free ps ≡ true → is_reserved p.0 ≡ false → are_free (ps ++ p ∷ []) ≡ true
free_push [] p f e = ap (λ b. not b && true) e
free_push (q ∷ ps) p f e =
    let parts = and_parts (not (is_reserved q.0)) (are_free ps) f in
    and_from (not (is_reserved q.0)) (are_free (ps ++ p ∷ [])) parts.0 (free_push ps p parts.1 e)

-- the pairs of the pieces up to a place
pub record IsRead (at : ℕ) (pairs : List Pair) : Type 0 where
  pub free : are_free pairs ≡ true
  pub differ : differ_after [] pairs ≡ true
  pub text : length (rest_text pairs) ≡ at

pub none_read : IsRead 0 []
none_read = record { free = refl; differ = refl; text = refl }

-- what a piece adds
pub record Adds (before : List Pair) (piece : List ℕ) (next : List Pair) : Type 0 where
  pub pair : Pair
  pub is_new : IsNew before (plain_pair piece) pair
  pub next_is : next ≡ before ++ pair ∷ []

pub piece_adds : (before : List Pair) (piece : List ℕ) (at : ℕ) (next : List Pair) → with_piece before piece at ≡ Ok next → Adds before piece next
unfolding with_piece
piece_adds before piece at next h = go (new_pair before (plain_pair piece) at) refl h
  where
    go : (r : Result Pair Refusal) → new_pair before (plain_pair piece) at ≡ r → (r and_then λ p. Ok (before ++ p ∷ [])) ≡ Ok next → Adds before piece next
    go (Err e) was k = absurd (cc)
    go (Ok p) was k = record { pair = p; is_new = taken before (plain_pair piece) at p was; next_is = cc }

-- the pairs after a piece, with a comma behind it
pub next_read : (at : ℕ) (before : List Pair) (piece : List ℕ) (next : List Pair) → IsRead at before → Adds before piece next → IsRead (at + length piece + 1) next
next_read at before piece next r a =
    let p = a.pair in
    let size : length p.0 + length p.1 + 1 ≡ length piece = plain_length piece p a.is_new.plain in
    let grown : length (rest_text (before ++ p ∷ [])) ≡ length (rest_text before) + length p.0 + length p.1 + 2 = length-rest_push before p.0 p.1 in
    let same : length (rest_text next) ≡ length (rest_text (before ++ p ∷ [])) = ap (λ ps. length (rest_text ps)) a.next_is in
    record {
      free = ap are_free a.next_is ∙ free_push before p r.free a.is_new.free;
      differ = ap (differ_after []) a.next_is ∙ differ_push [] before p r.differ a.is_new.other;
      text = omega (arith, size, grown, same, r.text);
    }

-- the pairs after the last piece
pub all_given : (at : ℕ) (before : List Pair) (piece : List ℕ) (next : List Pair) → IsRead at before → Adds before piece next → at + length piece < 2 ^ 31 → IsGiven next
all_given at before piece next r a fits =
    let p = a.pair in
    let after = next_read at before piece next r a in
    let pushed : length (key_text (before ++ p ∷ [])) + 1 ≡ length (rest_text (before ++ p ∷ [])) = length-key_push before p in
    let keys : length (key_text next) ≡ length (key_text (before ++ p ∷ [])) = ap (λ ps. length (key_text ps)) a.next_is in
    let rests : length (rest_text next) ≡ length (rest_text (before ++ p ∷ [])) = ap (λ ps. length (rest_text ps)) a.next_is in
    record { free = after.free; differ = after.differ; short = omega (arith, pushed, keys, rests, after.text, fits) }

-- the next pieces go on from the pairs so far
pub turn : (at : ℕ) (before : List Pair) (piece : List ℕ) (pieces : List (List ℕ)) (next : List Pair) → with_piece before piece at ≡ Ok next
    → pairs_from at before (piece ∷ pieces) ≡ pairs_from (at + length piece + 1) next pieces
unfolding pairs_from
turn at before piece pieces next h = ap (λ (r : Result (List Pair) Refusal). r and_then λ ps. pairs_from (at + length piece + 1) ps pieces) h

-- the last piece ends the pairs
pub ends : (at : ℕ) (before : List Pair) (piece : List ℕ) (next : List Pair) → with_piece before piece at ≡ Ok next → pairs_from at before (piece ∷ []) ≡ Ok next
unfolding pairs_from
ends at before piece next h = ap (λ (r : Result (List Pair) Refusal). r and_then λ ps. Ok ps) h

-- a piece that is refused ends them too
pub refused : (at : ℕ) (before : List Pair) (piece : List ℕ) (pieces : List (List ℕ)) (r : Refusal) → with_piece before piece at ≡ Err r
    → pairs_from at before (piece ∷ pieces) ≡ Err r
unfolding pairs_from
refused at before piece pieces r h = ap (λ (x : Result (List Pair) Refusal). x and_then λ ps. pairs_from (at + length piece + 1) ps pieces) h

-- what refuses a piece refuses the whole
pub refuses_all : (fault : GivenFault) (at : ℕ) (before : List Pair) (piece : List ℕ) (pieces : List (List ℕ)) → Refuses fault (with_piece before piece at) → Refuses fault (pairs_from at before (piece ∷ pieces))
refuses_all faults.NoMemory at before piece pieces h = tt
refuses_all (faults.Pair place) at before piece pieces h = refused at before piece pieces (Pair_at place) h
refuses_all (faults.Clash name) at before piece pieces h = refused at before piece pieces (Clash_of (string_bytes name)) h
refuses_all (faults.Twice name) at before piece pieces h = refused at before piece pieces (Twice_of (string_bytes name)) h
