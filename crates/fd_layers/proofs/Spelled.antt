-- Keys under a layer: their names are those of the key, and their texts are values.
use Rattle.std.proofs.Common.{◌≡◌, ◌+◌, ◌∙◌, ℕ, Bool, true, false, cond, not, List, [], ◌∷◌, ◌++◌, length, All, Option, Some, None, Result, Ok, Err, refl, sym, ap, subst, append_assoc}
use Rattle.std.specs.Prelude.{◌&&◌, is_some, slice_get}
use Rattle.std.specs.Str.{bytes_eq}
use Rattle.std.proofs.lemmas.Bool.{and_parts, and_from}
use Rattle.std.proofs.lemmas.List.Elements.{All-head, All-nil, All-push, All-tail}
use Rattle.std.proofs.lemmas.Option.{slice_get_within, get_or_from_slice_get}
use mathlib.Core.List.{map-append}
use Rattle.fd_spelling.specs.Names.{is_name, is_value, lower}
use Rattle.fd_spelling.specs.Numerals.{cut, ◌>>=◌}
use Rattle.fd_key.specs.Pairs.{Pair, text_of, with_pair}
use Rattle.fd_key.specs.Given.{Refusal, differ_after, given_of, pairs_in, pairs_from, pieces_of, plain_pair, with_piece, ◌and_then◌}
use Rattle.fd_key.proofs.GivenLaws.{piece_adds}
use Rattle.fd_key.proofs.NameLaws.{first_differs}
use Rattle.fd_key.proofs.PairLaws.{with_new_pair}
use Rattle.fd_request.specs.Spelled.{AreValues}
use Rattle.fd_layers.specs.Based.{has_names, or_own, under}

-- ---- what is at a place

pub all_at : {A : Type 0} (P : A → Type 0) (xs : List A) (i : ℕ) (x : A) → All P xs → slice_get xs i ≡ Some x → P x
all_at P xs i x all at = subst P (get_or_from_slice_get xs i x x at) (all i x (slice_get_within xs i x at))

-- ---- names

-- a key under a layer has the names of the key
text_under : (layer key : List Pair) (name : List ℕ) → is_some (text_of (under layer key) name) ≡ is_some (text_of key name)
text_under layer [] name = refl
text_under layer (p ∷ ps) name = go (bytes_eq name p.0) (text_under layer ps name)
  where
    go : (b : Bool) → is_some (text_of (under layer ps) name) ≡ is_some (text_of ps name)
        → is_some (cond b (Some (or_own (text_of layer p.0) p.1)) (text_of (under layer ps) name)) ≡ is_some (cond b (Some p.1) (text_of ps name))
    go true h = refl
    go false h = h

abbrev over : List Pair → Pair → Pair
over layer p = (p.0, or_own (text_of layer p.0) p.1)

pub differ_under : (layer before key : List Pair) → differ_after before key ≡ true → differ_after (under layer before) (under layer key) ≡ true
differ_under layer before [] differ = refl
differ_under layer before (p ∷ ps) differ =
    let parts = and_parts (not (is_some (text_of before p.0))) (differ_after (before ++ p ∷ []) ps) differ in
    let others = differ_under layer (before ++ p ∷ []) ps parts.1 in
    and_from (not (is_some (text_of (under layer before) p.0))) (differ_after (under layer before ++ over layer p ∷ []) (under layer ps))
    (ap not (text_under layer before p.0) ∙ parts.0)
    (ap (λ (qs : List Pair). differ_after qs (under layer ps)) (sym (map-append (over layer) before (p ∷ []))) ∙ others)

-- ---- values

pub value_under : (layer : List Pair) (name own : List ℕ) → AreValues layer → is_value own ≡ true → is_value (or_own (text_of layer name) own) ≡ true
value_under [] name own values is = is
value_under (p ∷ ps) name own values is = go (bytes_eq name p.0) (value_under ps name own (All-tail (λ (p : Pair). is_value p.1 ≡ true) p ps values) is)
  where
    go : (b : Bool) → is_value (or_own (text_of ps name) own) ≡ true → is_value (or_own (cond b (Some p.1) (text_of ps name)) own) ≡ true
    go true rest = All-head (λ (p : Pair). is_value p.1 ≡ true) p ps values
    go false rest = rest

-- ---- one pair more

-- what is left of a key, and what is made of the others
pub record IsUnder (layer key : List Pair) (new rest : List Pair) : Type 0 where
  pub so_far : new ++ under layer rest ≡ under layer key
  pub differ : differ_after new (under layer rest) ≡ true

pub under_none : (layer key : List Pair) → differ_after [] key ≡ true → IsUnder layer key [] key
under_none layer key differ = record { so_far = refl; differ = differ_under layer [] key differ }

pub under_more : (layer key new rest others after : List Pair) (name own : List ℕ) → rest ≡ (name, own) ∷ others → after ≡ with_pair new name (or_own (text_of layer name) own) → IsUnder layer key new rest → IsUnder layer key after others
under_more layer key new rest others after name own at set u =
    let q : Pair = over layer (name, own) in
    let differ : differ_after new (q ∷ under layer others) ≡ true = ap (λ (ps : List Pair). differ_after new (under layer ps)) (sym at) ∙ u.differ in
    let first = first_differs new q (under layer others) differ in
    let pushed : after ≡ new ++ q ∷ [] = set ∙ with_new_pair new name q.1 first.0 in
    record {
      so_far = ap (λ (ps : List Pair). ps ++ under layer others) pushed ∙ (append_assoc new (q ∷ []) (under layer others) ∙ (ap (λ (ps : List Pair). new ++ under layer ps) (sym at) ∙ u.so_far));
      differ = ap (λ (ps : List Pair). differ_after ps (under layer others)) pushed ∙ first.1;
    }

-- ---- the pairs that are read of a text

plain_value : (piece : List ℕ) (p : Pair) → plain_pair piece ≡ Some p → is_value p.1 ≡ true
unfolding plain_pair
plain_value piece p h = go (cut 61 piece) h
  where
    go : (o : Option Pair) → (o >>= λ parts. cond (is_name parts.0 && is_value parts.1) (Some parts) None) ≡ Some p → is_value p.1 ≡ true
    go None k = absurd (cc)
    go (Some parts) k = chosen (is_name parts.0) (is_value parts.1) refl k
      where
        chosen : (b d : Bool) → is_value parts.1 ≡ d → cond (b && d) (Some parts) None ≡ Some p → is_value p.1 ≡ true
        chosen true true is same = let own : parts ≡ p = cc in ap (λ (q : Pair). is_value q.1) (sym own) ∙ is
        chosen true false is same = absurd (cc)
        chosen false d is same = absurd (cc)

values_from : (at : ℕ) (before : List Pair) (pieces : List (List ℕ)) (pairs : List Pair) → pairs_from at before pieces ≡ Ok pairs → AreValues before → AreValues pairs
unfolding pairs_from
values_from at before [] pairs h values = let same : before ≡ pairs = cc in subst AreValues same values
values_from at before (piece ∷ pieces) pairs h values = go (with_piece before piece at) refl h (λ next k more. values_from (at + length piece + 1) next pieces pairs k more)
  where
    go : (r : Result (List Pair) Refusal) → with_piece before piece at ≡ r → (r and_then λ next. pairs_from (at + length piece + 1) next pieces) ≡ Ok pairs
        → ((next : List Pair) → pairs_from (at + length piece + 1) next pieces ≡ Ok pairs → AreValues next → AreValues pairs) → AreValues pairs
    go (Err e) was k on = absurd (cc)
    go (Ok next) was k on =
        let a = piece_adds before piece at next was in
        let more = All-push (λ (p : Pair). is_value p.1 ≡ true) before a.pair values (plain_value piece a.pair a.is_new.plain) in
        on next k (subst AreValues (sym a.next_is) more)

pub given_values : (text : List ℕ) (pairs : List Pair) → given_of text ≡ Ok pairs → AreValues pairs
unfolding given_of
given_values text pairs h = go (lower text) h
  where
    go : (t : List ℕ) → pairs_in t ≡ Ok pairs → AreValues pairs
    go [] k = let same : [] ≡ pairs = cc in subst AreValues same (All-nil (λ (p : Pair). is_value p.1 ≡ true))
    go (b ∷ bs) k = values_from 0 [] (pieces_of (b ∷ bs)) pairs k (All-nil (λ (p : Pair). is_value p.1 ≡ true))

-- ---- one name at a time

-- one name of the layer is looked up in the key
pub has_more : (key layer rest : List Pair) (p : Pair) (found : Bool) → rest ≡ p ∷ layer → is_some (text_of key p.0) ≡ found → has_names key rest ≡ (found && has_names key layer)
has_more key layer rest p found at is = ap (has_names key) at ∙ ap (λ (b : Bool). b && has_names key layer) is

-- one pair of the layer is compared
pub text_more : (rest others : List Pair) (name : List ℕ) (p : Pair) (same : Bool) → rest ≡ p ∷ others → bytes_eq name p.0 ≡ same → text_of rest name ≡ cond same (Some p.1) (text_of others name)
text_more rest others name p same at is = ap (λ (ps : List Pair). text_of ps name) at ∙ ap (λ (b : Bool). cond b (Some p.1) (text_of others name)) is
