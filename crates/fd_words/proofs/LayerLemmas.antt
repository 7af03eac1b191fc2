-- The layers that a text gives.
use Rattle.std.proofs.Common.{◌≡◌, ◌≤◌, ◌<◌, ◌+◌, ◌∙◌, ℕ, suc, Bool, true, false, cond, List, [], ◌∷◌, ◌++◌, length, length-append, All, Option, Some, None, Result, Ok, Err, refl, sym, ap, subst, append_assoc, append-nil, eqb, ltb, arith}
use Rattle.std.specs.Prelude.{◌&&◌, option_map, option_and_then, nat_lt, MatchOption, IfSome, ◌^◌}
use Rattle.std.specs.Borrow.{Bor}
use Rattle.std.specs.Option.{option_copied}
use Rattle.std.proofs.lemmas.Bool.{ltb-true, ltb-false}
use Rattle.std.proofs.lemmas.Bool.Decides.{nat_tests}
use Rattle.std.proofs.lemmas.List.Splits.{length-slice_split}
use Rattle.std.proofs.lemmas.List.Elements.{All-cons, All-nil, All-push}
use Rattle.std.proofs.lemmas.Option.{same_Some}
use Rattle.fd_spelling.specs.Pieces.{pieces, pieces_behind}
use Rattle.fd_key.specs.Pairs.{Pair}
use Rattle.fd_key.specs.Given.{Refusal, given_of}
use Rattle.fd_request.specs.Spelled.{AreValues}
use Rattle.fd_layers.proofs.Spelled.{given_values}
use Rattle.fd_words.specs.Reading.{Text}
use Rattle.fd_words.specs.Words.{AreLayers, IsLayer, all_layers, given_read, if_given, layer_before, layer_read, layers_read, unless_empty}

-- ---- pieces

some_pieces : (text : Text) → 1 ≤ length (pieces 47 text)
some_pieces text = omega (arith, length-slice_split (λ b. eqb b 47) text)

-- ---- one layer more

-- the layers so far before those that are left
abbrev pub ahead : List (List Pair) → Option (List (List Pair)) → Option (List (List Pair))
ahead layers others = option_map (λ ls. layers ++ ls) others

-- what is left of a text, of which these layers were read
pub record IsLeft (text : Text) (count : ℕ) (layers : List (List Pair)) (rest : Text) : Type 0 where
  pub count_is : length layers ≡ count
  pub all : ahead layers (all_layers (pieces 47 rest)) ≡ all_layers (pieces 47 text)
  pub long : length (pieces 47 text) ≡ count + length (pieces 47 rest)

ahead_none : (o : Option (List (List Pair))) → ahead [] o ≡ o
ahead_none None = refl
ahead_none (Some ls) = refl

pub left_all : (text : Text) → IsLeft text 0 [] text
left_all text = record { count_is = refl; all = ahead_none (all_layers (pieces 47 text)); long = omega arith }

ahead_one : (layers : List (List Pair)) (layer : List Pair) (o : Option (List (List Pair))) → ahead layers (layer_before layer o) ≡ ahead (layers ++ layer ∷ []) o
ahead_one layers layer None = refl
ahead_one layers layer (Some ls) = ap (λ x. Some x) (sym (append_assoc layers (layer ∷ []) ls))

one_read : (piece : Text) (others : List Text) (layer : List Pair) → layer_read piece ≡ Some layer → all_layers (piece ∷ others) ≡ layer_before layer (all_layers others)
one_read piece others layer is = ap (option_and_then (λ l. layer_before l (all_layers others))) is

pub left_more : (text : Text) (count : ℕ) (layers after : List (List Pair)) (rest piece others : Text) (layer : List Pair) → pieces 47 rest ≡ piece ∷ pieces 47 others → layer_read piece ≡ Some layer → after ≡ layers ++ layer ∷ []
    → IsLeft text count layers rest → IsLeft text (count + 1) after others
left_more text count layers after rest piece others layer cut is pushed left = record {
  count_is = let l = left.count_is in let grown = length-append layers (layer ∷ []) in ap length pushed ∙ omega (arith, l, grown);
  all = ap (λ ls. ahead ls (all_layers (pieces 47 others))) pushed
      ∙ (sym (ahead_one layers layer (all_layers (pieces 47 others))) ∙ (ap (ahead layers) (sym (one_read piece (pieces 47 others) layer is)) ∙ (ap (λ ps. ahead layers (all_layers ps)) (sym cut) ∙ left.all)));
  long = omega (arith, left.long, ap length cut);
}

-- ---- the ends

pub refused : (text : Text) → all_layers (pieces 47 text) ≡ None → layers_read text ≡ None
refused text none = go (nat_lt 7 (length (pieces 47 text)))
  where
    go : (b : Bool) → cond b None (all_layers (pieces 47 text)) ≡ None
    go true = refl
    go false = none

pub refused_here : (text : Text) (count : ℕ) (layers : List (List Pair)) (rest piece : Text) (others : List Text) → pieces 47 rest ≡ piece ∷ others → layer_read piece ≡ None → IsLeft text count layers rest → layers_read text ≡ None
refused_here text count layers rest piece others cut none left =
    refused text (sym left.all ∙ (ap (λ ps. ahead layers (all_layers ps)) cut ∙ ap (λ o. ahead layers (option_and_then (λ l. layer_before l (all_layers others)) o)) none))

pub ended : (text : Text) (count : ℕ) (layers after : List (List Pair)) (rest piece : Text) (layer : List Pair) → pieces 47 rest ≡ piece ∷ [] → layer_read piece ≡ Some layer → after ≡ layers ++ layer ∷ [] → count < 7
    → IsLeft text count layers rest → layers_read text ≡ Some after
ended text count layers after rest piece layer cut is pushed few left = go (nat_lt 7 (length (pieces 47 text))) refl
  where
    all : all_layers (pieces 47 text) ≡ Some after
    all = sym left.all ∙ (ap (λ ps. ahead layers (all_layers ps)) cut ∙ (ap (ahead layers) (one_read piece [] layer is) ∙ ap (λ x. Some x) (sym pushed)))

    go : (b : Bool) → nat_lt 7 (length (pieces 47 text)) ≡ b → cond b None (all_layers (pieces 47 text)) ≡ Some after
    go true e = absurd (let lt = ltb-true 7 (length (pieces 47 text)) e in omega (arith, lt, left.long, ap length cut, few))
    go false e = all

pub too_many : (text : Text) (count : ℕ) (layers : List (List Pair)) (rest : Text) → 7 ≤ count → IsLeft text count layers rest → layers_read text ≡ None
too_many text count layers rest many left =
    let long = left.long in
    let lt : 7 < length (pieces 47 text) = omega (arith, many, long, some_pieces rest) in
    let yes : nat_lt 7 (length (pieces 47 text)) ≡ true = grind (arith, nat_tests) in
    ap (λ b. cond b None (all_layers (pieces 47 text))) yes

-- ---- what holds of layers that were read

layer_holds : (text : Text) (layer : List Pair) → layer_read text ≡ Some layer → IsLayer layer
layer_holds text layer is = go (given_read text) refl is
  where
    given : (pairs : List Pair) → given_read text ≡ Some pairs → AreValues pairs
    given pairs k = within (nat_lt (length text) (2 ^ 31)) k
      where
        read : (r : Result (List Pair) Refusal) → given_of text ≡ r → if_given r ≡ Some pairs → AreValues pairs
        read (Ok own) was e = subst AreValues (same_Some own pairs e) (given_values text own was)
        read (Err refusal) was e = absurd (cc e)

        within : (b : Bool) → cond b (if_given (given_of text)) None ≡ Some pairs → AreValues pairs
        within true e = read (given_of text) refl e
        within false e = absurd (cc e)

    go : (o : Option (List Pair)) → given_read text ≡ o → option_and_then unless_empty o ≡ Some layer → IsLayer layer
    go None was e = absurd (cc e)
    go (Some []) was e = absurd (cc e)
    go (Some (p ∷ ps)) was e = subst IsLayer (same_Some (p ∷ ps) layer e) (omega arith, given (p ∷ ps) was)

layers_hold : (texts : List Text) (layers : List (List Pair)) → all_layers texts ≡ Some layers → (length layers ≡ length texts) × All IsLayer layers
layers_hold [] layers is = let same = same_Some [] layers is in (sym (ap length same), subst (All IsLayer) same (All-nil IsLayer))
layers_hold (text ∷ texts) layers is = go (layer_read text) (all_layers texts) refl refl is (λ ls next. layers_hold texts ls next)
  where
    go : (o : Option (List Pair)) (r : Option (List (List Pair))) → layer_read text ≡ o → all_layers texts ≡ r → option_and_then (λ l. layer_before l r) o ≡ Some layers
        → ((ls : List (List Pair)) → all_layers texts ≡ Some ls → (length ls ≡ length texts) × All IsLayer ls) → (length layers ≡ length (text ∷ texts)) × All IsLayer layers
    go None r was next e on = absurd (cc e)
    go (Some l) None was next e on = absurd (cc e)
    go (Some l) (Some ls) was next e on =
        let same = same_Some (l ∷ ls) layers e in
        let rest = on ls next in
        (sym (ap length same) ∙ ap suc rest.0, subst (All IsLayer) same (All-cons IsLayer l ls (layer_holds text l was) rest.1))

-- the layers of a text are one to seven
pub layers_within : (text : Text) (layers : List (List Pair)) → layers_read text ≡ Some layers → AreLayers layers
layers_within text layers is = go (nat_lt 7 (length (pieces 47 text))) refl is
  where
    go : (b : Bool) → nat_lt 7 (length (pieces 47 text)) ≡ b → cond b None (all_layers (pieces 47 text)) ≡ Some layers → AreLayers layers
    go true few e = absurd (cc e)
    go false few e =
        let holds = layers_hold (pieces 47 text) layers e in
        let most = ltb-false 7 (length (pieces 47 text)) few in
        record { some = omega (arith, holds.0, some_pieces text); few = omega (arith, holds.0, most); each = holds.1 }

pub maybe_within : (text : Text) (o : Option (List (List Pair))) → o ≡ layers_read text → IfSome o AreLayers
maybe_within text None is = tt
maybe_within text (Some layers) is = layers_within text layers (sym is)
