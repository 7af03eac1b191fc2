-- Texts that a sink takes piece by piece.
use Rattle.std.proofs.Common.{◌≡◌, ◌∙◌, subst, ◌+◌, ℕ, List, [], ◌∷◌, ◌++◌, Option, Some, None, refl, sym, ap, append_assoc, append-nil}
use Rattle.fd_io.specs.Streams.{Takes, TakesFront}
use Rattle.fd_scaled.specs.declared.Scaled.{Scaled}
use Rattle.fd_listing.specs.Sinks.{TakesAllBut}
use Rattle.fd_listing.specs.Values.{lines_from, value_line, value_text}

pub takes_nothing : (a : Option (List ℕ)) → Takes a a []
takes_nothing None = tt
takes_nothing (Some x) = sym (append-nil x)

pub takes_more : (a b c : Option (List ℕ)) (x y : List ℕ) → Takes a b x → Takes b c y → Takes a c (x ++ y)
takes_more None b c x y p q = tt
takes_more (Some s) None c x y p q = absurd p
takes_more (Some s) (Some t) None x y p q = absurd q
takes_more (Some s) (Some t) (Some u) x y p q = q ∙ ap (λ (z : List ℕ). z ++ y) p ∙ append_assoc s x y

pub front_of_nothing : (a : Option (List ℕ)) (text : List ℕ) → TakesFront a a text
front_of_nothing a text = ([], text, refl, takes_nothing a)

pub none_yet : (a : Option (List ℕ)) (text : List ℕ) → TakesAllBut a a text text
none_yet a text = record { front = []; split = refl; took = takes_nothing a }

pub one_more : (a b c : Option (List ℕ)) (text piece rest : List ℕ) → TakesAllBut a b text (piece ++ rest) → Takes b c piece → TakesAllBut a c text rest
one_more a b c text piece rest so_far took = record {
  front = so_far.front ++ piece;
  split = so_far.split ∙ sym (append_assoc so_far.front piece rest);
  took = takes_more a b c so_far.front piece so_far.took took;
}

pub all_taken : (a b : Option (List ℕ)) (text : List ℕ) → TakesAllBut a b text [] → Takes a b text
all_taken a b text so_far = rw (so_far.split, append-nil so_far.front) so_far.took

pub stopped : (a b : Option (List ℕ)) (text rest : List ℕ) → TakesAllBut a b text rest → TakesFront a b text
stopped a b text rest so_far = (so_far.front, rest, so_far.split, so_far.took)

pub broken : (a b c : Option (List ℕ)) (text piece rest : List ℕ) → TakesAllBut a b text (piece ++ rest) → TakesFront b c piece → TakesFront a c text
broken a b c text piece rest so_far front = (
  so_far.front ++ front.0,
  front.1 ++ rest,
  so_far.split ∙ ap (λ (z : List ℕ). so_far.front ++ (z ++ rest)) front.2 ∙ ap (λ (z : List ℕ). so_far.front ++ z) (append_assoc front.0 front.1 rest) ∙ sym (append_assoc so_far.front front.0 (front.1 ++ rest)),
  takes_more a b c so_far.front front.0 so_far.took front.3,
)

-- ---- the lines of the points

pub next_line : (number : ℕ) (decimals : Option ℕ) (point : ℕ) (value : Option Scaled) (values : List (Option Scaled)) → lines_from number decimals point (value ∷ values) ≡ value_line number point (value_text decimals value) ++ lines_from number decimals (point + 1) values
unfolding lines_from
next_line number decimals point value values = refl

pub no_line : (number : ℕ) (decimals : Option ℕ) (point : ℕ) → lines_from number decimals point [] ≡ []
unfolding lines_from
no_line number decimals point = refl

-- the line of a point was appended to the lines held
pub line_held : (a b : Option (List ℕ)) (text lines more : List ℕ) (number : ℕ) (decimals : Option ℕ) (point : ℕ) (value : Option Scaled) (values all : List (Option Scaled)) → all ≡ value ∷ values → more ≡ lines ++ value_line number point (value_text decimals value) → TakesAllBut a b text (lines ++ lines_from number decimals point all) → TakesAllBut a b text (more ++ lines_from number decimals (point + 1) values)
line_held a b text lines more number decimals point value values all is held so_far =
    let line = value_line number point (value_text decimals value) in
    let others = lines_from number decimals (point + 1) values in
    let next : lines ++ lines_from number decimals point all ≡ more ++ others =
    ap (λ (vs : List (Option Scaled)). lines ++ lines_from number decimals point vs) is
    ∙ ap (λ (t : List ℕ). lines ++ t) (next_line number decimals point value values)
    ∙ sym (append_assoc lines line others)
    ∙ ap (λ (t : List ℕ). t ++ others) (sym held) in
    subst (λ (r : List ℕ). TakesAllBut a b text r) next so_far

-- of the lines held all but some were written
pub held_written : (a b c : Option (List ℕ)) (text lines kept rest : List ℕ) → TakesAllBut a b text (lines ++ rest) → TakesAllBut b c lines kept → TakesAllBut a c text (kept ++ rest)
held_written a b c text lines kept rest so_far wrote =
    one_more a b c text wrote.front (kept ++ rest) (subst (λ (r : List ℕ). TakesAllBut a b text r) (ap (λ (t : List ℕ). t ++ rest) wrote.split ∙ append_assoc wrote.front kept rest) so_far) wrote.took

-- all the lines held were written, and none is left
pub last_written : (a b c : Option (List ℕ)) (text lines : List ℕ) (number : ℕ) (decimals : Option ℕ) (point : ℕ) (all : List (Option Scaled)) → all ≡ [] → TakesAllBut a b text (lines ++ lines_from number decimals point all) → Takes b c lines → Takes a c text
last_written a b c text lines number decimals point all is so_far took =
    let none : lines_from number decimals point all ≡ [] = ap (λ (vs : List (Option Scaled)). lines_from number decimals point vs) is ∙ no_line number decimals point in
    all_taken a c text (one_more a b c text lines [] (subst (λ (r : List ℕ). TakesAllBut a b text (lines ++ r)) none so_far) took)

-- nothing is held yet
pub none_held : (a : Option (List ℕ)) (text lines : List ℕ) → lines ≡ [] → TakesAllBut a a text (lines ++ text)
none_held a text lines is = subst (λ (r : List ℕ). TakesAllBut a a text (r ++ text)) (sym is) (none_yet a text)
