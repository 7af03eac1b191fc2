-- Texts as lines, one after the other.
use Rattle.std.proofs.Common.{◌≡◌, ◌∙◌, ℕ, List, [], ◌∷◌, ◌++◌, Option, refl, sym, ap, subst, string_bytes, append_assoc}
use Rattle.std.specs.Prelude.{String}
use Rattle.std.specs.declared.alloc.Global.{Global}
use Rattle.fd_io.specs.Streams.{Takes}
use Rattle.fd_listing.specs.Lines.{line}
use Rattle.fd_listing.specs.Sinks.{TakesAllBut}
use Rattle.fd_listing.proofs.Taking.{all_taken, one_more}
use Rattle.fd_spelling.specs.Texts.{texts}
use Rattle.fd_inventory.specs.Written.{text_lines}

no_lines : text_lines [] ≡ []
unfolding text_lines
no_lines = refl

next_lines : (t : List ℕ) (ts : List (List ℕ)) → text_lines (t ∷ ts) ≡ line t ++ text_lines ts
unfolding text_lines
next_lines t ts = refl

-- a text was appended to the lines held
pub text_held : (a b : Option (List ℕ)) (text lines more : List ℕ) (all rest : List (String Global)) (s : String Global) → all ≡ s ∷ rest → more ≡ lines ++ line (string_bytes s)
    → TakesAllBut a b text (lines ++ text_lines (texts all)) → TakesAllBut a b text (more ++ text_lines (texts rest))
text_held a b text lines more all rest s is held so_far =
    let next : lines ++ text_lines (texts all) ≡ more ++ text_lines (texts rest) =
    ap (λ (xs : List (String Global)). lines ++ text_lines (texts xs)) is
    ∙ ap (λ (t : List ℕ). lines ++ t) (next_lines (string_bytes s) (texts rest))
    ∙ sym (append_assoc lines (line (string_bytes s)) (text_lines (texts rest)))
    ∙ ap (λ (t : List ℕ). t ++ text_lines (texts rest)) (sym held) in
    subst (λ (r : List ℕ). TakesAllBut a b text r) next so_far

-- all the lines held were written, and none is left
pub texts_written : (a b c : Option (List ℕ)) (text lines : List ℕ) (all : List (String Global)) → all ≡ [] → TakesAllBut a b text (lines ++ text_lines (texts all)) → Takes b c lines → Takes a c text
texts_written a b c text lines all is so_far took =
    let none : text_lines (texts all) ≡ [] = ap (λ (xs : List (String Global)). text_lines (texts xs)) is ∙ no_lines in
    all_taken a c text (one_more a b c text lines [] (subst (λ (r : List ℕ). TakesAllBut a b text (lines ++ r)) none so_far) took)
