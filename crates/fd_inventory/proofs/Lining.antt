-- The lines of rows, one after the other.
use Rattle.std.proofs.Common.{◌≡◌, ◌∙◌, ℕ, List, [], ◌∷◌, ◌++◌, Option, refl, sym, ap, subst, map, append_assoc}
use Rattle.fd_io.specs.Streams.{Takes}
use Rattle.fd_listing.specs.Sinks.{TakesAllBut}
use Rattle.fd_listing.proofs.Taking.{all_taken, one_more}
use Rattle.fd_entries.specs.declared.batch.Pair.{Pair}
use Rattle.fd_request.specs.Expansion.{Keyword}
use Rattle.fd_inventory.specs.Shown.{AreRows, Kept, Shown, kept, shown}
use Rattle.fd_inventory.specs.Written.{shown_line, shown_lines}
use Rattle.fd_outcome.specs.Rows.{Row, list_text, row_lines, rows}

pub no_lines : (dataset : List ℕ) → shown_lines dataset [] ≡ []
unfolding shown_lines
no_lines dataset = refl

next_lines : (dataset : List ℕ) (x : Shown) (xs : List Shown) → shown_lines dataset (x ∷ xs) ≡ shown_line dataset x ++ shown_lines dataset xs
unfolding shown_lines
next_lines dataset x xs = refl

-- a row's line was appended to the lines held
pub row_held : (a b : Option (List ℕ)) (text lines more dataset : List ℕ) (e : Kept) (es all : List Kept) → all ≡ e ∷ es → more ≡ lines ++ shown_line dataset (kept e)
    → TakesAllBut a b text (lines ++ shown_lines dataset (map kept all)) → TakesAllBut a b text (more ++ shown_lines dataset (map kept es))
row_held a b text lines more dataset e es all is held so_far =
    let next : lines ++ shown_lines dataset (map kept all) ≡ more ++ shown_lines dataset (map kept es) =
    ap (λ (xs : List Kept). lines ++ shown_lines dataset (map kept xs)) is
    ∙ ap (λ (t : List ℕ). lines ++ t) (next_lines dataset (kept e) (map kept es))
    ∙ sym (append_assoc lines (shown_line dataset (kept e)) (shown_lines dataset (map kept es)))
    ∙ ap (λ (t : List ℕ). t ++ shown_lines dataset (map kept es)) (sym held) in
    subst (λ (r : List ℕ). TakesAllBut a b text r) next so_far

-- all the lines held were written, and none is left
pub rows_written : (a b c : Option (List ℕ)) (text lines dataset : List ℕ) (all : List Kept) → all ≡ [] → TakesAllBut a b text (lines ++ shown_lines dataset (map kept all)) → Takes b c lines → Takes a c text
rows_written a b c text lines dataset all is so_far took =
    let none : shown_lines dataset (map kept all) ≡ [] = ap (λ (xs : List Kept). shown_lines dataset (map kept xs)) is ∙ no_lines dataset in
    all_taken a c text (one_more a b c text lines [] (subst (λ (r : List ℕ). TakesAllBut a b text (lines ++ r)) none so_far) took)

lines_of_rows : (dataset : List ℕ) (rs : List Row) → shown_lines dataset (map shown rs) ≡ row_lines dataset rs
unfolding shown_lines
lines_of_rows dataset [] = refl
lines_of_rows dataset (r ∷ rs) = ap (λ t. shown_line dataset (shown r) ++ t) (lines_of_rows dataset rs)

-- the lines of a map's entries are those of `list`
pub are_list : (keywords : List Keyword) (dataset : List ℕ) (t : List (List Pair)) (es : List Kept) → AreRows es (rows dataset keywords t) → shown_lines dataset (map kept es) ≡ list_text keywords dataset t
unfolding list_text
are_list keywords dataset t es are = ap (shown_lines dataset) are.same ∙ lines_of_rows dataset (rows dataset keywords t)
