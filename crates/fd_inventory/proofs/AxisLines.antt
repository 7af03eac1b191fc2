-- The lines of axes, piece by piece.
use Rattle.std.proofs.Common.{◌≡◌, ◌∙◌, ℕ, Bool, true, false, cond, List, [], ◌∷◌, ◌++◌, Option, refl, sym, ap, subst, string_bytes, append_assoc, append-nil}
use Rattle.std.specs.Prelude.{String}
use Rattle.std.specs.declared.alloc.Global.{Global}
use Rattle.fd_io.specs.Streams.{Takes}
use Rattle.fd_listing.specs.Sinks.{TakesAllBut}
use Rattle.fd_listing.proofs.Taking.{all_taken, one_more}
use Rattle.fd_outcome.specs.Rows.{more_values, order, put, put_by, values_text}
use Rattle.std.specs.Ordering.{match_ordering}
use Rattle.std.specs.declared.cmp.Ordering.{Ordering}
use Rattle.std.specs.declared.cmp.Ordering.TheVariants.{Less, Equal, Greater}
use Rattle.std.specs.BTreeMap.{insert_entry}
use Rattle.fd_inventory.specs.Axes.{KeptNames, KeptValues, Values, axes_lines, axis_line, names_lines, seen_axes, seen_name, seen_names, seen_values, text_order}

-- a value that is inserted is put among the values
pub values_insert : (k : String Global) (es : List (String Global × Unit {0})) → seen_values (insert_entry text_order es k tt) ≡ put order (string_bytes k) (seen_values es)
values_insert k [] = refl
values_insert k (e ∷ es) = by (text_order k e.0) (values_insert k es)
  where
    by : (o : Ordering) → seen_values (insert_entry text_order es k tt) ≡ put order (string_bytes k) (seen_values es)
        → seen_values (match_ordering o ((k, tt) ∷ e ∷ es) ((e.0, tt) ∷ es) (e ∷ insert_entry text_order es k tt)) ≡ put_by o (string_bytes k) (string_bytes e.0) (seen_values es) (put order (string_bytes k) (seen_values es))
    by Less more = refl
    by Equal more = refl
    by Greater more = ap (λ vs. string_bytes e.0 ∷ vs) more

-- values, the first of them behind a slash or not
abbrev pub values_left : Bool → Values → List ℕ
values_left is_first vs = cond is_first (values_text vs) (more_values vs)

pub value_more : (is_first : Bool) (lines more whole : List ℕ) (e : String Global × Unit {0}) (es all : List (String Global × Unit {0})) → all ≡ e ∷ es → more ≡ lines ++ cond is_first (string_bytes e.0) (47 ∷ string_bytes e.0)
    → lines ++ values_left is_first (seen_values all) ≡ whole → more ++ values_left false (seen_values es) ≡ whole
value_more true lines more whole e es all is pushed so_far =
    ap (λ t. t ++ more_values (seen_values es)) pushed ∙ append_assoc lines (string_bytes e.0) (more_values (seen_values es)) ∙ ap (λ xs. lines ++ values_text (seen_values xs)) (sym is) ∙ so_far
value_more false lines more whole e es all is pushed so_far =
    ap (λ t. t ++ more_values (seen_values es)) pushed ∙ append_assoc lines (47 ∷ string_bytes e.0) (more_values (seen_values es)) ∙ ap (λ xs. lines ++ more_values (seen_values xs)) (sym is) ∙ so_far

pub values_done : (is_first : Bool) (lines whole : List ℕ) (all : List (String Global × Unit {0})) → all ≡ [] → lines ++ values_left is_first (seen_values all) ≡ whole → lines ≡ whole
values_done true lines whole all is so_far = sym (append-nil lines) ∙ ap (λ xs. lines ++ values_text (seen_values xs)) (sym is) ∙ so_far
values_done false lines whole all is so_far = sym (append-nil lines) ∙ ap (λ xs. lines ++ more_values (seen_values xs)) (sym is) ∙ so_far

module _ (dataset index : List ℕ) where
  pub name_more : (lines more whole : List ℕ) (e : String Global × KeptValues) (es all : List (String Global × KeptValues)) → all ≡ e ∷ es → more ≡ lines ++ axis_line dataset index (seen_name e)
      → lines ++ names_lines dataset index (seen_names all) ≡ whole → more ++ names_lines dataset index (seen_names es) ≡ whole
  name_more lines more whole e es all is pushed so_far =
      ap (λ t. t ++ names_lines dataset index (seen_names es)) pushed ∙ append_assoc lines (axis_line dataset index (seen_name e)) (names_lines dataset index (seen_names es))
      ∙ ap (λ xs. lines ++ names_lines dataset index (seen_names xs)) (sym is) ∙ so_far

  pub names_done : (lines whole : List ℕ) (all : List (String Global × KeptValues)) → all ≡ [] → lines ++ names_lines dataset index (seen_names all) ≡ whole → lines ≡ whole
  names_done lines whole all is so_far = sym (append-nil lines) ∙ ap (λ xs. lines ++ names_lines dataset index (seen_names xs)) (sym is) ∙ so_far

-- the lines of an index text were appended to the lines held
pub index_held : (a b : Option (List ℕ)) (text lines more dataset : List ℕ) (e : String Global × KeptNames) (es all : List (String Global × KeptNames)) → all ≡ e ∷ es → more ≡ lines ++ names_lines dataset (string_bytes e.0) (seen_names e.1.entries)
    → TakesAllBut a b text (lines ++ axes_lines dataset (seen_axes all)) → TakesAllBut a b text (more ++ axes_lines dataset (seen_axes es))
index_held a b text lines more dataset e es all is held so_far =
    let own = names_lines dataset (string_bytes e.0) (seen_names e.1.entries) in
    let next : lines ++ axes_lines dataset (seen_axes all) ≡ more ++ axes_lines dataset (seen_axes es) =
    ap (λ xs. lines ++ axes_lines dataset (seen_axes xs)) is
    ∙ sym (append_assoc lines own (axes_lines dataset (seen_axes es)))
    ∙ ap (λ t. t ++ axes_lines dataset (seen_axes es)) (sym held) in
    subst (TakesAllBut a b text) next so_far

-- all the lines held were written, and none is left
pub axes_written : (a b c : Option (List ℕ)) (text lines dataset : List ℕ) (all : List (String Global × KeptNames)) → all ≡ [] → TakesAllBut a b text (lines ++ axes_lines dataset (seen_axes all)) → Takes b c lines → Takes a c text
axes_written a b c text lines dataset all is so_far took =
    all_taken a c text (one_more a b c text lines [] (subst (λ r. TakesAllBut a b text (lines ++ r)) (ap (λ xs. axes_lines dataset (seen_axes xs)) is) so_far) took)
