-- The numbers of a template are there exactly where the section is whole.
use Rattle.std.proofs.Common.{◌≡◌, ℕ, Bool, true, false, cond, eqb, ltb, List, length, Result, Ok, Err, refl}
use Rattle.fd_templates.specs.declared.fault.TemplateFault.{TemplateFault}
use Rattle.fd_templates.specs.declared.fault.TemplateFault.TheVariants.{Other, BadLength}
use Rattle.fd_templates.specs.Octets.{number}
use Rattle.fd_templates.specs.Whole.{whole}
use Rattle.fd_templates.specs.Grid.{grid_is, grid_of}
use Rattle.fd_templates.specs.Product.{product_is, product_of}
use Rattle.fd_templates.specs.Simple.{simple_is, simple_of}

-- these numbers, where there is no fault
abbrev pub where_whole : {A : Type 0} → A → Result (Unit {0}) TemplateFault → Result A TemplateFault
where_whole a (Ok done) = Ok a
where_whole a (Err fault) = Err fault

choice : {A : Type 0} (zero short : Bool) (n t : ℕ) (a : A)
    → cond zero (cond short (Err (BadLength n)) (Ok a)) (Err (Other t)) ≡ where_whole a (cond zero (cond short (Err (BadLength n)) (Ok tt)) (Err (Other t)))
choice true true n t a = refl
choice true false n t a = refl
choice false short n t a = refl

pub whole_grid : (s : List ℕ) → grid_is s ≡ where_whole (grid_of s) (whole 13 72 s)
unfolding whole grid_is
whole_grid s = choice (eqb (number 13 14 s) 0) (ltb (length s) 72) (length s) (number 13 14 s) (grid_of s)

pub whole_product : (s : List ℕ) → product_is s ≡ where_whole (product_of s) (whole 8 34 s)
unfolding whole product_is
whole_product s = choice (eqb (number 8 9 s) 0) (ltb (length s) 34) (length s) (number 8 9 s) (product_of s)

pub whole_simple : (s : List ℕ) → simple_is s ≡ where_whole (simple_of s) (whole 10 21 s)
unfolding whole simple_is
whole_simple s = choice (eqb (number 10 11 s) 0) (ltb (length s) 21) (length s) (number 10 11 s) (simple_of s)
