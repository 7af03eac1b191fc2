-- A section with template 4.0 has the numbers of that template alone.
use Rattle.std.proofs.Common.{◌≡◌, ℕ, Bool, true, false, cond, eqb, ltb, List, length, None, Result, Ok, Err, refl, sym, ap, ◌∙◌}
use Rattle.fd_templates.specs.declared.product.Product.{Product}
use Rattle.fd_templates.specs.declared.any_product.AnyProduct.{AnyProduct}
use Rattle.fd_templates.specs.declared.fault.TemplateFault.{TemplateFault}
use Rattle.fd_templates.specs.declared.fault.TemplateFault.TheVariants.{Other, BadLength}
use Rattle.fd_templates.specs.Octets.{number, octets_of, signed_octets, signed_or_ones}
use Rattle.fd_templates.specs.Product as product
use Rattle.fd_templates.specs.Product.{product_is, product_of, product_octets, process_octets, time_octets, surface_octets}
use Rattle.fd_templates.specs.AnyProduct.{any_product_is, any_octets, header_octets, is_known, long_enough}

abbrev pub alone : Product → AnyProduct
alone p = record { base = p; ensemble = None; interval = None }

abbrev pub all_alone : Result Product TemplateFault → Result AnyProduct TemplateFault
all_alone (Ok p) = Ok (alone p)
all_alone (Err fault) = Err fault

choice : (short : Bool) (n : ℕ) (p : Product) → cond short (Err (BadLength n)) (Ok (alone p)) ≡ all_alone (cond short (Err (BadLength n)) (Ok p))
choice true n p = refl
choice false n p = refl

pub based_alone : (s : List ℕ) → number 8 9 s ≡ 0 → any_product_is s ≡ all_alone (product_is s)
unfolding any_product_is product_is
based_alone s h =
    ap (λ t. cond (is_known t) (long_enough t s) (Err (Other t))) h ∙ choice (ltb (length s) 34) (length s) (product_of s)
    ∙ sym (ap (λ t. all_alone (cond (eqb t 0) (cond (ltb (length s) 34) (Err (BadLength (length s))) (Ok (product_of s))) (Err (Other t)))) h)

-- a section that is written for these alone is that of template 4.0
pub octets_alone : (p : Product) → any_octets (alone p) ≡ product_octets p
unfolding octets_of signed_octets signed_or_ones any_octets header_octets product_octets product.header_octets process_octets time_octets surface_octets
octets_alone p = refl
