-- The line of section 4: the number of its template, and then the numbers of 4.0, of the ensemble and of the interval (FM 92 GRIB).
use Rattle.std.specs.Prelude.{ℕ, ℤ, List, [], ◌∷◌, ◌++◌, length, codes, Option, Some, None, Result, Ok, Err}
use Rattle.std.specs.Fmt.{decimal}
use Rattle.fd_templates.specs.declared.product.Product.{Product}
use Rattle.fd_templates.specs.declared.ensemble.Ensemble.{Ensemble}
use Rattle.fd_templates.specs.declared.interval.Range.{Range}
use Rattle.fd_templates.specs.declared.interval.Interval.{Interval}
use Rattle.fd_templates.specs.declared.any_product.AnyProduct.{AnyProduct}
use Rattle.fd_templates.specs.declared.fault.TemplateFault.{TemplateFault}
use Rattle.fd_templates.specs.declared.fault.TemplateFault.TheVariants.{Other, BadLength}
use Rattle.fd_templates.specs.AnyProduct.{template_in, any_product_is}
use Rattle.fd_listing.specs.Lines.{line}
use Rattle.fd_listing.specs.Numbers.{numbers_text, plain}

unfoldable pub product_numbers : Product → List (Option ℤ)
product_numbers p =
    plain p.category
    ∷ plain p.parameter
    ∷ plain p.generating_process_type
    ∷ plain p.background_process
    ∷ plain p.process_identifier
    ∷ plain p.cutoff_hours
    ∷ plain p.cutoff_minutes
    ∷ plain p.time_unit
    ∷ Some p.forecast_time
    ∷ plain p.first_surface_type
    ∷ p.first_surface_factor
    ∷ p.first_surface_value
    ∷ plain p.second_surface_type
    ∷ p.second_surface_factor
    ∷ p.second_surface_value
    ∷ []

unfoldable pub ensemble_numbers : Ensemble → List (Option ℤ)
ensemble_numbers e = plain e.kind ∷ plain e.number ∷ plain e.size ∷ []

abbrev pub ensemble_text : Option Ensemble → List ℕ
ensemble_text None = []
ensemble_text (Some e) = numbers_text (ensemble_numbers e)

-- the end of the interval, the number of its ranges, and how many values are missing
unfoldable pub end_numbers : Interval → List (Option ℤ)
end_numbers i =
    plain i.end.year
    ∷ plain i.end.month
    ∷ plain i.end.day
    ∷ plain i.end.hour
    ∷ plain i.end.minute
    ∷ plain i.end.second
    ∷ plain (length i.ranges)
    ∷ plain i.missing
    ∷ []

unfoldable pub range_numbers : Range → List (Option ℤ)
range_numbers r =
    plain r.process
    ∷ plain r.increment_kind
    ∷ plain r.unit
    ∷ plain r.length
    ∷ plain r.increment_unit
    ∷ plain r.increment
    ∷ []

unfoldable pub ranges_text : List Range → List ℕ
ranges_text [] = []
ranges_text (r ∷ rs) = numbers_text (range_numbers r) ++ ranges_text rs

abbrev pub interval_text : Option Interval → List ℕ
interval_text None = []
interval_text (Some i) = numbers_text (end_numbers i) ++ ranges_text i.ranges

-- the numbers in the order of their octets
unfoldable pub any_text : AnyProduct → List ℕ
any_text p = numbers_text (product_numbers p.base) ++ ensemble_text p.ensemble ++ interval_text p.interval

-- the numbers of a section with this template, or why they are not read
abbrev pub product_text : ℕ → Result AnyProduct TemplateFault → List ℕ
product_text template (Ok p) = decimal template ++ any_text p
product_text template (Err (Other other)) = decimal other ++ codes " unread"
product_text template (Err (BadLength said)) = decimal template ++ codes " short"

unfoldable pub product_line : List ℕ → List ℕ
product_line product = line (codes "product " ++ product_text (template_in product) (any_product_is product))
