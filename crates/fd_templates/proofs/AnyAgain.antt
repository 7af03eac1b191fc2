-- A section 4 of any of the templates that was written is read again.
use Rattle.std.proofs.Common.{◌≡◌, ℕ, ◌^◌, ◌<◌, ◌≤◌, ◌+◌, true, cond, ltb, List, [], ◌++◌, drop, length, length-append, Option, Some, None, Ok, Err, refl, ap, ◌∙◌, arith}
use Rattle.std.specs.Prelude.{IfSome}
use Rattle.std.proofs.lemmas.Bool.{cond-false, le-ltb}
use Rattle.fd_bytes.specs.Numbers.{octets, sign_and_magnitude}
use Rattle.fd_sections.specs.Message.{IsSection}
use Rattle.fd_templates.specs.declared.product.Product.{Product}
use Rattle.fd_templates.specs.declared.ensemble.Ensemble.{Ensemble}
use Rattle.fd_templates.specs.declared.interval.Interval.{Interval}
use Rattle.fd_templates.specs.declared.any_product.AnyProduct.{AnyProduct}
use Rattle.fd_templates.specs.declared.fault.TemplateFault.TheVariants.{Other, BadLength}
use Rattle.fd_templates.specs.Octets.{number, signed_number, signed_or_missing, octets_of, signed_octets, signed_or_ones, signed_raw_or_ones}
use Rattle.fd_templates.specs.Product.{product_of, process_octets, time_octets, surface_octets, Fits}
use Rattle.fd_templates.specs.Ensemble.{ensemble_of, member_octets, ensemble_octets}
use Rattle.fd_templates.specs.Interval.{count_of, interval_of, end_octets, ranges_octets, interval_octets}
use Rattle.fd_templates.specs.AnyProduct.{template_in, is_known, least_of, long_enough, any_product_of, any_product_is, template_of, added_octets, header_octets, any_octets}
use Rattle.fd_templates.proofs.Again.{one_again, two_again, four_again, signed_again, missing_again}
use Rattle.fd_templates.specs.Widths.{ProductRanges, EnsembleRanges, IntervalRanges, AnyRanges}
use Rattle.fd_templates.proofs.SectionsAgain.{fits_four, missing_one_fits, missing_four_fits}
use Rattle.fd_templates.proofs.RangesAgain.{count_again, interval_again, interval_long}

-- the octets up to the numbers of 4.0, with this length and this template
abbrev front_octets : ℕ → ℕ → Product → List ℕ
front_octets size template p =
    (octets_of 4 size ++ octets_of 1 4 ++ octets_of 2 p.coordinates ++ octets_of 2 template) ++ process_octets p ++ time_octets p ++ surface_octets p

base_again : (size template : ℕ) (p : Product) (rest : List ℕ) → Fits p → ProductRanges p → product_of (front_octets size template p ++ rest) ≡ p
unfolding number signed_number signed_or_missing octets_of signed_octets signed_or_ones process_octets time_octets surface_octets
base_again size template p rest f r =
    rw (
      two_again p.coordinates r.coordinates,
      one_again p.category r.category,
      one_again p.parameter r.parameter,
      one_again p.generating_process_type r.generating_process_type,
      one_again p.background_process r.background_process,
      one_again p.process_identifier r.process_identifier,
      two_again p.cutoff_hours r.cutoff_hours,
      one_again p.cutoff_minutes r.cutoff_minutes,
      one_again p.time_unit r.time_unit,
      four_again (sign_and_magnitude 32 p.forecast_time) (fits_four p.forecast_time f.forecast_time),
      signed_again 4 p.forecast_time f.forecast_time,
      one_again p.first_surface_type r.first_surface_type,
      one_again (signed_raw_or_ones 1 p.first_surface_factor) (missing_one_fits p.first_surface_factor f.first_surface_factor),
      missing_again 1 p.first_surface_factor f.first_surface_factor,
      four_again (signed_raw_or_ones 4 p.first_surface_value) (missing_four_fits p.first_surface_value f.first_surface_value),
      missing_again 4 p.first_surface_value f.first_surface_value,
      one_again p.second_surface_type r.second_surface_type,
      one_again (signed_raw_or_ones 1 p.second_surface_factor) (missing_one_fits p.second_surface_factor f.second_surface_factor),
      missing_again 1 p.second_surface_factor f.second_surface_factor,
      four_again (signed_raw_or_ones 4 p.second_surface_value) (missing_four_fits p.second_surface_value f.second_surface_value),
      missing_again 4 p.second_surface_value f.second_surface_value,
    ) refl

template_again : (size template : ℕ) (p : Product) (rest : List ℕ) → template < 2 ^ 16 → template_in (front_octets size template p ++ rest) ≡ template
unfolding number octets_of process_octets time_octets surface_octets signed_octets signed_or_ones
template_again size template p rest few = two_again template few

-- what stands behind the numbers of 4.0
behind_front : (size template : ℕ) (p : Product) (rest : List ℕ) → drop 34 (front_octets size template p ++ rest) ≡ rest
unfolding octets_of process_octets time_octets surface_octets signed_octets signed_or_ones
behind_front size template p rest = refl

front_long : (size template : ℕ) (p : Product) → length (front_octets size template p) ≡ 34
unfolding octets_of process_octets time_octets surface_octets signed_octets signed_or_ones
front_long size template p = refl

behind_member : (size template : ℕ) (p : Product) (e : Ensemble) (rest : List ℕ) → drop 37 (front_octets size template p ++ (member_octets e ++ rest)) ≡ rest
unfolding octets_of process_octets time_octets surface_octets signed_octets signed_or_ones member_octets
behind_member size template p e rest = refl

member_again : (size template : ℕ) (p : Product) (e : Ensemble) (rest : List ℕ) → EnsembleRanges e → ensemble_of (front_octets size template p ++ (member_octets e ++ rest)) ≡ e
unfolding number octets_of process_octets time_octets surface_octets signed_octets signed_or_ones member_octets
member_again size template p e rest f = rw (one_again e.kind f.kind, one_again e.number f.number, one_again e.size f.size) refl

pub member_long : (e : Ensemble) → length (member_octets e) ≡ 3
unfolding octets_of member_octets
member_long e = refl

-- a section that is long enough, and has these numbers
long_again : (template : ℕ) (s : List ℕ) (p : AnyProduct) → template_in s ≡ template → is_known template ≡ true → least_of template s ≤ length s → any_product_of template s ≡ p → any_product_is s ≡ Ok p
unfolding any_product_is
long_again template s p is known long numbers =
    ap (λ t. cond (is_known t) (long_enough t s) (Err (Other t))) is
    ∙ ap (λ b. cond b (long_enough template s) (Err (Other template))) known
    ∙ cond-false (ltb (length s) (least_of template s)) (Err (BadLength (length s))) (Ok (any_product_of template s)) (le-ltb (length s) (least_of template s) long)
    ∙ ap (λ (q : AnyProduct). Ok q) numbers

abbrev made : Product → Option Ensemble → Option Interval → AnyProduct
made p e i = record { base = p; ensemble = e; interval = i }

-- each of the four templates
none_again : (size : ℕ) (p : Product) → Fits p → ProductRanges p → any_product_is (front_octets size 0 p ++ []) ≡ Ok (made p None None)
none_again size p f r =
    long_again 0 (front_octets size 0 p ++ []) (made p None None) (template_again size 0 p [] (omega arith)) refl
    (omega (arith, length-append (front_octets size 0 p) [], front_long size 0 p)) (ap (λ (q : Product). made q None None) (base_again size 0 p [] f r))

ensemble_again : (size : ℕ) (p : Product) (e : Ensemble) → Fits p → ProductRanges p → EnsembleRanges e → any_product_is (front_octets size 1 p ++ (member_octets e ++ [])) ≡ Ok (made p (Some e) None)
ensemble_again size p e f r g =
    let rest : List ℕ = member_octets e ++ [] in
    let s : List ℕ = front_octets size 1 p ++ rest in
    long_again 1 s (made p (Some e) None) (template_again size 1 p rest (omega arith)) refl
    (omega (arith, length-append (front_octets size 1 p) rest, front_long size 1 p, length-append (member_octets e) [], member_long e))
    (ap (λ (q : Product). made q (Some (ensemble_of s)) None) (base_again size 1 p rest f r) ∙ ap (λ (x : Ensemble). made p (Some x) None) (member_again size 1 p e [] g))

interval_alone : (size : ℕ) (p : Product) (i : Interval) → Fits p → ProductRanges p → IntervalRanges i → any_product_is (front_octets size 8 p ++ (end_octets i ++ ranges_octets i.ranges)) ≡ Ok (made p None (Some i))
interval_alone size p i f r g =
    let rest : List ℕ = end_octets i ++ ranges_octets i.ranges in
    let s : List ℕ = front_octets size 8 p ++ rest in
    let tail : drop 34 s ≡ rest = behind_front size 8 p rest in
    let count : count_of (drop 34 s) ≡ length i.ranges = ap count_of tail ∙ count_again i g in
    long_again 8 s (made p None (Some i)) (template_again size 8 p rest (omega arith)) refl
    (omega (arith, length-append (front_octets size 8 p) rest, front_long size 8 p, interval_long i, count))
    (ap (λ (q : Product). made q None (Some (interval_of (drop 34 s)))) (base_again size 8 p rest f r)
    ∙ ap (λ (t : List ℕ). made p None (Some (interval_of t))) tail ∙ ap (λ (x : Interval). made p None (Some x)) (interval_again i g))

both_again : (size : ℕ) (p : Product) (e : Ensemble) (i : Interval) → Fits p → ProductRanges p → EnsembleRanges e → IntervalRanges i
    → any_product_is (front_octets size 11 p ++ (member_octets e ++ (end_octets i ++ ranges_octets i.ranges))) ≡ Ok (made p (Some e) (Some i))
both_again size p e i f r g h =
    let last : List ℕ = end_octets i ++ ranges_octets i.ranges in
    let rest : List ℕ = member_octets e ++ last in
    let s : List ℕ = front_octets size 11 p ++ rest in
    let tail : drop 37 s ≡ last = behind_member size 11 p e last in
    let count : count_of (drop 37 s) ≡ length i.ranges = ap count_of tail ∙ count_again i h in
    long_again 11 s (made p (Some e) (Some i)) (template_again size 11 p rest (omega arith)) refl
    (omega (arith, length-append (front_octets size 11 p) rest, front_long size 11 p, length-append (member_octets e) last, member_long e, interval_long i, count))
    (ap (λ (q : Product). made q (Some (ensemble_of s)) (Some (interval_of (drop 37 s)))) (base_again size 11 p rest f r)
    ∙ ap (λ (x : Ensemble). made p (Some x) (Some (interval_of (drop 37 s)))) (member_again size 11 p e last g)
    ∙ ap (λ (t : List ℕ). made p (Some e) (Some (interval_of t))) tail ∙ ap (λ (x : Interval). made p (Some e) (Some x)) (interval_again i h))

cases : (size : ℕ) (p : Product) (e : Option Ensemble) (i : Option Interval) → Fits p → ProductRanges p → IfSome e EnsembleRanges → IfSome i IntervalRanges
    → any_product_is (front_octets size (template_of (made p e i)) p ++ added_octets (made p e i)) ≡ Ok (made p e i)
cases size p None None f r g h = none_again size p f r
cases size p (Some e) None f r g h = ensemble_again size p e f r g
cases size p None (Some i) f r g h = interval_alone size p i f r h
cases size p (Some e) (Some i) f r g h = both_again size p e i f r g h

pub any_again : (p : AnyProduct) → Fits p.base → AnyRanges p → any_product_is (any_octets p) ≡ Ok p
unfolding any_octets header_octets
any_again p f r = cases (34 + length (added_octets p)) p.base p.ensemble p.interval f r.base r.ensemble r.interval

-- ---- it is a section

size_again : (size template : ℕ) (p : Product) (rest : List ℕ) → size < 2 ^ 32 → octets 1 4 (front_octets size template p ++ rest) ≡ size
unfolding octets_of process_octets time_octets surface_octets signed_octets signed_or_ones
size_again size template p rest few = four_again size few

number_again : (size template : ℕ) (p : Product) (rest : List ℕ) → octets 5 5 (front_octets size template p ++ rest) ≡ 4
unfolding octets_of process_octets time_octets surface_octets signed_octets signed_or_ones
number_again size template p rest = refl

pub added_few : (p : AnyProduct) → AnyRanges p → length (added_octets p) ≤ 3075
added_few p r = go p.ensemble p.interval r.interval
  where
    ensembles : (e : Option Ensemble) → length (ensemble_octets e) ≤ 3
    ensembles None = omega arith
    ensembles (Some e) = omega (arith, member_long e)

    intervals : (i : Option Interval) → IfSome i IntervalRanges → length (interval_octets i) ≤ 3072
    intervals None h = omega arith
    intervals (Some i) h = let few : length i.ranges ≤ 255 = h.few in omega (arith, interval_long i, few)

    go : (e : Option Ensemble) (i : Option Interval) → IfSome i IntervalRanges → length (ensemble_octets e ++ interval_octets i) ≤ 3075
    go e i h = omega (arith, length-append (ensemble_octets e) (interval_octets i), ensembles e, intervals i h)

pub any_section : (p : AnyProduct) → AnyRanges p → IsSection 4 (34 + length (added_octets p)) (any_octets p)
unfolding any_octets header_octets
any_section p r =
    let size : ℕ = 34 + length (added_octets p) in
    let front : List ℕ = front_octets size (template_of p) p.base in
    let long : length (front ++ added_octets p) ≡ length front + length (added_octets p) = length-append front (added_octets p) in
    let few : length (added_octets p) ≤ 3075 = added_few p r in
    record {
      size = size_again size (template_of p) p.base (added_octets p) (omega arith) ∙ omega (arith, long, front_long size (template_of p) p.base);
      number_is = number_again size (template_of p) p.base (added_octets p);
      long = omega (arith, long, front_long size (template_of p) p.base);
      header = omega (arith, long, front_long size (template_of p) p.base);
    }
