-- The pairs of a message with template 4.0 by the octets of its sections, which count from 1: what stands in them and what is read of
-- them as an identification and a product are the same pairs and the same refusals.
use Rattle.std.proofs.Common.{◌≡◌, ℕ, ℤ, ◌+◌, Bool, true, false, cond, not, eqb, List, [], ◌∷◌, ◌++◌, length, Option, Some, None, Result, Ok, Err, refl, ap, ◌∙◌}
use Rattle.std.specs.Prelude.{◌&&◌, ◌||◌, ◌==◌, nat_lt, codes, unsigned_abs, if◌then◌else◌}
use Rattle.std.specs.Int.{is_negative}
use Rattle.std.specs.Fmt.{decimal}
use Rattle.fd_bytes.specs.Numbers.{octets, signed, is_missing}
use Rattle.fd_sections.specs.Message.{Sections}
use Rattle.fd_templates.specs.declared.identification.Ident.{Ident}
use Rattle.fd_templates.specs.declared.product.Product.{Product}
use Rattle.fd_templates.specs.declared.fault.TemplateFault.TheVariants.{Other, BadLength}
use Rattle.fd_templates.specs.Octets.{number, signed_number, signed_or_missing}
use Rattle.fd_templates.specs.Identification.{identification_of}
use Rattle.fd_templates.specs.Product.{product_of, product_is}
use Rattle.fd_templates.proofs.Based.{alone, all_alone, based_alone}
use Rattle.std.proofs.lemmas.List.{append-nil}
use Rattle.fd_key.specs.declared.fault.KeyFault.{KeyFault}
use Rattle.fd_key.specs.declared.fault.KeyFault.TheVariants as faults
use Rattle.fd_key.specs.Pairs.{Pair}
use Rattle.fd_spelling.specs.Steps.{step_text}
use Rattle.fd_spelling.specs.Civil.{is_date, is_time, date_text, time_text}
use Rattle.fd_spelling.specs.Canonical.{param_text}
use Rattle.fd_spelling.specs.Levels.{levtype_text, levels_text, scaled_text}
use Rattle.fd_key.specs.Fields.{scaled_if, surface_text, levels_of}
use Rattle.fd_key.specs.Keys.{pair_if, has_date, origin_pairs, field_pairs, pairs_in, pairs_or, discipline_of, message_pairs}

-- the value of a surface, whose type, scale factor and scaled value stand in section 4 from this octet on
abbrev surface_at : ℕ → List ℕ → Option (List ℕ)
surface_at at product =
    if (octets at at product == 255) || is_missing 8 (octets (at + 1) (at + 1) product) || is_missing 32 (octets (at + 2) (at + 5) product)
    then None
    else Some (scaled_text (signed 8 (octets (at + 1) (at + 1) product)) (signed 32 (octets (at + 2) (at + 5) product)))

-- the pairs, where the surfaces have these values
abbrev pairs_with : List ℕ → List ℕ → List ℕ → Option (List ℕ) → List Pair
pairs_with s0 s1 s4 levels =
    (codes "centre", decimal (octets 6 7 s1))
    ∷ (codes "date", date_text (octets 13 14 s1) (octets 15 15 s1) (octets 16 16 s1))
    ∷ (codes "time", time_text (octets 17 17 s1) (octets 18 18 s1) (octets 19 19 s1))
    ∷ (codes "type", decimal (octets 21 21 s1))
    ∷ (codes "param", param_text (octets 7 7 s0) (octets 10 10 s4) (octets 11 11 s4))
    ∷ (codes "levtype", levtype_text (octets 23 23 s4) (octets 29 29 s4))
    ∷ (pair_if (codes "levelist") levels ++ (codes "step", step_text (is_negative (signed 32 (octets 19 22 s4))) (unsigned_abs (signed 32 (octets 19 22 s4))) (octets 18 18 s4)) ∷ [])

abbrev date_at : List ℕ → Bool
date_at s1 = is_date (octets 13 14 s1) (octets 15 15 s1) (octets 16 16 s1) && is_time (octets 17 17 s1) (octets 18 18 s1) (octets 19 19 s1)

abbrev pub pairs_at : Sections → Result (List Pair) KeyFault
pairs_at m =
    if not (octets 8 9 m.product == 0) then Err (faults.Product (octets 8 9 m.product))
    else if nat_lt (length m.product) 34 then Err (faults.ProductLength (length m.product))
    else if not (date_at m.identification) then Err faults.BadDate
    else Ok (pairs_with m.indicator m.identification m.product (levels_text (surface_at 23 m.product) (surface_at 29 m.product)))

surface_choice : (type factor value : Bool) (f v : ℤ) → cond type None (scaled_if (cond factor None (Some f)) (cond value None (Some v))) ≡ cond (type || factor || value) None (Some (scaled_text f v))
surface_choice true factor value f v = refl
surface_choice false true value f v = refl
surface_choice false false true f v = refl
surface_choice false false false f v = refl

first_surface : (s : List ℕ) → surface_text (number 23 23 s) (signed_or_missing 24 24 s) (signed_or_missing 25 28 s) ≡ surface_at 23 s
unfolding number signed_or_missing surface_text
first_surface s = surface_choice (eqb (octets 23 23 s) 255) (is_missing 8 (octets 24 24 s)) (is_missing 32 (octets 25 28 s)) (signed 8 (octets 24 24 s)) (signed 32 (octets 25 28 s))

second_surface : (s : List ℕ) → surface_text (number 29 29 s) (signed_or_missing 30 30 s) (signed_or_missing 31 34 s) ≡ surface_at 29 s
unfolding number signed_or_missing surface_text
second_surface s = surface_choice (eqb (octets 29 29 s) 255) (is_missing 8 (octets 30 30 s)) (is_missing 32 (octets 31 34 s)) (signed 8 (octets 30 30 s)) (signed 32 (octets 31 34 s))

levels_same : (s : List ℕ) → levels_of (product_of s) ≡ levels_text (surface_at 23 s) (surface_at 29 s)
levels_same s = ap (λ first. levels_text first (surface_text (number 29 29 s) (signed_or_missing 30 30 s) (signed_or_missing 31 34 s))) (first_surface s) ∙ ap (levels_text (surface_at 23 s)) (second_surface s)

pairs_same : (s0 s1 s4 : List ℕ) → origin_pairs (identification_of s1) ++ field_pairs (discipline_of s0) (product_of s4) ≡ pairs_with s0 s1 s4 (levels_of (product_of s4))
unfolding number signed_number
pairs_same s0 s1 s4 = refl

-- the pairs of a section with template 4.0
alone_pairs : (discipline : ℕ) (i : Ident) (p : Product) → pairs_in discipline i (alone p) ≡ origin_pairs i ++ field_pairs discipline p
alone_pairs discipline i p = append-nil (origin_pairs i ++ field_pairs discipline p)

choice : (template short : Bool) (n t discipline : ℕ) (i : Ident) (p : Product)
    → pairs_or discipline i (all_alone (cond template (cond short (Err (BadLength n)) (Ok p)) (Err (Other t))))
    ≡ cond (not template) (Err (faults.Product t)) (cond short (Err (faults.ProductLength n)) (cond (not (has_date i)) (Err faults.BadDate) (Ok (origin_pairs i ++ field_pairs discipline p))))
choice false short n t discipline i p = refl
choice true true n t discipline i p = refl
choice true false n t discipline i p =
    ap (λ (ps : List Pair). cond (has_date i) (Ok ps) (Err faults.BadDate)) (alone_pairs discipline i p) ∙ go (has_date i) (Ok (origin_pairs i ++ field_pairs discipline p))
  where
    go : (b : Bool) (pairs : Result (List Pair) KeyFault) → cond b pairs (Err faults.BadDate) ≡ cond (not b) (Err faults.BadDate) pairs
    go true pairs = refl
    go false pairs = refl

-- the pairs of a message with template 4.0
pub by_octets : (m : Sections) → octets 8 9 m.product ≡ 0 → message_pairs m ≡ pairs_at m
unfolding number message_pairs product_is
by_octets m base =
    ap (pairs_or (discipline_of m.indicator) (identification_of m.identification)) (based_alone m.product base)
    ∙ choice (eqb (octets 8 9 m.product) 0) (nat_lt (length m.product) 34) (length m.product) (octets 8 9 m.product) (discipline_of m.indicator) (identification_of m.identification) (product_of m.product)
    ∙ ap (λ (pairs : List Pair). cond (not (eqb (octets 8 9 m.product) 0)) (Err (faults.Product (octets 8 9 m.product))) (cond (nat_lt (length m.product) 34) (Err (faults.ProductLength (length m.product))) (cond (not (date_at m.identification)) (Err faults.BadDate) (Ok pairs))))
    (pairs_same m.indicator m.identification m.product ∙ ap (pairs_with m.indicator m.identification m.product) (levels_same m.product))
