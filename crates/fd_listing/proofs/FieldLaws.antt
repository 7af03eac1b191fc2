-- Reading a field takes no memory.
use Rattle.std.specs.Prelude.{◌-◌, ◌*◌, ◌^◌, ◌==◌, ◌||◌, not, nat_lt, nat_le, max}
use Rattle.fd_bytes.specs.Numbers.{octets}
use Rattle.fd_packing.specs.Value.{first_addend, second_addend, digits}
use Rattle.fd_packing.specs.Reference.{reference_of}
use Rattle.std.proofs.Common.{◌≡◌, ◌+◌, length, drop, ℕ, Bool, true, false, cond, List, Option, Some, None, Result, Ok, Err, subst}
use Rattle.fd_sections.specs.Message.{Sections}
use Rattle.fd_templates.specs.declared.simple.Simple.{Simple}
use Rattle.fd_templates.specs.declared.fault.TemplateFault.{TemplateFault}
use Rattle.fd_templates.specs.declared.fault.TemplateFault.TheVariants as template
use Rattle.fd_packing.specs.declared.ieee.Reference.{Reference}
use Rattle.fd_packing.specs.declared.fault.FieldFault.{FieldFault}
use Rattle.fd_packing.specs.declared.fault.FieldFault.TheVariants as fault
use Rattle.fd_packing.specs.Field.{field_of, template_of, scaling_of, finite, map_of, octets_at, octets_for, ◌>>=◌}
use Rattle.fd_packing.specs.Packed.{Packed}

-- the fault, if there is one, is no want of memory
abbrev IsOther : {A : Type 0} → Result A FieldFault → Type 0
IsOther (Ok x) = Unit {0}
IsOther (Err (fault.Template n)) = Unit {0}
IsOther (Err (fault.BadLength n)) = Unit {0}
IsOther (Err (fault.Bits n)) = Unit {0}
IsOther (Err (fault.ReferenceNotFinite n)) = Unit {0}
IsOther (Err (fault.TooWide n)) = Unit {0}
IsOther (Err (fault.BitMap n)) = Unit {0}
IsOther (Err (fault.MapShort n m)) = Unit {0}
IsOther (Err (fault.Count n m)) = Unit {0}
IsOther (Err (fault.PackedShort n m)) = Unit {0}
IsOther (Err fault.NoMemory) = ⊥

record NeedsNoMemory {A : Type 0} (r : Result A FieldFault) : Type 0 where
  other : IsOther r

yes : {A : Type 0} (r : Result A FieldFault) → IsOther r → NeedsNoMemory r
yes r p = record { other = p }

either : {A : Type 0} (b : Bool) (x y : Result A FieldFault) → NeedsNoMemory x → NeedsNoMemory y → NeedsNoMemory (cond b x y)
either true x y p q = p
either false x y p q = q

then : {A B : Type 0} (r : Result A FieldFault) (f : A → Result B FieldFault) → NeedsNoMemory r → ((x : A) → NeedsNoMemory (f x)) → NeedsNoMemory (r >>= f)
then (Ok x) f p q = q x
then (Err (fault.Template n)) f p q = record { other = tt }
then (Err (fault.BadLength n)) f p q = record { other = tt }
then (Err (fault.Bits n)) f p q = record { other = tt }
then (Err (fault.ReferenceNotFinite n)) f p q = record { other = tt }
then (Err (fault.TooWide n)) f p q = record { other = tt }
then (Err (fault.BitMap n)) f p q = record { other = tt }
then (Err (fault.MapShort n m)) f p q = record { other = tt }
then (Err (fault.Count n m)) f p q = record { other = tt }
then (Err (fault.PackedShort n m)) f p q = record { other = tt }
then (Err fault.NoMemory) f p q = absurd p.other

templates : (r : Result Simple TemplateFault) → NeedsNoMemory (template_of r)
templates (Ok p) = record { other = tt }
templates (Err (template.Other n)) = record { other = tt }
templates (Err (template.BadLength n)) = record { other = tt }

finites : (p : Simple) (r : Option Reference) → NeedsNoMemory (finite p r)
finites p None = record { other = tt }
finites p (Some r) = either (nat_le (2 ^ 127) (first_addend r p.binary_scale p.bits + second_addend r p.binary_scale p.bits)) (Err (fault.TooWide (max (digits (first_addend r p.binary_scale p.bits)) (digits (second_addend r p.binary_scale p.bits))))) (Ok r) (record { other = tt }) (record { other = tt })

scalings : (p : Simple) → NeedsNoMemory (scaling_of p)
unfolding scaling_of
scalings p = either (nat_lt 64 p.bits) (Err (fault.Bits p.bits)) (finite p (reference_of p.reference)) (record { other = tt }) (finites p (reference_of p.reference))

long_enough : (section : List ℕ) (need : ℕ) → NeedsNoMemory (cond (nat_lt (length section) need) (Err (fault.MapShort need (length section))) (Ok (Some (drop 6 section))))
long_enough section need = either (nat_lt (length section) need) (Err (fault.MapShort need (length section))) (Ok (Some (drop 6 section))) (record { other = tt }) (record { other = tt })

maps : (section : List ℕ) (points : ℕ) → NeedsNoMemory (map_of section points)
unfolding map_of
maps section points =
    let rest = cond (nat_lt (length section) (6 + octets_for points)) (Err (fault.MapShort (6 + octets_for points) (length section))) (Ok (Some (drop 6 section))) in
    let inner = cond (not (octets 6 6 section == 0)) (Err (fault.BitMap (octets 6 6 section))) rest in
    either (octets 6 6 section == 255) (Ok None) inner (record { other = tt }) (either (not (octets 6 6 section == 0)) (Err (fault.BitMap (octets 6 6 section))) rest (record { other = tt }) (long_enough section (6 + octets_for points)))

packed_octets : (section : List ℕ) (coded w there : ℕ) → NeedsNoMemory (octets_at section coded w there)
unfolding octets_at
packed_octets section coded w there =
    let long = nat_lt (length section - 5) (octets_for (coded * w)) in
    let short : Result (List ℕ) FieldFault = Err (fault.PackedShort (octets_for (coded * w)) (length section - 5)) in
    let rest : Result (List ℕ) FieldFault = Ok (drop 5 section) in
    either (not (w == 0 || coded == there)) (Err (fault.Count coded there)) (cond long short rest) (record { other = tt }) (either long short rest (record { other = tt }) (record { other = tt }))

fields : (s : Sections) → NeedsNoMemory (field_of s)
unfolding field_of
fields s = then _ _ (templates _) (λ p. then _ _ (scalings p) (λ r. then _ _ (maps _ _) (λ map. then _ _ (packed_octets _ _ _ _) (λ o. record { other = tt }))))

pub no_want : (s : Sections) → field_of s ≡ Err fault.NoMemory → ⊥
no_want s e =
    let n : NeedsNoMemory {A = Packed} (Err fault.NoMemory) = subst (λ (r : Result Packed FieldFault). NeedsNoMemory r) e (fields s) in n.other
