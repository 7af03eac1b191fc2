-- Statistics, one part after another.
use Rattle.std.proofs.Common.{◌≡◌, ◌<◌, ◌≤◌, ◌+◌, ◌^◌, ℕ, Bool, false, cond, List, [], ◌∷◌, ◌++◌, length, Option, Some, None, refl, sym, ap, ◌∙◌, append_assoc, length-append, arith}
use Rattle.std.specs.Prelude.{codes, option_map, Err}
use Rattle.std.specs.Fmt.{decimal}
use Rattle.std.proofs.lemmas.Fmt.{length-decimal-le_wide}
use Rattle.fd_spelling.specs.declared.fault.ValueFault.{ValueFault}
use Rattle.fd_spelling.specs.declared.fault.ValueFault.TheVariants.{BadValue, NoMemory}
use Rattle.fd_spelling.specs.Canonical.{GivesText}
use Rattle.std.proofs.lemmas.List.{append-nil}
use Rattle.fd_spelling.specs.Numerals.{◌>>=◌}
use Rattle.fd_spelling.specs.Stats.{part_text, parts_text, part_spelling, parts_spelled}

-- the parts behind a text
abbrev pub behind : List ℕ → Bool → Option (List (List ℕ)) → Option (List ℕ)
behind out first parts = option_map (λ ts. out ++ parts_text first ts) parts

-- what stands before a part
abbrev pub before_part : Bool → List ℕ
before_part first = cond first [] (codes "+")

-- one part more
pub goes : (out : List ℕ) (first : Bool) (p : List ℕ) (ps : List (List ℕ)) (text : List ℕ) → part_spelling p ≡ Some text
    → behind out first (parts_spelled (p ∷ ps)) ≡ behind (out ++ (before_part first ++ text)) false (parts_spelled ps)
unfolding parts_spelled parts_text
goes out first p ps text h = ap (λ o. behind out first (o >>= λ t. parts_spelled ps >>= λ ts. Some (t ∷ ts))) h ∙ go (parts_spelled ps)
  where
    go : (o : Option (List (List ℕ))) → behind out first (o >>= λ ts. Some (text ∷ ts)) ≡ behind (out ++ (before_part first ++ text)) false o
    go None = refl
    go (Some ts) = ap (λ (t : List ℕ). Some t) (sym (append_assoc out (before_part first ++ text) (parts_text false ts)))

-- the last part
pub last : (out : List ℕ) (first : Bool) (p : List ℕ) (text : List ℕ) → part_spelling p ≡ Some text → behind out first (parts_spelled (p ∷ [])) ≡ Some (out ++ (before_part first ++ text))
unfolding parts_spelled parts_text
last out first p text h = goes out first p [] text h ∙ ap (λ (t : List ℕ). Some t) (append-nil (out ++ (before_part first ++ text)))

-- a part that is none
pub refused : (out : List ℕ) (first : Bool) (p : List ℕ) (ps : List (List ℕ)) → part_spelling p ≡ None → behind out first (parts_spelled (p ∷ ps)) ≡ None
unfolding parts_spelled
refused out first p ps h = ap (λ o. behind out first (o >>= λ t. parts_spelled ps >>= λ ts. Some (t ∷ ts))) h

-- what refuses a part refuses them all
pub refuses_all : (fault : ValueFault) (out : List ℕ) (first : Bool) (p : List ℕ) (ps : List (List ℕ)) → GivesText (Err fault) (part_spelling p) → GivesText (Err fault) (behind out first (parts_spelled (p ∷ ps)))
refuses_all BadValue out first p ps h = refused out first p ps h
refuses_all NoMemory out first p ps h = tt

-- how long a part is
pub short_part : (p : ℕ) (l : List ℕ) → p < 2 ^ 8 → length (part_text p l) ≤ 4 + length l
short_part p l small =
    let three : length (decimal p) ≤ 3 = length-decimal-le_wide 3 p (omega arith) (omega arith) (omega arith) in
    omega (arith, three, length-append (decimal p ++ codes ".") l, length-append (decimal p) (codes "."))
