-- The first octet that does not meet a pattern.
use Rattle.std.proofs.Common.{◌≡◌, ℕ, zero, suc, ◌+◌, ◌<◌, ◌==◌, Bool, if◌then◌else◌, List, [], ◌∷◌, refl, sym, ◌∙◌, ap, subst, arith, Option, Some, None, slice_get, unwrap_or, inl, inr}
use Rattle.std.proofs.lemmas.Bool.Decides.{Decides-eqb}
use Rattle.fd_entries.specs.declared.table.NotATable.{NotATable}
use Rattle.fd_entries.specs.Table.{IsFirstAgainst, IsMet, mismatch}
use Rattle.fd_entries.proofs.Inverse.{is_or_not}

-- what is named where the first octet of the pattern isn't met
abbrev named : ℕ → Option ℕ → Option ℕ → NotATable
named at want found = record { at = at; want = unwrap_or want 0; found = found }

here : (at : ℕ) (want : Option ℕ) (ps : List (Option ℕ)) (bytes : List ℕ) (f : NotATable) → (IsMet want (slice_get bytes 0) → ⊥) → f ≡ named at want (slice_get bytes 0) → IsFirstAgainst at (want ∷ ps) bytes f
here at want ps bytes f against is =
    let same : at ≡ at + 0 = omega arith in
    record { place = 0; want = want; wanted = refl; before = λ k w lt g. absurd (omega (arith, lt)); against = against; is = is ∙ ap (λ (n : ℕ). named n want (slice_get bytes 0)) same }

later : (at : ℕ) (want : Option ℕ) (ps : List (Option ℕ)) (x : ℕ) (bytes : List ℕ) (f : NotATable) → IsMet want (Some x) → IsFirstAgainst (at + 1) ps bytes f → IsFirstAgainst at (want ∷ ps) (x ∷ bytes) f
later at want ps x bytes f met r = record {
  place = suc r.place;
  want = r.want;
  wanted = r.wanted;
  before = go;
  against = r.against;
  is = r.is ∙ ap (λ (n : ℕ). named n r.want (slice_get bytes r.place)) (next at r.place);
}
  where
    next : (a p : ℕ) → a + 1 + p ≡ a + suc p
    next a p = omega arith

    go : (k : ℕ) (w : Option ℕ) → k < suc r.place → slice_get (want ∷ ps) k ≡ Some w → IsMet w (slice_get (x ∷ bytes) k)
    go zero w lt g = let same : want ≡ w = cc g in subst (λ (v : Option ℕ). IsMet v (Some x)) same met
    go (suc k) w lt g = r.before k w (omega arith) g

pub first_of : (at : ℕ) (pattern : List (Option ℕ)) (bytes : List ℕ) (f : NotATable) → mismatch at pattern bytes ≡ Some f → IsFirstAgainst at pattern bytes f
first_of at [] bytes f is = absurd (cc is)
first_of at (Some w ∷ ps) (x ∷ bytes) f is = elim (is_or_not (x == w)) [
  | inl same ↦ later at (Some w) ps x bytes f ((Decides-eqb x w).0 same) (first_of (at + 1) ps bytes f (sym (ap (λ (t : Bool). if t then mismatch (at + 1) ps bytes else Some (named at (Some w) (Some x))) same) ∙ is))
  | inr other ↦ here at (Some w) ps (x ∷ bytes) f (λ met. cc (other, (Decides-eqb x w).1 met))
      (let e : Some (named at (Some w) (Some x)) ≡ Some f = sym (ap (λ (t : Bool). if t then mismatch (at + 1) ps bytes else Some (named at (Some w) (Some x))) other) ∙ is in let g : named at (Some w) (Some x) ≡ f = cc e in sym g)
]
first_of at (None ∷ ps) (x ∷ bytes) f is = later at None ps x bytes f tt (first_of (at + 1) ps bytes f is)
first_of at (Some w ∷ ps) [] f is = here at (Some w) ps [] f (λ met. met) (let g : named at (Some w) None ≡ f = cc is in sym g)
first_of at (None ∷ ps) [] f is = here at None ps [] f (λ met. met) (let g : named at None None ≡ f = cc is in sym g)

names_here : (at : ℕ) (o : Option ℕ) (ps : List (Option ℕ)) (bytes : List ℕ) → (IsMet o (slice_get bytes 0) → ⊥) → mismatch at (o ∷ ps) bytes ≡ Some (named at o (slice_get bytes 0))
names_here at (Some w) ps [] against = refl
names_here at None ps [] against = refl
names_here at None ps (x ∷ bytes) against = absurd (against tt)
names_here at (Some w) ps (x ∷ bytes) against = elim (is_or_not (x == w)) [
  | inl same ↦ absurd (against ((Decides-eqb x w).0 same))
  | inr other ↦ ap (λ (t : Bool). if t then mismatch (at + 1) ps bytes else Some (named at (Some w) (Some x))) other
]

passes_here : (at : ℕ) (o : Option ℕ) (ps : List (Option ℕ)) (x : ℕ) (bytes : List ℕ) → IsMet o (Some x) → mismatch at (o ∷ ps) (x ∷ bytes) ≡ mismatch (at + 1) ps bytes
passes_here at None ps x bytes met = refl
passes_here at (Some w) ps x bytes met = ap (λ (t : Bool). if t then mismatch (at + 1) ps bytes else Some (named at (Some w) (Some x))) ((Decides-eqb x w).1 met)

back : (at : ℕ) (pattern : List (Option ℕ)) (bytes : List ℕ) (f : NotATable) (place : ℕ) (want : Option ℕ) → slice_get pattern place ≡ Some want
    → ((k : ℕ) (w : Option ℕ) → k < place → slice_get pattern k ≡ Some w → IsMet w (slice_get bytes k)) → (IsMet want (slice_get bytes place) → ⊥) → f ≡ named (at + place) want (slice_get bytes place) → mismatch at pattern bytes ≡ Some f
back at [] bytes f place want wanted before against is = absurd (cc wanted)
back at (o ∷ ps) bytes f zero want wanted before against is =
    let same : o ≡ want = cc wanted in
    let end : at ≡ at + 0 = omega arith in
    names_here at o ps bytes (λ met. against (subst (λ (v : Option ℕ). IsMet v (slice_get bytes 0)) same met))
    ∙ ap Some (ap (λ (v : Option ℕ). named at v (slice_get bytes 0)) same ∙ ap (λ (n : ℕ). named n want (slice_get bytes 0)) end ∙ sym is)
back at (o ∷ ps) [] f (suc n) want wanted before against is = absurd (before 0 o (omega arith) refl)
back at (o ∷ ps) (x ∷ bytes) f (suc n) want wanted before against is =
    passes_here at o ps x bytes (before 0 o (omega arith) refl)
    ∙ back (at + 1) ps bytes f n want wanted (λ k w lt g. before (suc k) w (omega (arith, lt)) g) against (is ∙ ap (λ (m : ℕ). named m want (slice_get bytes n)) (next at n))
  where
    next : (a p : ℕ) → a + suc p ≡ a + 1 + p
    next a p = omega arith

pub of_first : (at : ℕ) (pattern : List (Option ℕ)) (bytes : List ℕ) (f : NotATable) → IsFirstAgainst at pattern bytes f → mismatch at pattern bytes ≡ Some f
of_first at pattern bytes f r = back at pattern bytes f r.place r.want r.wanted r.before r.against r.is
