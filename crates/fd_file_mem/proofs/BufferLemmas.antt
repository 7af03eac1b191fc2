-- Bytes written in place.
use Rattle.std.proofs.Common.{◌≡◌, ◌⊎◌, inl, inr, ℕ, ◌+◌, ◌-◌, ◌<◌, ◌≤◌, List, ◌++◌, length, take, drop, replicate, sym, ◌∙◌, ap, arith, append_assoc}
use Rattle.std.proofs.lemmas.List.{append-nil, take-append-le, take-replicate, take_all, drop_all, length-append, length-replicate}
use Rattle.std.proofs.Math.Seq.{take-append-add}
use Rattle.fd_disk.specs.Images.{overwritten}
use Rattle.fd_disk.proofs.ImageLemmas.{written_within}

either : (m n : ℕ) → (m ≤ n) ⊎ (n < m)
either m n = grind arith

-- the old bytes with zeros up to an end
abbrev pub reaching : List ℕ → ℕ → List ℕ
reaching old end = old ++ replicate (end - length old) 0

reaching_none : (old : List ℕ) (end : ℕ) → end ≤ length old → reaching old end ≡ old
reaching_none old end le = let none : end - length old ≡ 0 = omega (arith, le) in ap (λ (n : ℕ). old ++ replicate n 0) none ∙ append-nil old

take_reaching : (old : List ℕ) (at end : ℕ) → at ≤ end → take at (reaching old end) ≡ take at old ++ replicate (at - length old) 0
take_reaching old at end le = elim (either at (length old)) [
  | inl within ↦
      let none : at - length old ≡ 0 = omega (arith, within) in
      take-append-le at old (replicate (end - length old) 0) within ∙ sym (append-nil (take at old)) ∙ ap (λ (n : ℕ). take at old ++ replicate n 0) (sym none)
  | inr past ↦
      let more : at ≡ length old + (at - length old) = omega (arith, past) in
      ap (λ (n : ℕ). take n (reaching old end)) more
      ∙ take-append-add old (replicate (end - length old) 0) (at - length old)
      ∙ ap (λ (l : List ℕ). old ++ l) (take-replicate (at - length old) (end - length old) 0 (omega (arith, le, past)))
      ∙ ap (λ (l : List ℕ). l ++ replicate (at - length old) 0) (sym (take_all at old (omega (arith, past))))
]

pub in_place : (old : List ℕ) (at : ℕ) (bytes : List ℕ) → take at (reaching old (at + length bytes)) ++ (bytes ++ drop (at + length bytes) (reaching old (at + length bytes))) ≡ overwritten old at bytes
in_place old at bytes = let end = at + length bytes in elim (either end (length old)) [
  | inl within ↦
      ap (λ (l : List ℕ). take at l ++ (bytes ++ drop end l)) (reaching_none old end within) ∙ sym (written_within old at bytes (omega (arith, within)))
  | inr past ↦
      let all : length (reaching old end) ≤ end = omega (arith, past, length-append old (replicate (end - length old) 0), length-replicate {A = ℕ} (end - length old) 0) in
      let front = take at old ++ replicate (at - length old) 0 in
      ap (λ (l : List ℕ). l ++ (bytes ++ drop end (reaching old end))) (take_reaching old at end (omega arith))
      ∙ ap (λ (l : List ℕ). front ++ (bytes ++ l)) (drop_all end (reaching old end) all ∙ sym (drop_all end old (omega (arith, past))))
      ∙ sym (append_assoc front bytes (drop end old))
]
