-- How time goes on for a file with gathered bytes, by how it goes on for the file below.
use Rattle.std.proofs.Common.{◌⊎◌, inl, inr, ⊎_elim, ◌≤◌, ℕ, List, Option, arith}
use Rattle.fd_disk.specs.declared.file.File.{File}
use Rattle.fd_disk.specs.Moments.{Elapses, MayLeave}

-- from one moment of the file below to another nothing was left but what the told file may leave
pub record Since (before now : ℕ) (past since : ℕ → List ℕ → Type 0) (told : Option File) : Type 0 where
  pub later : before ≤ now
  pub nothing_else : (t : ℕ) (c : List ℕ) → t ≤ before → since t c → past t c ⊎ MayLeave told c
  pub keeps : (t : ℕ) (c : List ℕ) → t ≤ before → past t c → since t c

pub since_now : (m : ℕ) (p : ℕ → List ℕ → Type 0) (told : Option File) → Since m m p p told
since_now m p told = record { later = omega arith; nothing_else = λ t c le left. inl left; keeps = λ t c le left. left }

pub since_call : (m n : ℕ) (p q : ℕ → List ℕ → Type 0) (o told : Option File) → Elapses m n p q o → ((c : List ℕ) → MayLeave o c → MayLeave told c) → Since m n p q told
since_call m n p q o told time below = record {
  later = time.later;
  nothing_else = λ t c le left. ⊎_elim (λ p. inl p) (λ now. inr (below c now)) (time.nothing_else t c le left);
  keeps = time.keeps;
}

pub stays : (m : ℕ) (p : ℕ → List ℕ → Type 0) (o : Option File) → Elapses m m p p o
stays m p o = record { later = omega arith; nothing_else = λ t c le left. inl left; keeps = λ t c le left. left }

-- one call more of the file below, and what the told file might have left may still be left
pub ends : (l m n : ℕ) (p q r : ℕ → List ℕ → Type 0) (o before after : Option File) → Since l m p q before → Elapses m n q r o
    → ((c : List ℕ) → MayLeave o c → MayLeave after c)
    → ((t : ℕ) (c : List ℕ) → t ≤ l → MayLeave before c → r t c ⊎ MayLeave after c)
    → Elapses l n (λ t c. p t c ⊎ MayLeave before c) (λ t c. r t c ⊎ MayLeave after c) after
ends l m n p q r o before after so_far time below kept = record {
  later = omega (arith, so_far.later, time.later);
  nothing_else = λ t c le left.
      ⊎_elim
      (λ since.
      ⊎_elim (λ mid. inl (so_far.nothing_else t c le mid)) (λ now. inr (below c now)) (time.nothing_else t c (omega (arith, le, so_far.later)) since))
      (λ now. inr now) left;
  keeps = λ t c le left.
      ⊎_elim (λ past. inl (time.keeps t c (omega (arith, le, so_far.later)) (so_far.keeps t c le past))) (λ old. kept t c le old) left;
}
