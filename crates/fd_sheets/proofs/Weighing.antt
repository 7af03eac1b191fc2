-- Sums of octets by the number of workers.
use Rattle.std.proofs.Common.{◌≡◌, ◌<◌, ◌≤◌, ◌+◌, ◌%◌, ℕ, zero, suc, List, [], ◌∷◌, ◌++◌, drop, length, get_or, ap, refl, ◌∙◌, arith}
use Rattle.std.specs.Prelude.{sum}
use Rattle.std.proofs.Math.Nat.{mod-add-mod}
use Rattle.std.proofs.lemmas.List.{drop_all}
use Rattle.std.proofs.lemmas.List.Sums.{sum_by-append, sum_by-cons}

pub sum_cons : (x : ℕ) (xs : List ℕ) → sum (x ∷ xs) ≡ x + sum xs
sum_cons x xs = sum_by-cons (λ (n : ℕ). n) x xs

drop_one : (xs : List ℕ) (i d : ℕ) → i < length xs → drop i xs ≡ get_or xs i d ∷ drop (suc i) xs
drop_one [] i d lt = absurd (omega arith)
drop_one (x ∷ xs) zero d lt = refl
drop_one (x ∷ xs) (suc i) d lt = drop_one xs i d (omega arith)

-- one octet more is weighed
pub weigh_turn : (workers weight : ℕ) (xs : List ℕ) (i x d : ℕ) → i < length xs → x ≡ get_or xs i d → (weight + x + sum (drop (i + 1) xs)) % workers ≡ (weight + sum (drop i xs)) % workers
weigh_turn workers weight xs i x d lt is =
    let up : i + 1 ≡ suc i = omega arith in
    ap (λ (n : ℕ). (weight + x + sum (drop n xs)) % workers) up
    ∙ ap (λ (n : ℕ). n % workers) (let e = ap sum (drop_one xs i d lt) ∙ sum_cons (get_or xs i d) (drop (suc i) xs) in omega (arith, e, is))

-- all are
pub all_weighed : (workers weight : ℕ) (xs : List ℕ) (i : ℕ) → length xs ≤ i → weight % workers ≡ (weight + sum (drop i xs)) % workers
all_weighed workers weight xs i le = ap (λ (n : ℕ). n % workers) (let none = ap sum (drop_all i xs le) in omega (arith, none))

-- texts that are weighed one after the other
pub weighed_all : (workers d i l m a b c r : ℕ) → a ≡ (0 + d) % workers → b ≡ (a + i) % workers → c ≡ (b + l) % workers → r ≡ (c + m) % workers → r ≡ (d + (i + (l + m))) % workers
weighed_all workers d i l m a b c r ea eb ec er =
    er ∙ ap (λ (n : ℕ). (n + m) % workers) ec ∙ mod-add-mod (b + l) workers m
    ∙ ap (λ (n : ℕ). n % workers) (let e : b + l + m ≡ b + (l + m) = omega arith in e)
    ∙ ap (λ (n : ℕ). (n + (l + m)) % workers) eb ∙ mod-add-mod (a + i) workers (l + m)
    ∙ ap (λ (n : ℕ). n % workers) (let e : a + i + (l + m) ≡ a + (i + (l + m)) = omega arith in e)
    ∙ ap (λ (n : ℕ). (n + (i + (l + m))) % workers) ea ∙ mod-add-mod (0 + d) workers (i + (l + m))
    ∙ ap (λ (n : ℕ). n % workers) (let e : 0 + d + (i + (l + m)) ≡ d + (i + (l + m)) = omega arith in e)

pub sum_key : (index line datum : List ℕ) → sum (index ++ (line ++ datum)) ≡ sum index + (sum line + sum datum)
sum_key index line datum = let a = sum_by-append (λ (n : ℕ). n) index (line ++ datum) in let b = sum_by-append (λ (n : ℕ). n) line datum in omega (arith, a, b)
