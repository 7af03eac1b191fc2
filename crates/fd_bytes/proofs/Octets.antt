-- The octets of a front are those of the whole.
use Rattle.std.proofs.Common.{◌≡◌, ℕ, zero, suc, ◌+◌, ◌-◌, ◌≤◌, List, ◌++◌, length, take, drop, refl, sym, ap, ◌∙◌, arith}
use Rattle.std.specs.Prelude.{nat_eq}
use Rattle.std.specs.List.{starts_with}
use Rattle.std.proofs.lemmas.List.{get_or_append_left, take-append-le, take-append-drop, length-take}
use Rattle.byteorder.specs.Endian.{big_from}
use Rattle.fd_bytes.specs.Numbers.{octets}

big_from-append : (n i : ℕ) (xs ys : List ℕ) → i + n ≤ length xs → big_from i n (xs ++ ys) ≡ big_from i n xs
big_from-append zero i xs ys le = refl
big_from-append (suc n) i xs ys le =
    let here = get_or_append_left xs ys 0 i (omega arith) in
    let there = big_from-append n (suc i) xs ys (omega arith) in
    rw (here, there) refl

-- octets of the front xs
pub octets-append : (first last : ℕ) (xs ys : List ℕ) → 1 ≤ first → first ≤ last → last ≤ length xs → octets first last (xs ++ ys) ≡ octets first last xs
octets-append first last xs ys one le long = big_from-append (last + 1 - first) (first - 1) xs ys (omega arith)

pub octets-take : (first last n : ℕ) (xs : List ℕ) → 1 ≤ first → first ≤ last → last ≤ n → n ≤ length xs → octets first last (take n xs) ≡ octets first last xs
octets-take first last n xs one le long fits =
    let len : length (take n xs) ≡ n = omega (arith, length-take n xs) in
    sym (octets-append first last (take n xs) (drop n xs) one le (omega arith)) ∙ ap (octets first last) (take-append-drop n xs)

pub starts_with-append : (xs ys needle : List ℕ) → length needle ≤ length xs → starts_with nat_eq (xs ++ ys) needle ≡ starts_with nat_eq xs needle
starts_with-append xs ys needle le = rw (take-append-le (length needle) xs ys le) refl

pub starts_with-take : (n : ℕ) (xs needle : List ℕ) → length needle ≤ n → n ≤ length xs → starts_with nat_eq (take n xs) needle ≡ starts_with nat_eq xs needle
starts_with-take n xs needle le fits =
    let len : length (take n xs) ≡ n = omega (arith, length-take n xs) in
    sym (starts_with-append (take n xs) (drop n xs) needle (omega arith)) ∙ ap (λ (t : List ℕ). starts_with nat_eq t needle) (take-append-drop n xs)
