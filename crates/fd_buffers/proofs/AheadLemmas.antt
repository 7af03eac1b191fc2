-- What was read ahead gives what the file has.
use Rattle.std.proofs.Common.{◌≡◌, ℕ, ◌+◌, ◌-◌, ◌≤◌, List, ◌++◌, length, take, drop, Option, Some, None, Ok, sym, ◌∙◌, ap, arith}
use Rattle.std.specs.Option.{ForSome}
use Rattle.std.proofs.lemmas.List.{drop-take, take-take, drop-drop}
use Rattle.fd_disk.specs.Reading.{ReadsBytes}

-- a piece of the front of a list is that piece of the list
piece : (l : List ℕ) (filled k n : ℕ) → k + n ≤ filled → take n (drop k (take filled l)) ≡ take n (drop k l)
piece l filled k n le =
    let whole : k + (filled - k) ≡ filled = omega (arith, le) in
    ap (λ (m : ℕ). take n (drop k (take m l))) (sym whole)
    ∙ ap (take n) (drop-take k (filled - k) l)
    ∙ take-take n (filled - k) (drop k l) (omega (arith, le))

-- a read that is answered out of what was read ahead
pub gives : (E : Type 0) (o : Option (List ℕ)) (len at start filled : ℕ) (ahead old new : List ℕ) (n : ℕ)
    → ((b : List ℕ) → o ≡ Some b → length b ≡ len)
    → ForSome o (λ b. take filled ahead ≡ take filled (drop start b))
    → start ≤ at → (at - start) + length old ≤ filled → filled ≤ len - start → n ≡ length old
    → new ≡ take n (drop (at - start) (take filled ahead)) ++ drop n old
    → ReadsBytes {E = E} o at old new (Ok n)
gives E None len at start filled ahead old new n told right le within short count bytes = omega (arith, count)
gives E (Some b) len at start filled ahead old new n told right le within short count bytes =
    let k = at - start in
    let long : length b ≡ len = told b (λ i. Some b) in
    let there : start + k ≡ at = omega (arith, le) in
    let stands : take n (drop k (take filled ahead)) ≡ take n (drop at b) =
    ap (λ (l : List ℕ). take n (drop k l)) (right b (λ i. Some b))
    ∙ piece (drop start b) filled k n (omega (arith, within, count))
    ∙ ap (take n) (drop-drop k start b)
    ∙ ap (λ (p : ℕ). take n (drop p b)) there in
    (omega (arith, count, long, le, within, short), bytes ∙ ap (λ (l : List ℕ). l ++ drop n old) stands)
