-- The first generated messages, one after the other.
use Rattle.std.proofs.Common.{◌≡◌, ◌≤◌, ◌+◌, ◌-◌, ℕ, zero, suc, List, [], ◌∷◌, ◌++◌, Option, refl, sym, ap, ◌∙◌, subst, map, arith, append-nil, append_assoc}
use Rattle.std.specs.List.{concat, range_with_len}
use Rattle.std.proofs.lemmas.List.Folds.{concat-append}
use Rattle.std.proofs.lemmas.List.FromFn.{map-range_with_len_more}
use Rattle.fd_gen.specs.Generated.{generated_octets}
use Rattle.fd_io.specs.Streams.{Takes, TakesFront}
use Rattle.fd_outcome.specs.Outcome.{generated_messages}
use Rattle.fd_outcome.proofs.Endings.{front_more, takes_both, takes_then_front}

-- one message more
pub one_more : (n : ℕ) → generated_messages (n + 1) ≡ generated_messages n ++ generated_octets n
one_more n =
    ap concat (map-range_with_len_more generated_octets 0 n n (omega arith))
    ∙ concat-append (map generated_octets (range_with_len 0 n)) (generated_octets n ∷ [])
    ∙ ap (λ (l : List ℕ). generated_messages n ++ l) (append-nil (generated_octets n))

abbrev Begins : ℕ → ℕ → Type 0
Begins n count = (rest : List ℕ) × (generated_messages count ≡ generated_messages n ++ rest)

begins_by : (n k : ℕ) → Begins n (n + k)
begins_by n zero = ([], ap generated_messages (omega arith) ∙ sym (append-nil (generated_messages n)))
begins_by n (suc k) =
    let ih = begins_by n k in (
      ih.0 ++ generated_octets (n + k),
      ap generated_messages (omega arith) ∙ one_more (n + k) ∙ ap (λ (l : List ℕ). l ++ generated_octets (n + k)) ih.1 ∙ append_assoc (generated_messages n) ih.0 (generated_octets (n + k)),
    )

-- fewer messages are a front of more
pub begins : (n count : ℕ) → n ≤ count → Begins n count
begins n count le = let is : n + (count - n) ≡ count = omega (arith, le) in subst (Begins n) is (begins_by n (count - n))

-- so many were taken, and no more
pub front_of : (a b : Option (List ℕ)) (n count : ℕ) → n ≤ count → Takes a b (generated_messages n) → TakesFront a b (generated_messages count)
front_of a b n count le took = let rest = begins n count le in (generated_messages n, rest.0, rest.1, took)

-- so many were taken, and then a front of the next
pub front_in : (a b c : Option (List ℕ)) (n count : ℕ) → n + 1 ≤ count → Takes a b (generated_messages n) → TakesFront b c (generated_octets n) → TakesFront a c (generated_messages count)
front_in a b c n count le took front =
    let rest = begins (n + 1) count le in
    front_more a c (generated_messages n ++ generated_octets n) rest.0 (generated_messages count) (rest.1 ∙ ap (λ (l : List ℕ). l ++ rest.0) (one_more n))
    (takes_then_front a b c (generated_messages n) (generated_octets n) took front)

-- and then the next
pub next : (a b c : Option (List ℕ)) (n : ℕ) → Takes a b (generated_messages n) → Takes b c (generated_octets n) → Takes a c (generated_messages (n + 1))
next a b c n took more = subst (Takes a c) (sym (one_more n)) (takes_both a b c (generated_messages n) (generated_octets n) took more)
