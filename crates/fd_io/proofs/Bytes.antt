-- What goes over in several steps.
use Rattle.std.proofs.Common.{◌≡◌, ℕ, ◌+◌, ◌≤◌, List, [], ◌++◌, length, take, drop, Option, Some, None, sym, ap, ◌∙◌, append_assoc, arith, length-drop, length-take}
use Rattle.std.proofs.lemmas.List.{take_at, take-append-drop, drop-drop, append-nil}
use Rattle.fd_io.specs.Streams.{Takes}

-- a front that was copied to the start of a buffer, and what is left behind it
pub read_front : (at n : ℕ) (bytes front into : List ℕ) → n + at ≤ length bytes → front ≡ take n (drop at bytes) → drop at bytes ≡ take n (front ++ drop n into) ++ drop (at + n) bytes
read_front at n bytes front into le e =
    let len : length front ≡ n = ap length e ∙ omega (arith, length-take n (drop at bytes), length-drop at bytes) in
    rw (take_at front (drop n into) n len, e, ← drop-drop) (sym (take-append-drop n (drop at bytes)))

pub Takes-none : (a : Option (List ℕ)) → Takes a a []
Takes-none None = tt
Takes-none (Some xs) = sym (append-nil xs)

pub Takes-more : (a b c : Option (List ℕ)) (x y : List ℕ) → Takes a b x → Takes b c y → Takes a c (x ++ y)
Takes-more None b c x y p q = tt
Takes-more (Some a) None c x y p q = absurd p
Takes-more (Some a) (Some b) None x y p q = absurd q
Takes-more (Some a) (Some b) (Some c) x y p q = q ∙ ap (λ (t : List ℕ). t ++ y) p ∙ append_assoc a x y
