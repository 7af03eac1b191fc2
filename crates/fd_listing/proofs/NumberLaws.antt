-- Numbers that are appended one by one.
use Rattle.std.proofs.Common.{◌≡◌, ◌∙◌, ◌<◌, ℕ, ℤ, suc, List, ◌++◌, Option, length, drop, get_or, sym, ap, append_assoc, append-nil, drop-cons}
use Rattle.std.proofs.Math.Seq.{drop-length}
use Rattle.fd_listing.specs.Lines.{blank}
use Rattle.fd_listing.specs.Numbers.{number_or_minus, numbers_text}

pub next_number : (out new whole : List ℕ) (ns : List (Option ℤ)) (i : ℕ) (d : Option ℤ) → i < length ns → out ++ numbers_text (drop i ns) ≡ whole → new ≡ out ++ blank (number_or_minus (get_or ns i d)) → new ++ numbers_text (drop (suc i) ns) ≡ whole
next_number out new whole ns i d there so_far e =
    ap (λ (t : List ℕ). t ++ numbers_text (drop (suc i) ns)) e
    ∙ append_assoc out (blank (number_or_minus (get_or ns i d))) (numbers_text (drop (suc i) ns))
    ∙ ap (λ (t : List (Option ℤ)). out ++ numbers_text t) (sym (drop-cons ns i d there))
    ∙ so_far

pub all_numbers : (out whole : List ℕ) (ns : List (Option ℤ)) (i : ℕ) → i ≡ length ns → out ++ numbers_text (drop i ns) ≡ whole → out ≡ whole
all_numbers out whole ns i e so_far =
    sym (append-nil out) ∙ ap (λ (t : List (Option ℤ)). out ++ numbers_text t) (sym (ap (λ (k : ℕ). drop k ns) e ∙ drop-length ns)) ∙ so_far
