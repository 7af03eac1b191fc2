-- What is appended stands behind what stood before.
use Rattle.std.proofs.Common.{◌≡◌, ℕ, List, [], ◌++◌, take, length, sym, ap, ◌∙◌, append_assoc}
use Rattle.std.proofs.lemmas.List.{append-nil}
use Rattle.std.proofs.Math.Seq.{take-append_seam}
use Rattle.fd_templates.specs.AnyProduct.{Extends}

pub extends_same : (xs ys : List ℕ) → ys ≡ xs → Extends xs ys
extends_same xs ys is = record { more = []; is = is ∙ sym (append-nil xs) }

pub extends_by : (xs more ys : List ℕ) → ys ≡ xs ++ more → Extends xs ys
extends_by xs more ys is = record { more = more; is = is }

pub extends_both : (xs ys zs : List ℕ) → Extends xs ys → Extends ys zs → Extends xs zs
extends_both xs ys zs e f = record { more = e.more ++ f.more; is = f.is ∙ ap (λ (t : List ℕ). t ++ f.more) e.is ∙ append_assoc xs e.more f.more }

pub cut_back : (xs ys : List ℕ) → Extends xs ys → take (length xs) ys ≡ xs
cut_back xs ys e = ap (take (length xs)) e.is ∙ take-append_seam xs e.more
