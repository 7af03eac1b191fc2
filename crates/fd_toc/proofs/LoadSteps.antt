-- A table is read from its beginning on.
use Rattle.std.proofs.Common.{◌≡◌, ℕ, ◌≤◌, List, ◌++◌, length, take, drop, refl, sym, ◌∙◌, ap, subst, arith, append_assoc, length-drop, take-append-drop, Option, Some, None, option_map, Ok, IfSome}
use Rattle.std.proofs.lemmas.List.{take_at, length-take-le}
use Rattle.fd_disk.specs.declared.file.File.{File}
use Rattle.fd_disk.specs.Reading.{ReadsBytes}

pub read_more : (E : Type 0) (o p : Option File) (bytes later old new : List ℕ) (at n : ℕ) → p ≡ o → at ≡ length bytes → IfSome o (λ f. bytes ≡ take (length bytes) f.reads)
    → ReadsBytes {E = E} (option_map (λ f. f.reads) p) at old new (Ok n) → later ≡ bytes ++ take n new → IfSome o (λ f. later ≡ take (length later) f.reads)
read_more E o p bytes later old new at n same place so_far reads more = go o so_far (subst (λ (q : Option File). ReadsBytes {E = E} (option_map (λ f. f.reads) q) at old new (Ok n)) same reads)
  where
    go : (o : Option File) → IfSome o (λ f. bytes ≡ take (length bytes) f.reads) → ReadsBytes {E = E} (option_map (λ f. f.reads) o) at old new (Ok n) → IfSome o (λ f. later ≡ take (length later) f.reads)
    go None so_far reads = tt
    go (Some f) so_far reads =
        let k = length bytes in
        let d = drop k f.reads in
        let short : n ≤ length d = omega (arith, reads.0, place, length-drop k f.reads) in
        let got : take n new ≡ take n d = ap (take n) (reads.1 ∙ ap (λ (a : ℕ). take n (drop a f.reads) ++ drop n old) place) ∙ take_at (take n d) (drop n old) n (length-take-le n d short) in
        let front : later ≡ bytes ++ take n d = more ∙ ap (λ (l : List ℕ). bytes ++ l) got in
        let whole : f.reads ≡ later ++ drop n d =
        sym (take-append-drop k f.reads) ∙ ap (λ (l : List ℕ). l ++ d) (sym so_far) ∙ ap (λ (l : List ℕ). bytes ++ l) (sym (take-append-drop n d))
        ∙ sym (append_assoc bytes (take n d) (drop n d)) ∙ ap (λ (l : List ℕ). l ++ drop n d) (sym front) in
        sym (ap (take (length later)) whole ∙ take_at later (drop n d) (length later) refl)
