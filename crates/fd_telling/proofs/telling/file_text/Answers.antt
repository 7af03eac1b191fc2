use Rattle.std.proofs.Common.{◌≡◌, ◌∙◌, ℕ, List, [], ◌∷◌, ◌++◌, ap, append_assoc, Result, Ok, Err, IfOk, String, Global, string_bytes}
use Rattle.std.specs.Fmt.{decimal}
use Rattle.fd_telling.proofs.telling.file_text.Goals as goal

regroup : (w q k : List ℕ) → w ++ (45 ∷ (q ++ (46 ∷ k))) ≡ (((w ++ 45 ∷ []) ++ q) ++ 46 ∷ []) ++ k
regroup w q k = simp append_assoc

ok_is : {E : Type 0} (r : Result (String Global) E) (x y : List ℕ) → x ≡ y → IfOk r (λ t. string_bytes t ≡ x) → IfOk r (λ t. string_bytes t ≡ y)
ok_is (Ok t) x y e h = h ∙ e
ok_is (Err f) x y e h = tt

pub returns : goal.returns
returns c =
    ok_is c.format.result _ _ (regroup (decimal c.args.file.writer) (decimal c.args.file.seq) c.kind_text-kind.result.now ∙ ap (λ k. (((decimal c.args.file.writer ++ 45 ∷ []) ++ decimal c.args.file.seq) ++ 46 ∷ []) ++ k) c.kind_text-kind.ensures) c.format.ensures.ok
