use Rattle.std.proofs.Common.{rules, ◌≡◌, map, [], ◌∷◌}
use Rattle.std.specs.Prelude.{codes}
use Rattle.std.proofs.lemmas.Result.{IfOk-weaker}
use Rattle.clap.specs.Words.{app_of}
use Rattle.fd_words.proofs.AppLemmas.{stores_of}
use Rattle.fd_words.proofs.app.with_stores.Goals as goal

pub returns : goal.returns
returns c =
    let none : map (λ s. s.now) c.as_slice.result.now ≡ [] = search rules in
    let workers : map (λ s. s.now) c.as_slice-2.result.now ≡ codes "workers" ∷ (codes "over" ∷ []) = search rules in
    let with : map (λ s. s.now) c.as_slice-3.result.now ≡ codes "with" ∷ (codes "workers" ∷ []) = search rules in
    let again : map (λ s. s.now) c.as_slice-4.result.now ≡ codes "workers" ∷ [] = search rules in
    IfOk-weaker c.with_leaf-4.result _ _
    (λ r h. stores_of (app_of c.args.program) (app_of c.in_ok-program.program) (app_of c.in_ok-program-2.program) (app_of c.in_ok-program-3.program) (app_of r) _ _ _ _ none workers with again c.in_ok-program.ensures c.in_ok-program-2.ensures c.in_ok-program-3.ensures h)
    c.with_leaf-4.ensures
