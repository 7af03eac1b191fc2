use Rattle.std.proofs.Common.{◌∙◌, ◌+◌, ◌%◌, [], ◌∷◌, ap, sym, sum, ℕ, List}
use Rattle.fd_sheets.proofs.Weighing.{sum_key, weighed_all}
use Rattle.fd_sheets.proofs.dealing.dealt.Goals as goal

pub returns-clause-worker : goal.returns-clause-worker
returns-clause-worker c =
    let p = c.args.place.now in
    let w = c.args.workers in
    let d = c.weighed-dataset.ensures.weight ∙ ap (λ (xs : List ℕ). (0 + sum xs) % w) (c.as_bytes.ensures.value ∙ c.dataset.ensures) in
    let i = c.weighed-index.ensures.weight ∙ ap (λ (xs : List ℕ). (c.weighed-dataset.result + sum xs) % w) (c.as_bytes-2.ensures.value ∙ c.index.ensures) in
    let m = c.weighed.ensures.weight ∙ ap (λ (xs : List ℕ). (c.weighed-line.result + sum xs) % w) (c.as_bytes-3.ensures.value ∙ c.datum.ensures) in
    weighed_all w (sum p.dataset) (sum p.index) (sum (124 ∷ [])) (sum p.datum) c.weighed-dataset.result c.weighed-index.result c.weighed-line.result c.weighed.result d i c.weighed-line.ensures.weight m
    ∙ ap (λ (n : ℕ). (sum p.dataset + n) % w) (sym (sum_key p.index (124 ∷ []) p.datum))
