use Rattle.std.proofs.Common.{◌≡◌, ◌∙◌, ◌++◌, ◌∷◌, [], List, ℕ, cond, bytes_eq, ap, subst}
use Rattle.fd_cubes.specs.Grids.{noted}
use Rattle.fd_cubes.proofs.Taking.{noted_inserted}
use Rattle.fd_cubes.proofs.passing.note.Goals as goal

pub returns : goal.returns
returns c =
    let mid = c.taken_places-places.new.alike in
    let text = c.as_str.ensures.value in
    noted_inserted c.args.alike.now mid c.insert.new.self c.args.text c.push.new.self c.args.at c.in_ok-insert.ensures.updates
    (c.in_ok-push.ensures.items ∙ ap (λ (l : List ℕ). l ++ c.args.at ∷ []) (c.taken_places-places.ensures.places ∙ ap (noted c.args.alike.now) text))
    (subst (λ (u : List ℕ). (t : List ℕ) → noted mid t ≡ cond (bytes_eq u t) [] (noted c.args.alike.now t)) text c.taken_places-places.ensures.left)
