use Rattle.std.proofs.Common.{◌≡◌, ◌∙◌, ◌++◌, ◌∷◌, [], map, Some, ap, subst, sym, append_assoc}
use Rattle.std.specs.Prelude.{Ok}
use mathlib.Core.List.{map-append}
use Rattle.fd_schema.specs.Reading.{seen_place}
use Rattle.fd_schema.specs.Rules.{place_from}
use Rattle.fd_outcome.specs.Layered.{under_from}
use Rattle.fd_retrieve.proofs.Staying.{some_is}
use Rattle.fd_layered.proofs.Laying.{key_laid}
use Rattle.fd_layered.proofs.placing.lay_key.Goals as goal

pub returns-in-Ok-lay_under-clause-laid : goal.returns-in-Ok-lay_under-clause-laid
returns-in-Ok-lay_under-clause-laid g c = λ key at.
    let own = seen_place c.in-Ok-place.place in
    let old = c.args.places.now.items in
    let under = c.in-Ok-lay_under.ensures.laid in
    let same : c.key_into.new.key ≡ key = some_is c.key_into.new.key key (sym c.in-Ok.ensures.key ∙ at) in
    let pushed : map seen_place c.push.new.self.items ≡ map seen_place old ++ own ∷ [] = ap (map seen_place) c.in-Ok-push.ensures.items ∙ map-append seen_place old (c.in-Ok-place.place ∷ []) in (
      record { key = key; place = own; under = under.0 },
      key_laid c.args.schema.now c.args.layers.now key own under.0 (subst (λ k. place_from 0 c.args.schema.now k ≡ Some own) same c.in-Ok-place.ensures.place) (subst (λ k. under_from 1 c.args.schema.now k c.args.layers.now ≡ Ok under.0) same under.1),
      under.2 ∙ ap (λ l. l ++ under.0) pushed ∙ append_assoc (map seen_place old) (own ∷ []) under.0,
    )
