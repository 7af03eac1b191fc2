use Rattle.std.proofs.Common.{◌∙◌, ap}
use Rattle.std.specs.Prelude.{codes}
use Rattle.std.specs.Fmt.{decimal}
use Rattle.fd_key.specs.Pairs.{with_pair, with_pair_if}
use Rattle.fd_key.specs.Fields.{levels_of}
use Rattle.fd_key.specs.Keys.{date_of, time_of, param_in, levtype_of, step_of}
use Rattle.fd_key.proofs.KeyLaws.{put_in_order, few_based}
use Rattle.fd_key.proofs.of_message.put_base.Goals as goal

pub returns-clause-pairs : goal.returns-clause-pairs
returns-clause-pairs c =
    let i = c.args.ident.now in
    let p = c.args.product.now in
    c.in_ok-spell.ensures.ok
    ∙ ap (λ t. with_pair c.put_levels.new.key (codes "step") t) c.step_of-step.ensures.text
    ∙ ap (λ ps. with_pair ps (codes "step") (step_of p)) (c.in_ok-put_levels.ensures.pairs
    ∙ ap (λ ps. with_pair_if ps (codes "levelist") (levels_of p)) (c.in_ok-put_field.ensures.pairs
    ∙ ap (λ ps. with_pair (with_pair ps (codes "param") (param_in c.args.discipline p)) (codes "levtype") (levtype_of p)) c.in_ok-put_origin.ensures.pairs))
    ∙ put_in_order (decimal i.centre) (date_of i) (time_of i) (decimal i.data_type) (param_in c.args.discipline p) (levtype_of p) (levels_of p) (step_of p)

pub returns-clause-few : goal.returns-clause-few
returns-clause-few c =
    let i = c.args.ident.now in
    let p = c.args.product.now in
    rw (returns-clause-pairs c) (few_based (decimal i.centre) (date_of i) (time_of i) (decimal i.data_type) (param_in c.args.discipline p) (levtype_of p) (levels_of p) (step_of p))
