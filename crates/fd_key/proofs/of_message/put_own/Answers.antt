use Rattle.std.proofs.Common.{◌∙◌, ap}
use Rattle.std.specs.Prelude.{codes}
use Rattle.std.specs.Fmt.{decimal}
use Rattle.fd_key.specs.Pairs.{with_pair_if}
use Rattle.fd_key.specs.Given.{are_reserved}
use Rattle.fd_key.specs.Fields.{levels_of}
use Rattle.fd_key.specs.Keys.{date_of, time_of, param_in, levtype_of, step_of, number_of, stat_of}
use Rattle.fd_key.proofs.KeyLaws.{added_in_order, own_are_reserved}
use Rattle.fd_key.proofs.of_message.put_own.Goals as goal

pub returns-clause-pairs : goal.returns-clause-pairs
returns-clause-pairs c =
    let i = c.args.ident.now in
    let p = c.args.product.now in
    let b = p.base in
    c.in_ok-put_stat.ensures.pairs
    ∙ ap (λ ps. with_pair_if ps (codes "stat") (stat_of p.interval)) (c.in_ok-put_number_of.ensures.pairs
    ∙ ap (λ ps. with_pair_if ps (codes "number") (number_of p.ensemble)) c.in_ok-put_base.ensures.pairs)
    ∙ added_in_order (decimal i.centre) (date_of i) (time_of i) (decimal i.data_type) (param_in c.args.discipline b) (levtype_of b) (levels_of b) (step_of b) (number_of p.ensemble) (stat_of p.interval)

pub returns-clause-own : goal.returns-clause-own
returns-clause-own c =
    let i = c.args.ident.now in
    let p = c.args.product.now in
    let b = p.base in
    ap are_reserved (returns-clause-pairs c)
    ∙ own_are_reserved (decimal i.centre) (date_of i) (time_of i) (decimal i.data_type) (param_in c.args.discipline b) (levtype_of b) (levels_of b) (step_of b) (number_of p.ensemble) (stat_of p.interval)
