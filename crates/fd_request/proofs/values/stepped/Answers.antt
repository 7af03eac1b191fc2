use Rattle.std.proofs.Common.{◌+◌, ◌/◌, refl, ap, arith}
use Rattle.fd_request.specs.Seen.{seen_end}
use Rattle.fd_request.proofs.RangeLaws.{fits_small, quotient_small, last_fits, stepped_is}
use Rattle.fd_request.proofs.values.stepped.Goals as goal

pub overflow_add-result : goal.overflow_add-result
overflow_add-result c =
    let small = quotient_small c.args.far c.from.result c.args.step (fits_small (seen_end c.args.first) c.args.far c.requires.fits) c.from.ensures in omega arith

pub invariant_of-result : goal.invariant_of-result
invariant_of-result c = record { some = omega arith; moves = c.requires.step; fits = last_fits (seen_end c.args.first) c.args.far c.from.result c.args.step c.requires.fits c.from.ensures }

pub returns : goal.returns
returns c = stepped_is _ (seen_end c.args.first) c.args.step (c.args.far / c.from.result + 1) (c.args.far / c.args.step + 1) refl refl refl (ap (λ k. c.args.far / k + 1) c.from.ensures)
