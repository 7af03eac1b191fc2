use Rattle.std.proofs.Common.{arith, ap, sym, ◌∙◌}
use Rattle.std.proofs.lemmas.Int.{ints}
use Rattle.std.proofs.lemmas.Result.{IfOk-weaker}
use Rattle.fd_request.specs.declared.end.End as code_end
use Rattle.fd_request.specs.Ranges.{Number, Hour, text_behind}
use Rattle.fd_request.specs.Seen.{Fits, seen_end}
use Rattle.fd_request.proofs.Ends.{number_in, hour_in, number_text_is}
use Rattle.fd_request.proofs.end.text_behind.Goals as goal

pub overflow_cast-far : goal.overflow_cast-far
overflow_cast-far c =
    let f : Fits (Number c.in-Number.number) c.args.far = rw c.in-Number.is at c.requires in
    let k = number_in c.in-Number.number c.args.far f in
    omega (arith, ints, k.0, k.1)

pub overflow_add-number : goal.overflow_add-number
overflow_add-number c =
    let f : Fits (Number c.in-Number.number) c.args.far = rw c.in-Number.is at c.requires in
    let k = number_in c.in-Number.number c.args.far f in
    omega (arith, ints, k.0, k.1)

pub overflow_cast-far-in-Hour : goal.overflow_cast-far-in-Hour
overflow_cast-far-in-Hour c =
    let f : Fits (Hour c.in-Hour.hour) c.args.far = rw c.in-Hour.is at c.requires in
    omega (arith, hour_in c.in-Hour.hour c.args.far f)

pub overflow_add-hour : goal.overflow_add-hour
overflow_add-hour c =
    let f : Fits (Hour c.in-Hour.hour) c.args.far = rw c.in-Hour.is at c.requires in
    omega (arith, hour_in c.in-Hour.hour c.args.far f)

pub number_text-requires : goal.number_text-requires
number_text-requires c =
    let f : Fits (Number c.in-Number.number) c.args.far = rw c.in-Number.is at c.requires in
    let k = number_in c.in-Number.number c.args.far f in
    record { low = omega (arith, ints, k.0, k.1); high = omega (arith, ints, k.0, k.1) }

pub day_text-requires : goal.day_text-requires
day_text-requires c = rw c.in-OnDay.is at c.requires

pub returns-in-Number-clause-text : goal.returns-in-Number-clause-text
returns-in-Number-clause-text c =
    let f : Fits (Number c.in-Number.number) c.args.far = rw c.in-Number.is at c.requires in
    let is = number_text_is c.in-Number.number c.args.far f in
    let whole = ap (λ (e : code_end.End). text_behind (seen_end e) c.args.far) (sym c.in-Number.is) in
    IfOk-weaker c.number_text.result _ _ (λ s e. e ∙ is ∙ whole) c.number_text.ensures.text
