use Rattle.std.proofs.Common.{◌≡◌, ◌+◌, ℕ, ℤ, pos, ◌+ℤ◌, Some, sym, ap, ◌∙◌, w64, to_z, of_z}
use Rattle.std.proofs.lemmas.Int.{to_z-of_z}
use Rattle.fd_request.specs.Ranges.{End, Number, Hour, OnDay, Day, later}
use Rattle.fd_request.specs.Seen.{seen_day}
use Rattle.fd_request.proofs.ReadAgain.{number_at, number_kept, hour_at, day_at}
use Rattle.fd_request.proofs.matching.end_like.Goals as goal

pub returns-in-Some : goal.returns-in-Some
returns-in-Some c = λ far f is.
    let z = c.in-Number.field-0 +ℤ pos far in
    let k = number_at c.args.first.now c.in-Number.field-0 c.args.text.now far c.in-Number.is f is in
    let read : Some c.in-Some.number ≡ Some z = c.in-Some.ensures z k.low k.high k.is in
    let same : c.in-Some.number ≡ z = cc in
    ap (λ (y : ℤ). Some (Number (to_z w64 (of_z w64 y)))) same ∙ ap (λ (y : ℤ). Some (Number y)) (to_z-of_z w64 z (number_kept z k.low k.high)) ∙ ap (λ (e : End). Some e) (sym k.end)

pub returns-in-None : goal.returns-in-None
returns-in-None c = λ far f is.
    let k = number_at c.args.first.now c.in-Number.field-0 c.args.text.now far c.in-Number.is f is in
    let read = c.in-None.ensures (c.in-Number.field-0 +ℤ pos far) k.low k.high k.is in cc

pub returns-in-Some-hour_of : goal.returns-in-Some-hour_of
returns-in-Some-hour_of c = λ far f is.
    let k = hour_at c.args.first.now c.in-Hour.field-0 c.as_bytes.result.now far c.in-Hour.is f (c.as_bytes.ensures.value ∙ is) in
    let read : Some c.in-Some-hour_of.hour ≡ Some (c.in-Hour.field-0 + far) = c.in-Some-hour_of.ensures.hour ∙ k.0 in
    let same : c.in-Some-hour_of.hour ≡ c.in-Hour.field-0 + far = cc in
    ap (λ (h : ℕ). Some (Hour h)) same ∙ ap (λ (e : End). Some e) (sym k.1)

pub returns-in-None-hour_of : goal.returns-in-None-hour_of
returns-in-None-hour_of c = λ far f is.
    let k = hour_at c.args.first.now c.in-Hour.field-0 c.as_bytes.result.now far c.in-Hour.is f (c.as_bytes.ensures.value ∙ is) in
    let read = c.in-None-hour_of.ensures.hour ∙ k.0 in cc

pub returns-in-Some-day_of : goal.returns-in-Some-day_of
returns-in-Some-day_of c = λ far f is.
    let k = day_at c.args.first.now c.in-OnDay.field-0 c.as_bytes-in-OnDay.result.now far c.in-OnDay.is f (c.as_bytes-in-OnDay.ensures.value ∙ is) in
    let read : Some (seen_day c.in-Some-day_of.day) ≡ Some (later far (seen_day c.in-OnDay.field-0)) = c.in-Some-day_of.ensures ∙ k.0 in
    let same : seen_day c.in-Some-day_of.day ≡ later far (seen_day c.in-OnDay.field-0) = cc in
    ap (λ (d : Day). Some (OnDay d)) same ∙ ap (λ (e : End). Some e) (sym k.1)

pub returns-in-None-day_of : goal.returns-in-None-day_of
returns-in-None-day_of c = λ far f is.
    let k = day_at c.args.first.now c.in-OnDay.field-0 c.as_bytes-in-OnDay.result.now far c.in-OnDay.is f (c.as_bytes-in-OnDay.ensures.value ∙ is) in
    let read = c.in-None-day_of.ensures ∙ k.0 in cc
