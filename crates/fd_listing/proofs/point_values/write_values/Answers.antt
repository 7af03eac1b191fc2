use Rattle.std.proofs.Common.{rules, length, ◌≡◌, ◌∙◌, List, Option, suc, ap, subst, string_bytes, arith}
use Rattle.std.proofs.lemmas.Result.{on_err_weaker, on_ok_weaker}
use Rattle.fd_io.specs.Streams.{Takes, TakesFront}
use Rattle.fd_listing.specs.Sinks.{HasSinkCause}
use Rattle.fd_scaled.specs.declared.Scaled.{Scaled}
use Rattle.fd_packing.specs.Value.{values_of}
use Rattle.fd_listing.specs.Values.{values_text}
use Rattle.fd_listing.proofs.Taking.{line_held, held_written, last_written, broken}
use Rattle.fd_listing.proofs.point_values.write_values.Goals as goal

pub returns-in_err-write_many-clause-front : goal.returns-in_err-write_many-clause-front
returns-in_err-write_many-clause-front g c =
    let text = values_text c.args.number c.args.decimals (values_of c.args.field.now) in
    let front : TakesFront (g.K.Sink.taken c.args.sink.now) (g.K.Sink.taken c.write_many.new.sink) text =
    broken (g.K.Sink.taken c.args.sink.now) (g.K.Sink.taken c.points.sink) (g.K.Sink.taken c.write_many.new.sink) text (string_bytes c.push_point.new.lines) _
    (line_held (g.K.Sink.taken c.args.sink.now) (g.K.Sink.taken c.points.sink) text (string_bytes c.points.lines) (string_bytes c.push_point.new.lines) c.args.number c.args.decimals c.points.point c.in-Some.value c.next.new.self c.points.points c.in-Some.ensures.steps c.in_ok-push_point.ensures c.points.invariant.text)
    c.in_err-write_many.ensures.front in
    search rules

pub points-preserved : goal.points-preserved
points-preserved g c =
    let i = c.points.invariant in
    let text = values_text c.args.number c.args.decimals (values_of c.args.field.now) in
    let fewer : length c.points.points ≡ suc (length c.next.new.self) = ap (λ (vs : List (Option Scaled)). length vs) c.in-Some.ensures.steps in
    record {
      text = held_written (g.K.Sink.taken c.args.sink.now) (g.K.Sink.taken c.points.sink) (g.K.Sink.taken c.write_many.new.sink) text (string_bytes c.push_point.new.lines) (string_bytes c.write_many.new.lines) _
          (line_held (g.K.Sink.taken c.args.sink.now) (g.K.Sink.taken c.points.sink) text (string_bytes c.points.lines) (string_bytes c.push_point.new.lines) c.args.number c.args.decimals c.points.point c.in-Some.value c.next.new.self c.points.points c.in-Some.ensures.steps c.in_ok-push_point.ensures i.text)
          c.in_ok-write_many.ensures.took;
      calm = c.in_ok-write_many.ensures.cause ∙ i.calm;
      room = omega (arith, i.room, fewer);
    }

pub returns-clause-took : goal.returns-clause-took
returns-clause-took g c =
    on_ok_weaker c.write_text.result
    (λ took. last_written (g.K.Sink.taken c.args.sink.now) (g.K.Sink.taken c.points.sink) (g.K.Sink.taken c.write_text.new.sink) (values_text c.args.number c.args.decimals (values_of c.args.field.now)) (string_bytes c.points.lines) c.args.number c.args.decimals c.points.point c.points.points c.in_default.ensures.steps.0 c.points.invariant.text
    (subst (Takes (g.K.Sink.taken c.points.sink) (g.K.Sink.taken c.write_text.new.sink)) c.as_str.ensures.value took))
    c.write_text.ensures.took

pub returns-clause-front : goal.returns-clause-front
returns-clause-front g c =
    on_err_weaker c.write_text.result
    (λ front. broken (g.K.Sink.taken c.args.sink.now) (g.K.Sink.taken c.points.sink) (g.K.Sink.taken c.write_text.new.sink) (values_text c.args.number c.args.decimals (values_of c.args.field.now)) (string_bytes c.points.lines) _ c.points.invariant.text
    (subst (TakesFront (g.K.Sink.taken c.points.sink) (g.K.Sink.taken c.write_text.new.sink)) c.as_str.ensures.value front))
    c.write_text.ensures.front

pub returns-clause-cause : goal.returns-clause-cause
returns-clause-cause g c = subst (λ m. HasSinkCause c.write_text.result m (g.K.Sink.faults c.write_text.new.sink)) c.points.invariant.calm c.write_text.ensures.cause
