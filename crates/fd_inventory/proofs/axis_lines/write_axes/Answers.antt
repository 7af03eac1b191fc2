use Rattle.std.proofs.Common.{rules, ◌≡◌, ◌∙◌, ◌++◌, subst, string_bytes}
use Rattle.std.specs.Map.Iter.{deref_pair}
use Rattle.std.proofs.lemmas.Map.Iter.{rest_more, rest_all}
use Rattle.std.proofs.lemmas.Result.{on_err_weaker, on_ok_weaker}
use Rattle.fd_io.specs.Streams.{Takes, TakesFront}
use Rattle.fd_listing.specs.Sinks.{HasSinkCause}
use Rattle.fd_listing.proofs.Taking.{broken, held_written, stopped}
use Rattle.fd_inventory.specs.Axes.{axes_lines, names_lines, seen_axes, seen_names}
use Rattle.fd_inventory.proofs.AxisLines.{axes_written, index_held}
use Rattle.fd_inventory.proofs.axis_lines.write_axes.Goals as goal

pub loop-index-preserved : goal.loop-index-preserved
loop-index-preserved g c =
    let more = rest_more deref_pair c.loop-index.index-iterator c.next.new.self c.next.result (c.in-Some.index, c.in-Some.names) c.in-Some.is c.next.ensures.steps in
    let text = axes_lines c.args.dataset.now (seen_axes c.args.axes.now.entries) in
    let held : string_bytes c.push_names.new.lines ≡ string_bytes c.loop-index.lines ++ names_lines c.args.dataset.now (string_bytes c.in-Some.index.now) (seen_names c.in-Some.names.now.entries) = search rules in
    record {
      text = held_written (g.K.Sink.taken c.args.sink.now) (g.K.Sink.taken c.loop-index.sink) (g.K.Sink.taken c.write_many.new.sink) text (string_bytes c.push_names.new.lines) (string_bytes c.write_many.new.lines) _
          (index_held (g.K.Sink.taken c.args.sink.now) (g.K.Sink.taken c.loop-index.sink) text (string_bytes c.loop-index.lines) (string_bytes c.push_names.new.lines) c.args.dataset.now (c.in-Some.index.now, c.in-Some.names.now) c.next.new.self c.loop-index.index-iterator more held c.loop-index.invariant.text)
          c.in_ok-write_many.ensures.took;
      calm = c.in_ok-write_many.ensures.cause ∙ c.loop-index.invariant.calm;
    }

pub returns-in_err-push_names-clause-front : goal.returns-in_err-push_names-clause-front
returns-in_err-push_names-clause-front g c =
    let text = axes_lines c.args.dataset.now (seen_axes c.args.axes.now.entries) in
    let front : TakesFront (g.K.Sink.taken c.args.sink.now) (g.K.Sink.taken c.loop-index.sink) text =
    stopped (g.K.Sink.taken c.args.sink.now) (g.K.Sink.taken c.loop-index.sink) text _ c.loop-index.invariant.text in
    search rules

pub returns-in_err-write_many-clause-front : goal.returns-in_err-write_many-clause-front
returns-in_err-write_many-clause-front g c =
    let more = rest_more deref_pair c.loop-index.index-iterator c.next.new.self c.next.result (c.in-Some.index, c.in-Some.names) c.in-Some.is c.next.ensures.steps in
    let text = axes_lines c.args.dataset.now (seen_axes c.args.axes.now.entries) in
    let held : string_bytes c.push_names.new.lines ≡ string_bytes c.loop-index.lines ++ names_lines c.args.dataset.now (string_bytes c.in-Some.index.now) (seen_names c.in-Some.names.now.entries) = search rules in
    let front : TakesFront (g.K.Sink.taken c.args.sink.now) (g.K.Sink.taken c.write_many.new.sink) text =
    broken (g.K.Sink.taken c.args.sink.now) (g.K.Sink.taken c.loop-index.sink) (g.K.Sink.taken c.write_many.new.sink) text (string_bytes c.push_names.new.lines) _
    (index_held (g.K.Sink.taken c.args.sink.now) (g.K.Sink.taken c.loop-index.sink) text (string_bytes c.loop-index.lines) (string_bytes c.push_names.new.lines) c.args.dataset.now (c.in-Some.index.now, c.in-Some.names.now) c.next.new.self c.loop-index.index-iterator more held c.loop-index.invariant.text)
    c.in_err-write_many.ensures.front in
    search rules

pub returns-clause-took : goal.returns-clause-took
returns-clause-took g c =
    let none = rest_all deref_pair c.loop-index.index-iterator c.next.new.self c.next.result c.in-None.is c.next.ensures.steps in
    on_ok_weaker c.write_text.result
    (λ took. axes_written (g.K.Sink.taken c.args.sink.now) (g.K.Sink.taken c.loop-index.sink) (g.K.Sink.taken c.write_text.new.sink) (axes_lines c.args.dataset.now (seen_axes c.args.axes.now.entries)) (string_bytes c.loop-index.lines) c.args.dataset.now c.loop-index.index-iterator none c.loop-index.invariant.text
    (subst (Takes (g.K.Sink.taken c.loop-index.sink) (g.K.Sink.taken c.write_text.new.sink)) c.as_str-2.ensures.value took))
    c.write_text.ensures.took

pub returns-clause-front : goal.returns-clause-front
returns-clause-front g c =
    on_err_weaker c.write_text.result
    (λ front. broken (g.K.Sink.taken c.args.sink.now) (g.K.Sink.taken c.loop-index.sink) (g.K.Sink.taken c.write_text.new.sink) (axes_lines c.args.dataset.now (seen_axes c.args.axes.now.entries)) (string_bytes c.loop-index.lines) _ c.loop-index.invariant.text
    (subst (TakesFront (g.K.Sink.taken c.loop-index.sink) (g.K.Sink.taken c.write_text.new.sink)) c.as_str-2.ensures.value front))
    c.write_text.ensures.front

pub returns-clause-cause : goal.returns-clause-cause
returns-clause-cause g c = subst (λ m. HasSinkCause c.write_text.result m (g.K.Sink.faults c.write_text.new.sink)) c.loop-index.invariant.calm c.write_text.ensures.cause
