use Rattle.std.proofs.Common.{rules, ◌≡◌, ◌∙◌, ◌++◌, subst, map, string_bytes}
use Rattle.std.specs.Map.Iter.{deref_pair}
use Rattle.std.proofs.lemmas.Map.Iter.{rest_more, rest_all}
use Rattle.std.proofs.lemmas.Result.{on_err_weaker, on_ok_weaker}
use Rattle.fd_io.specs.Streams.{Takes, TakesFront}
use Rattle.fd_listing.specs.Sinks.{HasSinkCause}
use Rattle.fd_listing.proofs.Taking.{broken, held_written}
use Rattle.fd_inventory.specs.Shown.{kept}
use Rattle.fd_inventory.specs.Written.{shown_line, shown_lines}
use Rattle.fd_inventory.proofs.Lining.{row_held, rows_written}
use Rattle.fd_inventory.proofs.listing.write_rows.Goals as goal

pub loop-texts-preserved : goal.loop-texts-preserved
loop-texts-preserved g c =
    let more = rest_more deref_pair c.loop-texts.texts-iterator c.next.new.self c.next.result (c.in-Some.texts, c.in-Some.newest) c.in-Some.is c.next.ensures.steps in
    let text = shown_lines c.args.dataset.now (map kept c.args.rows.now.entries) in
    let held : string_bytes c.push_row.new.lines ≡ string_bytes c.loop-texts.lines ++ shown_line c.args.dataset.now (kept (c.in-Some.texts.now, c.in-Some.newest.now)) = search rules in
    record {
      text = held_written (g.K.Sink.taken c.args.sink.now) (g.K.Sink.taken c.loop-texts.sink) (g.K.Sink.taken c.write_many.new.sink) text (string_bytes c.push_row.new.lines) (string_bytes c.write_many.new.lines) _
          (row_held (g.K.Sink.taken c.args.sink.now) (g.K.Sink.taken c.loop-texts.sink) text (string_bytes c.loop-texts.lines) (string_bytes c.push_row.new.lines) c.args.dataset.now (c.in-Some.texts.now, c.in-Some.newest.now) c.next.new.self c.loop-texts.texts-iterator more held c.loop-texts.invariant.text)
          c.in_ok-write_many.ensures.took;
      calm = c.in_ok-write_many.ensures.cause ∙ c.loop-texts.invariant.calm;
    }

pub returns-in_err-write_many-clause-front : goal.returns-in_err-write_many-clause-front
returns-in_err-write_many-clause-front g c =
    let more = rest_more deref_pair c.loop-texts.texts-iterator c.next.new.self c.next.result (c.in-Some.texts, c.in-Some.newest) c.in-Some.is c.next.ensures.steps in
    let text = shown_lines c.args.dataset.now (map kept c.args.rows.now.entries) in
    let held : string_bytes c.push_row.new.lines ≡ string_bytes c.loop-texts.lines ++ shown_line c.args.dataset.now (kept (c.in-Some.texts.now, c.in-Some.newest.now)) = search rules in
    let front : TakesFront (g.K.Sink.taken c.args.sink.now) (g.K.Sink.taken c.write_many.new.sink) text =
    broken (g.K.Sink.taken c.args.sink.now) (g.K.Sink.taken c.loop-texts.sink) (g.K.Sink.taken c.write_many.new.sink) text (string_bytes c.push_row.new.lines) _
    (row_held (g.K.Sink.taken c.args.sink.now) (g.K.Sink.taken c.loop-texts.sink) text (string_bytes c.loop-texts.lines) (string_bytes c.push_row.new.lines) c.args.dataset.now (c.in-Some.texts.now, c.in-Some.newest.now) c.next.new.self c.loop-texts.texts-iterator more held c.loop-texts.invariant.text)
    c.in_err-write_many.ensures.front in
    search rules

pub returns-clause-took : goal.returns-clause-took
returns-clause-took g c =
    let none = rest_all deref_pair c.loop-texts.texts-iterator c.next.new.self c.next.result c.in-None.is c.next.ensures.steps in
    on_ok_weaker c.write_text.result
    (λ took. rows_written (g.K.Sink.taken c.args.sink.now) (g.K.Sink.taken c.loop-texts.sink) (g.K.Sink.taken c.write_text.new.sink) (shown_lines c.args.dataset.now (map kept c.args.rows.now.entries)) (string_bytes c.loop-texts.lines) c.args.dataset.now c.loop-texts.texts-iterator none c.loop-texts.invariant.text
    (subst (Takes (g.K.Sink.taken c.loop-texts.sink) (g.K.Sink.taken c.write_text.new.sink)) c.as_str-2.ensures.value took))
    c.write_text.ensures.took

pub returns-clause-front : goal.returns-clause-front
returns-clause-front g c =
    on_err_weaker c.write_text.result
    (λ front. broken (g.K.Sink.taken c.args.sink.now) (g.K.Sink.taken c.loop-texts.sink) (g.K.Sink.taken c.write_text.new.sink) (shown_lines c.args.dataset.now (map kept c.args.rows.now.entries)) (string_bytes c.loop-texts.lines) _ c.loop-texts.invariant.text
    (subst (TakesFront (g.K.Sink.taken c.loop-texts.sink) (g.K.Sink.taken c.write_text.new.sink)) c.as_str-2.ensures.value front))
    c.write_text.ensures.front

pub returns-clause-cause : goal.returns-clause-cause
returns-clause-cause g c = subst (λ m. HasSinkCause c.write_text.result m (g.K.Sink.faults c.write_text.new.sink)) c.loop-texts.invariant.calm c.write_text.ensures.cause
