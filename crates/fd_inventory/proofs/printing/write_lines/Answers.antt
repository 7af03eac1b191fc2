use Rattle.std.proofs.Common.{rules, ◌≡◌, ◌∙◌, ◌++◌, ◌∷◌, ◌+◌, [], arith, ap, sym, drop, string_bytes, subst}
use Rattle.std.proofs.lemmas.List.{drop_all, drop_more}
use Rattle.std.proofs.lemmas.Result.{on_err_weaker, on_ok_weaker}
use Rattle.fd_io.specs.Streams.{Takes, TakesFront}
use Rattle.fd_listing.specs.Sinks.{HasSinkCause}
use Rattle.fd_listing.specs.Lines.{line}
use Rattle.fd_listing.proofs.Taking.{broken, held_written}
use Rattle.fd_spelling.specs.Texts.{texts}
use Rattle.fd_inventory.specs.Written.{text_lines}
use Rattle.fd_inventory.proofs.Printed.{text_held, texts_written}
use Rattle.fd_inventory.proofs.printing.write_lines.Goals as goal

pub loop-text-preserved : goal.loop-text-preserved
loop-text-preserved g c =
    let i = c.loop-text.text-index in
    let ts = c.args.texts.now in
    let more : drop i ts ≡ c.text-item.result ∷ drop (i + 1) ts = drop_more ts i c.text-item.result (omega (arith, c.loop-text-test.true)) ∙ ap (λ s. s ∷ drop (i + 1) ts) (sym c.text-item.is) in
    let held : string_bytes c.push_line.new.lines ≡ string_bytes c.loop-text.lines ++ line (string_bytes c.text-item.result) = search rules in
    record {
      text = held_written (g.K.Sink.taken c.args.sink.now) (g.K.Sink.taken c.loop-text.sink) (g.K.Sink.taken c.write_many.new.sink) (text_lines (texts ts)) (string_bytes c.push_line.new.lines) (string_bytes c.write_many.new.lines) _
          (text_held (g.K.Sink.taken c.args.sink.now) (g.K.Sink.taken c.loop-text.sink) (text_lines (texts ts)) (string_bytes c.loop-text.lines) (string_bytes c.push_line.new.lines) (drop i ts) (drop (i + 1) ts) c.text-item.result more held c.loop-text.invariant.text)
          c.in_ok-write_many.ensures.took;
      calm = c.in_ok-write_many.ensures.cause ∙ c.loop-text.invariant.calm;
    }

pub returns-in_err-write_many-clause-front : goal.returns-in_err-write_many-clause-front
returns-in_err-write_many-clause-front g c =
    let i = c.loop-text.text-index in
    let ts = c.args.texts.now in
    let more : drop i ts ≡ c.text-item.result ∷ drop (i + 1) ts = drop_more ts i c.text-item.result (omega (arith, c.loop-text-test.true)) ∙ ap (λ s. s ∷ drop (i + 1) ts) (sym c.text-item.is) in
    let held : string_bytes c.push_line.new.lines ≡ string_bytes c.loop-text.lines ++ line (string_bytes c.text-item.result) = search rules in
    let front : TakesFront (g.K.Sink.taken c.args.sink.now) (g.K.Sink.taken c.write_many.new.sink) (text_lines (texts ts)) =
    broken (g.K.Sink.taken c.args.sink.now) (g.K.Sink.taken c.loop-text.sink) (g.K.Sink.taken c.write_many.new.sink) (text_lines (texts ts)) (string_bytes c.push_line.new.lines) _
    (text_held (g.K.Sink.taken c.args.sink.now) (g.K.Sink.taken c.loop-text.sink) (text_lines (texts ts)) (string_bytes c.loop-text.lines) (string_bytes c.push_line.new.lines) (drop i ts) (drop (i + 1) ts) c.text-item.result more held c.loop-text.invariant.text)
    c.in_err-write_many.ensures.front in
    search rules

pub returns-clause-took : goal.returns-clause-took
returns-clause-took g c =
    let none : drop c.loop-text.text-index c.args.texts.now ≡ [] = drop_all c.loop-text.text-index c.args.texts.now (omega (arith, c.loop-text-test.false)) in
    on_ok_weaker c.write_text.result
    (λ took. texts_written (g.K.Sink.taken c.args.sink.now) (g.K.Sink.taken c.loop-text.sink) (g.K.Sink.taken c.write_text.new.sink) (text_lines (texts c.args.texts.now)) (string_bytes c.loop-text.lines) (drop c.loop-text.text-index c.args.texts.now) none c.loop-text.invariant.text
    (subst (Takes (g.K.Sink.taken c.loop-text.sink) (g.K.Sink.taken c.write_text.new.sink)) c.as_str-2.ensures.value took))
    c.write_text.ensures.took

pub returns-clause-front : goal.returns-clause-front
returns-clause-front g c =
    on_err_weaker c.write_text.result
    (λ front. broken (g.K.Sink.taken c.args.sink.now) (g.K.Sink.taken c.loop-text.sink) (g.K.Sink.taken c.write_text.new.sink) (text_lines (texts c.args.texts.now)) (string_bytes c.loop-text.lines) _ c.loop-text.invariant.text
    (subst (TakesFront (g.K.Sink.taken c.loop-text.sink) (g.K.Sink.taken c.write_text.new.sink)) c.as_str-2.ensures.value front))
    c.write_text.ensures.front

pub returns-clause-cause : goal.returns-clause-cause
returns-clause-cause g c = subst (λ m. HasSinkCause c.write_text.result m (g.K.Sink.faults c.write_text.new.sink)) c.loop-text.invariant.calm c.write_text.ensures.cause
