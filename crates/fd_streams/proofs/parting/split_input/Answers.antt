use Rattle.std.proofs.Common.{rules, length, refl, ap, ◌∙◌, arith}
use Rattle.fd_streams.proofs.Causes.{both_before, input_stops}
use Rattle.fd_streams.proofs.Runs.{waiting_start, waiting_still, finished_still, at_end}
use Rattle.fd_streams.proofs.PartRuns.{began, next_turn, fed_on, few_on, part_halted, part_starved, part_unfed, part_whole, part_truncated}
use Rattle.fd_streams.proofs.parting.split_input.Goals as goal

pub loop-init : goal.loop-init
loop-init g c =
    let none = ap (λ (p : _). p.fed) c.in_ok-splitter.ensures.start in
    record {
      gone = began (g.I.Source.left c.args.input.now) (g.K.Sink.taken c.args.output.now) c.in_ok-splitter.splitter c.in_ok-splitter.ensures.start;
      waiting = waiting_start c.in_ok-splitter.splitter c.in_ok-splitter.ensures.start;
      few = let e = ap (λ (p : _). length p.rest) c.in_ok-splitter.ensures.start in omega (arith, e);
      limit = omega (arith, none);
      turns = omega arith;
      room = c.in_ok-buffer.ensures;
      read = refl;
      calm = refl;
    }

pub returns-in_err-buffer-clause-answer : goal.returns-in_err-buffer-clause-answer
returns-in_err-buffer-clause-answer g c = part_starved (g.I.Source.left c.args.input.now) (g.K.Sink.taken c.args.output.now) c.from_residual-in_err-buffer.result (search rules)

pub finish-requires : goal.finish-requires
finish-requires g c = waiting_still c.loop.splitter c.feed_piece.new.splitter (rw c.in-Ok-false.field-0-test at c.in-Ok-false.ensures.fed).kept c.loop.invariant.waiting

pub returns-in-Ok-clause-answer : goal.returns-in-Ok-clause-answer
returns-in-Ok-clause-answer g c =
    let i = c.loop.invariant in
    let ended = rw c.in-Ok-false.field-0-test at c.in-Ok-false.ensures.fed in
    part_whole (g.I.Source.left c.args.input.now) (g.I.Source.left c.loop.input) c.loop.splitter c.loop.fields (g.K.Sink.taken c.args.output.now) (g.K.Sink.taken c.loop.output) _ i.gone i.limit ended.end i.waiting (finished_still c.loop.splitter c.feed_piece.new.splitter _ ended.kept c.in-Ok.ensures) refl

pub returns-in-Ok-clause-to_end : goal.returns-in-Ok-clause-to_end
returns-in-Ok-clause-to_end g c =
    let ended = rw c.in-Ok-false.field-0-test at c.in-Ok-false.ensures.fed in
    at_end (g.I.Source.left c.args.input.now) (g.I.Source.left c.loop.input) (g.I.Source.left c.feed_piece.new.input) _ c.loop.invariant.gone ended.end ended.gives

pub returns-in-Err-finish-clause-answer : goal.returns-in-Err-finish-clause-answer
returns-in-Err-finish-clause-answer g c =
    let i = c.loop.invariant in
    let ended = rw c.in-Ok-false.field-0-test at c.in-Ok-false.ensures.fed in
    part_truncated (g.I.Source.left c.args.input.now) (g.I.Source.left c.loop.input) c.loop.splitter c.loop.fields (g.K.Sink.taken c.args.output.now) (g.K.Sink.taken c.loop.output) c.in-Err-finish.cut i.gone i.limit ended.end i.waiting (finished_still c.loop.splitter c.feed_piece.new.splitter _ ended.kept c.in-Err-finish.ensures)

pub returns-in-Err-clause-answer : goal.returns-in-Err-clause-answer
returns-in-Err-clause-answer g c =
    let i = c.loop.invariant in
    part_unfed (g.I.Source.left c.args.input.now) (g.I.Source.left c.loop.input) (g.I.Source.left c.feed_piece.new.input) c.loop.splitter c.feed_piece.new.splitter c.loop.fields (g.K.Sink.taken c.args.output.now) (g.K.Sink.taken c.loop.output) c.in-Err.stop c.halt_of.result c.halt_of.ensures i.gone i.limit i.waiting c.in-Err.ensures.fed

pub returns-in-Err-clause-cause : goal.returns-in-Err-clause-cause
returns-in-Err-clause-cause g c = input_stops c.in-Err.stop c.halt_of.result _ _ _ _ _ c.halt_of.ensures c.loop.invariant.read c.loop.invariant.calm c.in-Err.ensures.cause

pub returns-in-Err-split_messages-clause-answer : goal.returns-in-Err-split_messages-clause-answer
returns-in-Err-split_messages-clause-answer g c =
    let came = rw c.in-Ok-true.field-0-test at c.in-Ok-true.ensures.fed in
    part_halted (g.I.Source.left c.args.input.now) (g.I.Source.left c.loop.input) (g.I.Source.left c.feed_piece.new.input) c.loop.splitter c.feed_piece.new.splitter c.loop.fields (g.K.Sink.taken c.args.output.now) (g.K.Sink.taken c.loop.output) (g.K.Sink.taken c.split_messages.new.output) came.piece c.in-Err-split_messages.halt c.loop.invariant.gone came.few came.gives came.is_fed c.in-Err-split_messages.ensures.halted

pub returns-in-Err-split_messages-clause-cause : goal.returns-in-Err-split_messages-clause-cause
returns-in-Err-split_messages-clause-cause g c =
    both_before c.in-Err-split_messages.halt _ _ _ _ _ (c.in-Ok-true.ensures.cause ∙ c.loop.invariant.read) c.loop.invariant.calm c.in-Err-split_messages.ensures.cause

pub loop-preserved : goal.loop-preserved
loop-preserved g c =
    let i = c.loop.invariant in
    let came = rw c.in-Ok-true.field-0-test at c.in-Ok-true.ensures.fed in
    let all = c.in-Ok-split_messages.ensures.went in
    let on = fed_on c.loop.splitter c.feed_piece.new.splitter c.split_messages.new.splitter c.in-Ok-split_messages.more (g.K.Sink.taken c.loop.output) (g.K.Sink.taken c.split_messages.new.output) came.piece came.is_fed all in
    let few = few_on c.loop.splitter c.feed_piece.new.splitter c.split_messages.new.splitter c.loop.fields c.in-Ok-split_messages.more (g.K.Sink.taken c.loop.output) (g.K.Sink.taken c.split_messages.new.output) came.piece i.few came.is_fed all in
    record {
      gone = next_turn (g.I.Source.left c.args.input.now) (g.I.Source.left c.loop.input) (g.I.Source.left c.feed_piece.new.input) c.loop.splitter c.feed_piece.new.splitter c.split_messages.new.splitter c.loop.fields c.in-Ok-split_messages.more (g.K.Sink.taken c.args.output.now) (g.K.Sink.taken c.loop.output) (g.K.Sink.taken c.split_messages.new.output) came.piece i.gone came.gives came.is_fed all;
      waiting = all.waits;
      few = omega (arith, on, few);
      limit = omega (arith, on, came.few);
      turns = omega (arith, on, i.turns, came.some);
      room = i.room;
      read = c.in-Ok-true.ensures.cause ∙ i.read;
      calm = c.in-Ok-split_messages.ensures.cause ∙ i.calm;
    }
