use Rattle.std.proofs.Common.{refl, ap, ◌∙◌, arith}
use Rattle.fd_streams.proofs.Causes.{input_before, input_calm}
use Rattle.fd_streams.proofs.Runs.{began, waiting_start, waiting_still, finished_still, at_end, found_last, found_cut, found_stop, found_unfed, next_turn, fed_on}
use Rattle.fd_streams.proofs.picking.last_wanted.Goals as goal

pub loop-init : goal.loop-init
loop-init g c =
    let none = ap (λ (p : _). p.fed) c.in_ok-splitter.ensures.start in
    record {
      searched = began (g.I.Source.left c.args.input.now) c.args.wanted.now c.in_ok-splitter.splitter _ c.in_ok-splitter.ensures.start refl;
      waiting = waiting_start c.in_ok-splitter.splitter c.in_ok-splitter.ensures.start;
      limit = omega (arith, none);
      turns = omega arith;
      room = c.in_ok-buffer.ensures;
      calm = refl;
    }

pub finish-requires : goal.finish-requires
finish-requires g c = waiting_still c.loop.splitter c.feed_piece.new.splitter (rw c.in-Ok-false.field-0-test at c.in-Ok-false.ensures.fed).kept c.loop.invariant.waiting

pub returns-in-Ok-clause-answer : goal.returns-in-Ok-clause-answer
returns-in-Ok-clause-answer g c =
    let i = c.loop.invariant in
    let ended = rw c.in-Ok-false.field-0-test at c.in-Ok-false.ensures.fed in
    found_last (g.I.Source.left c.args.input.now) (g.I.Source.left c.loop.input) c.args.wanted.now c.loop.splitter c.loop.last _ i.searched i.limit ended.end i.waiting (finished_still c.loop.splitter c.feed_piece.new.splitter _ ended.kept c.in-Ok.ensures)

pub returns-in-Ok-clause-to_end : goal.returns-in-Ok-clause-to_end
returns-in-Ok-clause-to_end g c =
    let ended = rw c.in-Ok-false.field-0-test at c.in-Ok-false.ensures.fed in
    at_end (g.I.Source.left c.args.input.now) (g.I.Source.left c.loop.input) (g.I.Source.left c.feed_piece.new.input) _ c.loop.invariant.searched ended.end ended.gives

pub returns-in-Err-finish-clause-answer : goal.returns-in-Err-finish-clause-answer
returns-in-Err-finish-clause-answer g c =
    let i = c.loop.invariant in
    let ended = rw c.in-Ok-false.field-0-test at c.in-Ok-false.ensures.fed in
    found_cut (g.I.Source.left c.args.input.now) (g.I.Source.left c.loop.input) c.args.wanted.now c.loop.splitter c.loop.last c.in-Err-finish.cut i.searched i.limit ended.end i.waiting (finished_still c.loop.splitter c.feed_piece.new.splitter _ ended.kept c.in-Err-finish.ensures)

pub returns-in-Err-clause-answer : goal.returns-in-Err-clause-answer
returns-in-Err-clause-answer g c =
    found_unfed (g.I.Source.left c.args.input.now) (g.I.Source.left c.loop.input) (g.I.Source.left c.feed_piece.new.input) c.args.wanted.now c.loop.splitter c.feed_piece.new.splitter c.loop.last c.in-Err.stop c.loop.invariant.searched c.loop.invariant.waiting c.in-Err.ensures.fed

pub returns-in-Err-clause-cause : goal.returns-in-Err-clause-cause
returns-in-Err-clause-cause g c = input_before c.in-Err.stop _ _ _ c.loop.invariant.calm c.in-Err.ensures.cause

pub returns-in-Err-take_messages-clause-answer : goal.returns-in-Err-take_messages-clause-answer
returns-in-Err-take_messages-clause-answer g c =
    let came = rw c.in-Ok-true.field-0-test at c.in-Ok-true.ensures.fed in
    found_stop (g.I.Source.left c.args.input.now) (g.I.Source.left c.loop.input) (g.I.Source.left c.feed_piece.new.input) c.args.wanted.now c.loop.splitter c.feed_piece.new.splitter c.loop.last came.piece c.in-Err-take_messages.stop c.loop.invariant.searched came.few came.gives came.is_fed c.in-Err-take_messages.ensures.err

pub returns-in-Err-take_messages-clause-cause : goal.returns-in-Err-take_messages-clause-cause
returns-in-Err-take_messages-clause-cause g c =
    input_calm c.in-Err-take_messages.stop _ _ c.in-Err-take_messages.ensures.no_fault (c.in-Ok-true.ensures.cause ∙ c.loop.invariant.calm)

pub loop-preserved : goal.loop-preserved
loop-preserved g c =
    let i = c.loop.invariant in
    let came = rw c.in-Ok-true.field-0-test at c.in-Ok-true.ensures.fed in
    let all = c.in-Ok-take_messages.ensures.ok in
    let on = fed_on c.args.wanted.now c.loop.splitter c.feed_piece.new.splitter c.take_messages.new.splitter c.loop.last c.take_messages.new.last came.piece came.is_fed all in
    record {
      searched = next_turn (g.I.Source.left c.args.input.now) (g.I.Source.left c.loop.input) (g.I.Source.left c.feed_piece.new.input) c.args.wanted.now c.loop.splitter c.feed_piece.new.splitter c.take_messages.new.splitter c.loop.last c.take_messages.new.last came.piece i.searched came.gives came.is_fed all;
      waiting = all.waits;
      limit = omega (arith, on, came.few);
      turns = omega (arith, on, i.turns, came.some);
      room = i.room;
      calm = c.in-Ok-true.ensures.cause ∙ i.calm;
    }
