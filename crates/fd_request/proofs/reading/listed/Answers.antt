use Rattle.std.proofs.Common.{[], sym, arith, ◌∙◌}
use Rattle.fd_spelling.specs.Texts.{texts}
use Rattle.fd_request.specs.Grammar.{each_of, value_in}
use Rattle.fd_request.specs.Seen.{seen_words}
use Rattle.fd_request.proofs.Turns.{value_stops, value_goes, values_end, one_more_value}
use Rattle.fd_request.proofs.reading.listed.Goals as goal

pub returns-in-Err-clause-gives : goal.returns-in-Err-clause-gives
returns-in-Err-clause-gives c =
    value_stops c.args.name.now (texts c.loop-word.values.items) c.args.words.now c.loop-word.word-index _ c.in-Err.refusal
    (each_of (value_in c.args.name.now) [] (seen_words c.args.words.now)) c.loop-word-test.true c.loop-word.invariant.so_far c.in-Err.ensures.gives

pub loop-word-preserved : goal.loop-word-preserved
loop-word-preserved c = record {
  number = omega (arith, c.loop-word.invariant.number, c.in_ok-push-in-Ok.ensures.len);
  values = one_more_value c.loop-word.values.items c.push.new.self.items c.in-Ok.value c.in_ok-push-in-Ok.ensures.items c.loop-word.invariant.values c.in-Ok.ensures.value;
  so_far = value_goes c.args.name.now c.loop-word.values.items c.push.new.self.items c.args.words.now c.loop-word.word-index _ c.in-Ok.value
      (each_of (value_in c.args.name.now) [] (seen_words c.args.words.now)) c.loop-word-test.true c.loop-word.invariant.so_far c.in-Ok.ensures.gives c.in_ok-push-in-Ok.ensures.items;
}

pub returns-clause-gives : goal.returns-clause-gives
returns-clause-gives c = sym c.loop-word.invariant.so_far ∙ values_end c.args.name.now (texts c.loop-word.values.items) c.args.words.now c.loop-word.word-index c.loop-word-test.false
