use Rattle.std.proofs.Common.{rules, ◌≡◌, ◌<◌, refl, sym, length, arith, subst, ◌-◌, ◌+◌}
use Rattle.fd_request.specs.Expansion.{expand}
use Rattle.fd_answering.specs.Finding.{IsAnswered}
use Rattle.fd_answering.proofs.AnsweringLemmas.{one_few, there_is, more_one, part_answered}
use Rattle.fd_answering.proofs.CopiedLemmas.{within_at}
use Rattle.fd_answering.proofs.answering.answer_counted.Goals as goal

pub answer_one-requires-clause-within : goal.answer_one-requires-clause-within
answer_one-requires-clause-within g c κs within = within_at c.args.opened.now c.args.opened.now c.args.located.now c.args.number refl c.requires.located.within c.requires.range.0 _

pub returns-in-Err-clause-round : goal.returns-in-Err-clause-round
returns-in-Err-clause-round g c = record {
  answered = tt;
  counted = tt;
  halted = λ xs a0 c0 there so_far.
      let i = c.args.number in
      let ks = expand c.args.request.now in
      let within : i < length ks = omega (arith, c.requires.range.0, c.requires.located.count) in
      let key = there_is ks i within in
      let n = there.each i key.0 key.1 in
      part_answered xs i (record { key = key.0; found = n.0 }) n.1 _ _ _ _ _ _ c.args.found (i - c.args.found) so_far (c.in-Err.ensures.halted n.0 key.0 (n.2 _) key.1);
  output_later = c.in-Err.ensures.output;
  calm = tt;
  report_later = c.in-Err.ensures.report;
  cause = search rules;
  damaged = c.in-Err.ensures.damaged;
  grew = c.in-Err.ensures.grew;
}

pub returns-in-Ok-clause-round : goal.returns-in-Ok-clause-round
returns-in-Ok-clause-round g c = record {
  answered = λ xs a0 c0 there so_far.
      let i = c.args.number in
      let ks = expand c.args.request.now in
      let within : i < length ks = omega (arith, c.requires.range.0, c.requires.located.count) in
      let key = there_is ks i within in
      let n = there.each i key.0 key.1 in
      let one = c.in-Ok.ensures.one n.0 key.0 (n.2 _) key.1 in
      subst (λ f. IsAnswered xs (i + 1) a0 (g.K.Sink.taken c.answer_one.new.output) c0 (g.E.Sink.taken c.answer_one.new.report) f (i + 1 - f)) (sym c.one_more_if.ensures)
      (more_one xs i (record { key = key.0; found = n.0 }) n.1 _ _ _ _ _ _ c.args.found c.requires.range.2 so_far c.in-Ok.is_found one);
  counted = let few = one_few c.in-Ok.is_found in omega (arith, few, c.one_more_if.ensures, c.requires.range.2);
  halted = tt;
  output_later = let same = c.in-Ok.ensures.calm in omega (arith, same);
  calm = c.in-Ok.ensures.calm;
  report_later = c.in-Ok.ensures.report;
  cause = tt;
  damaged = tt;
  grew = c.in-Ok.ensures.grew;
}

pub one_more_if-requires : goal.one_more_if-requires
one_more_if-requires g c = let few = c.requires.range.1 in let le = c.requires.range.2 in omega (arith, few, le)
