use Rattle.std.proofs.Common.{rules, ◌≡◌, ◌∙◌, refl, length, arith}
use Rattle.fd_outcome.proofs.Endings.{takes_nothing}
use Rattle.fd_answering.proofs.AnsweringLemmas.{as_whole, took_both, took_nothing}
use Rattle.fd_answering.proofs.rounds.answer_rounds.Goals as goal

pub rounds-init : goal.rounds-init
rounds-init g c = record {
  answered = λ xs there. record { output = takes_nothing _; report = takes_nothing _; found_is = refl; missed_is = refl };
  jobs = c.requires.jobs;
  stock = c.requires.stock;
  counted = omega arith;
  done = omega arith;
  next = search rules;
  on = search rules;
  grew = took_nothing (g.E.Sink.taken c.args.report.now);
  output = refl;
  report = omega arith;
}

pub rounds-preserved : goal.rounds-preserved
rounds-preserved g c =
    let inv = c.rounds.invariant in
    let one = c.in-Ok.ensures.round in
    let kept = c.refill.ensures.stock c.args.opened.now c.in-Ok.ensures.jobs c.in-Ok.ensures.stock in
    let to = c.dealt-after.ensures.to in
    let later = inv.report in
    let told = one.report_later in
    record {
      answered = λ xs there. one.answered xs (g.K.Sink.taken c.args.output.now) (g.E.Sink.taken c.args.report.now) there (inv.answered xs there);
      jobs = kept.0;
      stock = kept.1;
      counted = one.counted;
      done = c.dealt-after.ensures.on;
      next = omega (arith, to, c.requires.located.count, c.count-count.ensures);
      on = λ lt. c.dealt-after.ensures.up (omega (arith, lt, c.requires.located.count, c.count-count.ensures));
      grew = took_both (g.E.Sink.taken c.args.report.now) (g.E.Sink.taken c.rounds.report) (g.E.Sink.taken c.answer_round.new.report) inv.grew one.grew;
      output = one.calm ∙ inv.output;
      report = omega (arith, later, told);
    }

pub returns-in-Err : goal.returns-in-Err
returns-in-Err g c =
    let inv = c.rounds.invariant in
    let one = c.in-Err.ensures.round in
    let before = inv.output in
    let later = inv.report in
    let out = one.output_later in
    let told = one.report_later in
    record {
      whole = record {
        answered = tt;
        halted = λ xs there. one.halted xs (g.K.Sink.taken c.args.output.now) (g.E.Sink.taken c.args.report.now) there (inv.answered xs there);
        output_later = omega (arith, before, out);
        calm = tt;
        report_later = omega (arith, later, told);
        cause = search rules;
        damaged = one.damaged;
        grew = took_both (g.E.Sink.taken c.args.report.now) (g.E.Sink.taken c.rounds.report) (g.E.Sink.taken c.answer_round.new.report) inv.grew one.grew;
      };
    }

pub returns : goal.returns
returns g c =
    let inv = c.rounds.invariant in
    let before = inv.output in
    record {
      whole = record {
        answered = λ xs there.
            let many = there.long in
            let up = inv.done in
            let to = inv.next in
            let all : c.rounds.done ≡ length xs = omega (arith, many, up, to, c.count-count.ensures, c.rounds-test.false) in
            let last : c.rounds.done ≡ c.count-count.result = omega (arith, up, to, c.rounds-test.false) in
            as_whole xs c.rounds.done c.count-count.result _ _ _ _ c.rounds.found all last (inv.answered xs there);
        halted = tt;
        output_later = omega (arith, before);
        calm = before;
        report_later = inv.report;
        cause = tt;
        damaged = tt;
        grew = inv.grew;
      };
    }
