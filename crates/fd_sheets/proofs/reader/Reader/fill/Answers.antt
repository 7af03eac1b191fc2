use Rattle.std.proofs.Common.{◌∙◌, Ok, refl, ap, arith}
use Rattle.fd_sheets.proofs.Ahead.{fed_end, fed_more, fed_on, fed_stop, known_stop, reads_none, took_enough, took_stop}
use Rattle.fd_sheets.proofs.reader.Reader.fill.Goals as goal

pub loop-init : goal.loop-init
loop-init g c = record {
  reads = reads_none c.args.schema.now c.args.given.now c.args.names.now.texts.items c.args.self.now (g.I.Source.left c.args.input.now) c.args.sheets.now.items c.requires.none;
  quiet = refl;
  few = let size = ap (λ a. a.split.fed) c.self.view_is in let i = c.self.invariant in omega (arith, size, i.0, i.1);
  turns = omega arith;
}

pub returns-in-Ok-Some-clause-reads : goal.returns-in-Ok-Some-clause-reads
returns-in-Ok-Some-clause-reads g c =
    let i = c.loop.invariant in
    took_enough c.args.schema.now c.args.given.now c.args.names.now.texts.items c.args.self.now (g.I.Source.left c.args.input.now) c.loop.self c.take.new.self (g.I.Source.left c.loop.input) c.loop.sheets.items c.take.new.sheets.items i.few i.reads c.take.result c.take.ensures.takes c.in-Ok-Some.reach (c.in-Ok-Some.is ∙ ap (λ o. Ok o) c.in-Ok-Some.field-0-is)

pub returns-in-Err-clause-reads : goal.returns-in-Err-clause-reads
returns-in-Err-clause-reads g c =
    let i = c.loop.invariant in
    took_stop c.args.schema.now c.args.given.now c.args.names.now.texts.items c.args.self.now (g.I.Source.left c.args.input.now) c.loop.self c.take.new.self (g.I.Source.left c.loop.input) c.loop.sheets.items c.take.new.sheets.items i.few i.reads c.take.result c.take.ensures.takes c.in-Err.stop c.in-Err.is

pub returns-in-Ok-false-clause-reads : goal.returns-in-Ok-false-clause-reads
returns-in-Ok-false-clause-reads g c =
    let i = c.loop.invariant in
    fed_end c.args.schema.now c.args.given.now c.args.names.now.texts.items c.args.self.now (g.I.Source.left c.args.input.now) c.loop.self c.take.new.self (g.I.Source.left c.loop.input) c.loop.sheets.items c.take.new.sheets.items i.few i.reads c.take.result c.take.ensures.takes (c.in-Ok-None.is ∙ ap (λ o. Ok o) c.in-Ok-None.field-0-is) c.read.new.self (g.I.Source.left c.read.new.input) (rw c.in-Ok-false.field-0-test at c.in-Ok-false.ensures.fed)

pub returns-in-Err-read-clause-reads : goal.returns-in-Err-read-clause-reads
returns-in-Err-read-clause-reads g c =
    let i = c.loop.invariant in
    fed_stop c.args.schema.now c.args.given.now c.args.names.now.texts.items c.args.self.now (g.I.Source.left c.args.input.now) c.loop.self c.take.new.self (g.I.Source.left c.loop.input) c.loop.sheets.items c.take.new.sheets.items i.few i.reads c.take.result c.take.ensures.takes (c.in-Ok-None.is ∙ ap (λ o. Ok o) c.in-Ok-None.field-0-is) c.read.new.self (g.I.Source.left c.read.new.input) c.in-Err-read.stop c.in-Err-read.ensures.fed

pub returns-in-Err-read-clause-known : goal.returns-in-Err-read-clause-known
returns-in-Err-read-clause-known g c =
    let i = c.loop.invariant in
    known_stop c.args.schema.now c.args.given.now c.args.names.now.texts.items c.args.self.now (g.I.Source.left c.args.input.now) c.loop.self c.take.new.self (g.I.Source.left c.loop.input) c.loop.sheets.items c.take.new.sheets.items i.few i.reads c.take.result c.take.ensures.takes (c.in-Ok-None.is ∙ ap (λ o. Ok o) c.in-Ok-None.field-0-is) c.in-Err-read.stop

pub loop-preserved : goal.loop-preserved
loop-preserved g c =
    let i = c.loop.invariant in
    record {
      reads = fed_more c.args.schema.now c.args.given.now c.args.names.now.texts.items c.args.self.now (g.I.Source.left c.args.input.now) c.loop.self c.take.new.self (g.I.Source.left c.loop.input) c.loop.sheets.items c.take.new.sheets.items i.few i.reads c.take.result c.take.ensures.takes (c.in-Ok-None.is ∙ ap (λ o. Ok o) c.in-Ok-None.field-0-is) c.read.new.self (g.I.Source.left c.read.new.input) (rw c.in-Ok-true.field-0-test at c.in-Ok-true.ensures.fed);
      quiet = c.in-Ok-true.ensures.calm ∙ i.quiet;
      few = c.read.ensures.few;
      turns = omega (arith, i.turns, fed_on c.args.schema.now c.args.given.now c.args.names.now.texts.items c.args.self.now (g.I.Source.left c.args.input.now) c.loop.self c.take.new.self (g.I.Source.left c.loop.input) c.loop.sheets.items c.take.new.sheets.items i.few i.reads c.take.result c.take.ensures.takes (c.in-Ok-None.is ∙ ap (λ o. Ok o) c.in-Ok-None.field-0-is) c.read.new.self (g.I.Source.left c.read.new.input) (rw c.in-Ok-true.field-0-test at c.in-Ok-true.ensures.fed));
    }
