use Rattle.std.proofs.Common.{All, arith, subst}
use Rattle.std.proofs.lemmas.List.{take_all}
use Rattle.std.proofs.lemmas.List.Elements.{All-more}
use Rattle.fd_sheets.specs.Names.{IsKnown}
use Rattle.fd_sheets.proofs.names.Names.know_all.Goals as goal

pub loop-sheet-preserved : goal.loop-sheet-preserved
loop-sheet-preserved c = record { known = All-more (IsKnown c.args.self.now.texts.items) c.args.sheets.now c.loop-sheet.sheet-index c.sheet-item.result c.loop-sheet-test.true c.loop-sheet.invariant.known (subst (IsKnown c.args.self.now.texts.items) c.sheet-item.is (c.knows.ensures c.if-not-knows.false)) }

pub returns-clause-known : goal.returns-clause-known
returns-clause-known c = λ is. subst (All (IsKnown c.args.self.now.texts.items)) (take_all c.loop-sheet.sheet-index c.args.sheets.now (omega (arith, c.loop-sheet-test.false))) c.loop-sheet.invariant.known
