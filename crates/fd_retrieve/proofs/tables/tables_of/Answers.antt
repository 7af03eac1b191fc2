use Rattle.std.proofs.Common.{◌∙◌, ◌+◌, ◌++◌, IfSome, subst, sym, ap, arith, take, drop}
use Rattle.fd_schema.specs.Reading.{seen_place}
use Rattle.fd_spelling.specs.Texts.{texts}
use Rattle.fd_schema.specs.declared.place.Place.{Place}
use Rattle.fd_retrieve.specs.Tables.{AreSome, AreTables, datasets_in}
use Rattle.fd_retrieve.proofs.Distinct.{many_some, some_more}
use Rattle.fd_retrieve.proofs.Looking.{looked_both}
use Rattle.fd_retrieve.proofs.Staying.{told_both}
use Rattle.fd_retrieve.proofs.PrepareLemmas.{many_told, subst_length, tables_told, take_more, take_rest}
use Rattle.fd_retrieve.proofs.tables.tables_of.Goals as goal

pub returns-in-Err-clause-too_many : goal.returns-in-Err-clause-too_many
returns-in-Err-clause-too_many g c =
    let ds = datasets_in c.args.places.now in
    let d = (seen_place c.index-places-i.result).dataset in
    let more = take_more (λ (p : Place). (seen_place p).dataset) c.args.places.now c.loop-i.i c.index-places-i.result (omega (arith, c.loop-i-test.true)) c.index-places-i.is in
    many_told c.in-Err.stop (g.S.Store.has c.args.store.now) (g.S.Store.has c.loop-i.store) (take c.loop-i.i ds) (drop (c.loop-i.i + 1) ds) (texts c.loop-i.names.items) ds d c.loop-i.invariant.stays c.loop-i.invariant.tables
    (take_rest ds (c.loop-i.i + 1) ∙ ap (λ l. l ++ drop (c.loop-i.i + 1) ds) more) (subst_length c.in-Err.stop (g.S.Store.has c.loop-i.store) c.loop-i.names.items d c.in-Err.ensures.too_many)

pub returns-in-Err-clause-many : goal.returns-in-Err-clause-many
returns-in-Err-clause-many g c =
    let ds = datasets_in c.args.places.now in
    let d = (seen_place c.index-places-i.result).dataset in
    let more = take_more (λ (p : Place). (seen_place p).dataset) c.args.places.now c.loop-i.i c.index-places-i.result (omega (arith, c.loop-i-test.true)) c.index-places-i.is in
    many_some c.in-Err.stop (take c.loop-i.i ds) (drop (c.loop-i.i + 1) ds) ds c.loop-i.names.items d c.loop-i.invariant.some
    (take_rest ds (c.loop-i.i + 1) ∙ ap (λ l. l ++ drop (c.loop-i.i + 1) ds) more) c.in-Err.ensures.full

pub returns-in-Err-clause-stays : goal.returns-in-Err-clause-stays
returns-in-Err-clause-stays g c = told_both (g.S.Store.has c.args.store.now) (g.S.Store.has c.loop-i.store) (g.S.Store.has c.add_table.new.store) c.loop-i.invariant.stays c.in-Err.ensures.stays

pub returns-in-Err-clause-looks : goal.returns-in-Err-clause-looks
returns-in-Err-clause-looks g c = looked_both (g.S.Store.has c.args.store.now) (g.S.Store.has c.loop-i.store) (g.S.Store.has c.add_table.new.store) c.loop-i.invariant.looks c.in-Err.ensures.looks

pub loop-i-preserved : goal.loop-i-preserved
loop-i-preserved g c =
    let ds = datasets_in c.args.places.now in
    let d = (seen_place c.index-places-i.result).dataset in
    let more = take_more (λ (p : Place). (seen_place p).dataset) c.args.places.now c.loop-i.i c.index-places-i.result (omega (arith, c.loop-i-test.true)) c.index-places-i.is in
    let later = c.add_table.ensures.later in
    let before = c.loop-i.invariant.later in
    record {
      home = c.add_table.ensures.home;
      stays = told_both (g.S.Store.has c.args.store.now) (g.S.Store.has c.loop-i.store) (g.S.Store.has c.add_table.new.store) c.loop-i.invariant.stays c.add_table.ensures.stays;
      looks = looked_both (g.S.Store.has c.args.store.now) (g.S.Store.has c.loop-i.store) (g.S.Store.has c.add_table.new.store) c.loop-i.invariant.looks c.add_table.ensures.looks;
      few = c.add_table.ensures.few;
      tables = subst (λ l. IfSome (g.S.Store.has c.args.store.now) (λ h. AreTables h l (texts c.add_table.new.names.items))) (sym more)
          (tables_told (g.S.Store.has c.args.store.now) (g.S.Store.has c.loop-i.store) (take c.loop-i.i ds) (texts c.loop-i.names.items) d (texts c.add_table.new.names.items) c.loop-i.invariant.stays c.loop-i.invariant.tables c.in-Ok.ensures.added);
      some = subst (λ l. AreSome l (texts c.add_table.new.names.items)) (sym more)
          (some_more (take c.loop-i.i ds) (texts c.loop-i.names.items) d (texts c.add_table.new.names.items) c.loop-i.invariant.some c.in-Ok.ensures.noted);
      later = omega (arith, later, before);
    }
