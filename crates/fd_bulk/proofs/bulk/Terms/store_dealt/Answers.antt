use Rattle.std.proofs.Common.{◌∙◌, Option, Err, refl, sym, subst, inl, inr, arith}
use Rattle.fd_disk.specs.Folders.{Holdings}
use Rattle.fd_bulk.specs.Crewing.{Running}
use Rattle.fd_bulk.specs.Inputs.{InputEnds}
use Rattle.fd_bulk.proofs.Settling.{can_run, full_round, no_parcels, not_calm, not_unread_full, stopped_round, stored_empty, stored_round}
use Rattle.fd_bulk.proofs.bulk.Terms.store_dealt.Goals as goal

pub returns-then-is_empty-clause-stores : goal.returns-then-is_empty-clause-stores
returns-then-is_empty-clause-stores g c = λ rules given left after start m.
    stored_empty g.S.Folder.Folder.has g.S.Folder.Shelf.Shelf.kept rules given left after start (g.S.Store.has c.args.store.now) c.args.library.now c.args.crew.now.passes.items c.args.crew.now.jobs.items c.args.crew.now.parcels.items c.args.found m (no_parcels c.args.crew.now.parcels.items (sym c.is_empty.ensures ∙ c.if-is_empty.true))

pub returns-then-is_empty-clause-stands : goal.returns-then-is_empty-clause-stands
returns-then-is_empty-clause-stands g c = record { later = omega arith; stands = inl refl }

pub run-requires-clause-can : goal.run-requires-clause-can
run-requires-clause-can g c κs within =
    let w = c.requires.dealt in
    can_run g.S.Folder.Folder.has g.S.Folder.Shelf.Shelf.kept w.rules w.given w.left w.after w.start (g.S.Store.has c.args.store.now) c.args.library.now c.args.crew.now.passes.items c.args.crew.now.jobs.items c.args.crew.now.parcels.items c.args.found w.dealt (sym c.is_empty.ensures ∙ c.if-is_empty.false)

pub returns-in-Ok-clause-stores : goal.returns-in-Ok-clause-stores
returns-in-Ok-clause-stores g c = λ rules given left after start m.
    let r = c.in-Ok.ensures in
    subst (λ (n : Option Holdings). InputEnds g.S.Folder.Folder.has g.S.Folder.Shelf.Shelf.kept rules given left after start n c.args.library.now c.run.new.self.passes.items c.run.new.self.jobs.items (Running g.S.Folder.Shelf.Shelf.kept) c.args.found) (sym r.has)
    (stored_round g.S.Folder.Folder.has g.S.Folder.Shelf.Shelf.kept rules given left after start (g.S.Store.has c.args.store.now) c.args.library.now c.args.crew.now.passes.items c.args.crew.now.jobs.items c.args.crew.now.parcels.items c.args.found m c.run.new.self.passes.items c.run.new.self.jobs.items (sym c.is_empty.ensures ∙ c.if-is_empty.false) (λ lost crewed waits. r.ran start (g.S.Store.has c.args.store.now) lost m.all m.waiting crewed waits))

pub returns-in-Ok-clause-stands : goal.returns-in-Ok-clause-stands
returns-in-Ok-clause-stands g c = record { later = c.in-Ok.ensures.later; stands = inl refl }

pub returns-in-Err-clause-stores : goal.returns-in-Err-clause-stores
returns-in-Err-clause-stores g c = λ rules given left after start m.
    let r = c.in-Err.ensures in
    subst (λ (n : Option Holdings). InputEnds g.S.Folder.Folder.has g.S.Folder.Shelf.Shelf.kept rules given left after start n c.args.library.now c.run.new.self.passes.items c.run.new.self.jobs.items (Running g.S.Folder.Shelf.Shelf.kept) (Err c.in-Err.fault)) (sym r.has)
    (stopped_round g.S.Folder.Folder.has g.S.Folder.Shelf.Shelf.kept rules given left after start (g.S.Store.has c.args.store.now) c.args.library.now c.args.crew.now.passes.items c.args.crew.now.jobs.items c.args.crew.now.parcels.items c.args.found m c.run.new.self.passes.items c.run.new.self.jobs.items c.in-Err.fault (sym c.is_empty.ensures ∙ c.if-is_empty.false) (λ lost crewed waits. r.ran start (g.S.Store.has c.args.store.now) lost m.all m.waiting crewed waits))

pub returns-in-Err-clause-stands : goal.returns-in-Err-clause-stands
returns-in-Err-clause-stands g c =
    let w = c.requires.dealt in
    let r = c.in-Err.ensures in
    let full = full_round g.S.Folder.Folder.has g.S.Folder.Shelf.Shelf.kept w.rules w.given w.left w.after w.start (g.S.Store.has c.args.store.now) c.args.library.now c.args.crew.now.passes.items c.args.crew.now.jobs.items c.args.crew.now.parcels.items c.args.found w.dealt c.run.new.self.passes.items c.run.new.self.jobs.items c.in-Err.fault (sym c.is_empty.ensures ∙ c.if-is_empty.false) (λ lost crewed waits. r.ran w.start (g.S.Store.has c.args.store.now) lost w.dealt.all w.dealt.waiting crewed waits) in
    record {
      later = r.later;
      stands = inr (c.in-Err.fault, refl, record { unread = not_unread_full c.run.new.self.jobs.items c.in-Err.fault full; calm = not_calm c.run.new.self.jobs.items c.in-Err.fault full; cause = r.cause });
    }
