use Rattle.std.proofs.Common.{◌∙◌, Option, Err, refl, sym, subst, inl, inr, arith}
use Rattle.fd_disk.specs.Folders.{Holdings}
use Rattle.fd_bulk.specs.Crewing.{Finished}
use Rattle.fd_bulk.specs.Inputs.{InputEnds}
use Rattle.fd_bulk.proofs.Settling.{can_finish, full_listing, listed, not_calm, not_unread_full, stopped_listing, unlisted}
use Rattle.fd_bulk.proofs.bulk.Terms.list_stored.Goals as goal

pub returns-then-not-is_listed-clause-lists : goal.returns-then-not-is_listed-clause-lists
returns-then-not-is_listed-clause-lists g c = λ rules given left after start m.
    unlisted g.S.Folder.Folder.has g.S.Folder.Shelf.Shelf.kept rules given left after start (g.S.Store.has c.args.store.now) c.args.library.now c.args.crew.now.passes.items c.args.crew.now.jobs.items c.args.found (sym c.is_listed.ensures ∙ c.if-not-is_listed.true) m

pub returns-then-not-is_listed-clause-stands : goal.returns-then-not-is_listed-clause-stands
returns-then-not-is_listed-clause-stands g c = record { later = omega arith; stands = inl refl }

pub list_all-requires-clause-can : goal.list_all-requires-clause-can
list_all-requires-clause-can g c κs within =
    let w = c.requires.stored in
    can_finish g.S.Folder.Folder.has g.S.Folder.Shelf.Shelf.kept w.rules w.given w.left w.after w.start (g.S.Store.has c.args.store.now) c.args.library.now c.args.crew.now.passes.items c.args.crew.now.jobs.items c.args.found (sym c.is_listed.ensures ∙ c.if-not-is_listed.false) w.stored

pub returns-in-Ok-clause-lists : goal.returns-in-Ok-clause-lists
returns-in-Ok-clause-lists g c = λ rules given left after start m.
    let r = c.in-Ok.ensures in
    subst (λ (n : Option Holdings). InputEnds g.S.Folder.Folder.has g.S.Folder.Shelf.Shelf.kept rules given left after start n c.args.library.now c.list_all.new.self.passes.items c.list_all.new.self.jobs.items (Finished g.S.Folder.Shelf.Shelf.kept) c.args.found) (sym r.has)
    (listed g.S.Folder.Folder.has g.S.Folder.Shelf.Shelf.kept rules given left after start (g.S.Store.has c.args.store.now) c.args.library.now c.args.crew.now.passes.items c.args.crew.now.jobs.items c.list_all.new.self.passes.items c.list_all.new.self.jobs.items c.args.found (sym c.is_listed.ensures ∙ c.if-not-is_listed.false) m (λ crewed. r.lists start (g.S.Store.has c.args.store.now) m.lost m.all crewed))

pub returns-in-Ok-clause-stands : goal.returns-in-Ok-clause-stands
returns-in-Ok-clause-stands g c = record { later = c.in-Ok.ensures.later; stands = inl refl }

pub returns-in-Err-clause-lists : goal.returns-in-Err-clause-lists
returns-in-Err-clause-lists g c = λ rules given left after start m.
    let r = c.in-Err.ensures in
    subst (λ (n : Option Holdings). InputEnds g.S.Folder.Folder.has g.S.Folder.Shelf.Shelf.kept rules given left after start n c.args.library.now c.list_all.new.self.passes.items c.list_all.new.self.jobs.items (Finished g.S.Folder.Shelf.Shelf.kept) (Err c.in-Err.fault)) (sym r.has)
    (stopped_listing g.S.Folder.Folder.has g.S.Folder.Shelf.Shelf.kept rules given left after start (g.S.Store.has c.args.store.now) c.args.library.now c.args.crew.now.passes.items c.args.crew.now.jobs.items c.list_all.new.self.passes.items c.list_all.new.self.jobs.items c.args.found c.in-Err.fault (sym c.is_listed.ensures ∙ c.if-not-is_listed.false) m (λ crewed. r.lists start (g.S.Store.has c.args.store.now) m.lost m.all crewed))

pub returns-in-Err-clause-stands : goal.returns-in-Err-clause-stands
returns-in-Err-clause-stands g c =
    let w = c.requires.stored in
    let m = w.stored in
    let r = c.in-Err.ensures in
    let full = full_listing g.S.Folder.Folder.has g.S.Folder.Shelf.Shelf.kept w.rules w.given w.left w.after w.start (g.S.Store.has c.args.store.now) c.args.library.now c.args.crew.now.passes.items c.args.crew.now.jobs.items c.list_all.new.self.passes.items c.list_all.new.self.jobs.items c.args.found c.in-Err.fault (sym c.is_listed.ensures ∙ c.if-not-is_listed.false) m (λ crewed. r.lists w.start (g.S.Store.has c.args.store.now) m.lost m.all crewed) in
    record {
      later = r.later;
      stands = inr (c.in-Err.fault, refl, record { unread = not_unread_full c.list_all.new.self.jobs.items c.in-Err.fault full; calm = not_calm c.list_all.new.self.jobs.items c.in-Err.fault full; cause = r.cause });
    }
