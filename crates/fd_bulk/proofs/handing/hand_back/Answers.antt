use Rattle.std.proofs.Common.{◌∙◌, refl, sym, ap, subst}
use Rattle.fd_turn.specs.Passes.{view}
use Rattle.fd_bulk.specs.Ending.{CanHand, Hands, desk_in}
use Rattle.fd_bulk.proofs.Giving.{last_front}
use Rattle.fd_bulk.proofs.Handed.{changes_none}
use Rattle.fd_bulk.proofs.handing.hand_back.Goals as goal

pub take_back-requires-after_bounds : goal.take_back-requires-after_bounds
take_back-requires-after_bounds g c κs within =
    let r = c.requires.can in
    let f = last_front c.args.job.now.desks.items c.pop.new.self.items c.in-Some-Some.field-0 c.args.number c.in-Some-Some.ensures.items r.long in
    let can = subst (CanHand r.board r.held.name) (ap desk_in f.1 ∙ c.in-Some-Some.field-0-is) r.can in
    (r.held, r.held_at, can.2)

pub returns-in-Some-Some-clause-hands : goal.returns-in-Some-Some-clause-hands
returns-in-Some-Some-clause-hands g c =
    let r = c.requires.can in
    let f = last_front c.args.job.now.desks.items c.pop.new.self.items c.in-Some-Some.field-0 c.args.number c.in-Some-Some.ensures.items r.long in
    let t = c.take_back.ensures.took in
    record {
      before = t.before;
      after = t.after;
      was = t.was;
      is = t.is;
      boards = t.boards;
      how = subst (λ x. Hands g.S.Folder.Folder.has g.S.Folder.Folder.faults g.S.Folder.Shelf.Shelf.kept x t.before t.after (view c.args.pass.now) (view c.join.new.pass)) (sym (ap desk_in f.1 ∙ c.in-Some-Some.field-0-is)) (t.how, c.join.ensures.view, c.join.ensures.seen, c.join.ensures.told);
    }

pub returns-in-Some-None-clause-hands : goal.returns-in-Some-None-clause-hands
returns-in-Some-None-clause-hands g c =
    let r = c.requires.can in
    let f = last_front c.args.job.now.desks.items c.pop.new.self.items c.in-Some-None.field-0 c.args.number c.in-Some-None.ensures.items r.long in
    changes_none c.args.number c.args.library.now r.held _ r.held_at (subst (λ x. Hands g.S.Folder.Folder.has g.S.Folder.Folder.faults g.S.Folder.Shelf.Shelf.kept x r.held r.held (view c.args.pass.now) (view c.args.pass.now)) (sym (ap desk_in f.1 ∙ c.in-Some-None.field-0-is)) (refl, refl))
