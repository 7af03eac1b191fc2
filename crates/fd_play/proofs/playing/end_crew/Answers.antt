use Rattle.std.proofs.Common.{rules, List, ap, refl, sym, subst, slice_get, Some}
use Rattle.std.specs.Prelude.{IfSome}
use Rattle.fd_turn.specs.Passes.{BoardId, IsOf}
use Rattle.fd_library.specs.Open.{OpenDataset, seat_of}
use Rattle.fd_play.proofs.Opening.{out_again, unseated}
use Rattle.fd_play.proofs.playing.end_crew.Goals as goal

pub unseat-requires-clause-out : goal.unseat-requires-clause-out
unseat-requires-clause-out g c κs within = let r = c.requires.sole in (r.1, ap (λ (hs : List (OpenDataset g.row.S-Folder.Denot)). slice_get hs 0) r.2.each, r.3, r.4)

pub unseat-requires-clause-own : goal.unseat-requires-clause-own
unseat-requires-clause-own g c κs within = let r = c.requires.sole in subst (λ (bs : List BoardId). IfSome (slice_get bs 0) (λ (z : BoardId). IsOf z c.args.crew.pass)) (sym r.2.boards) r.5

pub hand_back-requires-clause-sole : goal.hand_back-requires-clause-sole
hand_back-requires-clause-sole g c κs within =
    let r = c.requires.sole in
    (r.0, record r.1 { pass = Some (seat_of c.args.crew.pass) }, unseated c.args.library c.unseat.new.self r.0 r.1 c.args.crew.pass r.2 c.unseat.ensures.change, refl, r.6, r.7)

pub hand_back-requires-clause-out : goal.hand_back-requires-clause-out
hand_back-requires-clause-out g c κs within =
    let r = c.requires.sole in
    out_again c.args.library c.unseat.new.self r.0 r.0 r.1 (record r.1 { pass = Some (seat_of c.args.crew.pass) }) (g.S.Store.out c.args.store.now) r.2 (unseated c.args.library c.unseat.new.self r.0 r.1 c.args.crew.pass r.2 c.unseat.ensures.change) refl c.requires.out

pub returns-clause-back : goal.returns-clause-back
returns-clause-back g c = λ b h s. c.hand_back.ensures.back b (record h { pass = Some (seat_of c.args.crew.pass) }) (unseated c.args.library c.unseat.new.self b h c.args.crew.pass s c.unseat.ensures.change)
