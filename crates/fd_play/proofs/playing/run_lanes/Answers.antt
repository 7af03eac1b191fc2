use Rattle.std.proofs.Common.{rules, ◌≡◌, ◌∙◌, ℕ, List, ap, is_some, refl, sym, subst, map, slice_get}
use Rattle.fd_schema.specs.Reading.{seen_place}
use Rattle.fd_lanes.specs.Jobs.{owners_of}
use Rattle.fd_library.specs.Open.{OpenDataset}
use Rattle.fd_play.proofs.Opening.{end_ready, idle_open, own_first, played_open, ready, ready_out}
use Rattle.fd_play.proofs.playing.run_lanes.Goals as goal

pub seat-pass-requires-after_bounds : goal.seat-pass-requires-after_bounds
seat-pass-requires-after_bounds g c κs within = let r = c.requires.staffs in (r.2.now, ap (λ (hs : List (OpenDataset g.row.S-Folder.Denot)). slice_get hs 0) r.2.sole.each, ap is_some (r.2.pass ∙ r.3.pass))

pub lanes-requires-clause-archivers : goal.lanes-requires-clause-archivers
lanes-requires-clause-archivers g c κs within = let r = c.requires.staffs in (ready g.S.Folder.Folder.has c.args.play.now.script.now.dataset r.0 r.1 c.args.library c.seat-pass.new.self c.args.archivers.items c.seat-pass.result r.2 r.3 c.seat-pass.ensures.change).4

pub end_crew-requires-clause-sole : goal.end_crew-requires-clause-sole
end_crew-requires-clause-sole g c κs within =
    let r = c.requires.staffs in
    let e = c.in-Ok.ensures in
    let own = own_first c.args.library r.0 r.2.now c.seat-pass.result r.2.sole c.seat-pass.ensures.own in
    end_ready g.S.Folder.Folder.has g.S.Folder.Shelf.Shelf.kept c.args.play.now.script.now.dataset r.0 r.1 c.args.library c.seat-pass.new.self c.args.archivers.items c.in-Ok.outcome.crew.archivers.items c.seat-pass.result c.in-Ok.outcome.crew.pass r.2 r.3 c.seat-pass.ensures.change
    (e.own ∙ own) e.ran.keeps e.owners

pub end_crew-requires-clause-out : goal.end_crew-requires-clause-out
end_crew-requires-clause-out g c κs within =
    let r = c.requires.staffs in
    ready_out g.S.Folder.Folder.has c.args.play.now.script.now.dataset r.0 r.1 c.args.library c.seat-pass.new.self c.args.archivers.items c.seat-pass.result r.2 r.3 c.seat-pass.ensures.change (g.S.Store.out c.args.store.now) c.requires.out

pub end_crew-requires-in-Err-clause-sole : goal.end_crew-requires-in-Err-clause-sole
end_crew-requires-in-Err-clause-sole g c κs within =
    let r = c.requires.staffs in
    let e = c.in-Err.ensures in
    let own = own_first c.args.library r.0 r.2.now c.seat-pass.result r.2.sole c.seat-pass.ensures.own in
    end_ready g.S.Folder.Folder.has g.S.Folder.Shelf.Shelf.kept c.args.play.now.script.now.dataset r.0 r.1 c.args.library c.seat-pass.new.self c.args.archivers.items c.in-Err.refused.0.archivers.items c.seat-pass.result c.in-Err.refused.0.pass r.2 r.3 c.seat-pass.ensures.change
    (e.own_err.0 ∙ own) e.own_err.1 (ap (λ v. owners_of v.items) e.archivers_err)

pub end_crew-requires-in-Err-clause-out : goal.end_crew-requires-in-Err-clause-out
end_crew-requires-in-Err-clause-out g c κs within =
    let r = c.requires.staffs in
    ready_out g.S.Folder.Folder.has c.args.play.now.script.now.dataset r.0 r.1 c.args.library c.seat-pass.new.self c.args.archivers.items c.seat-pass.result r.2 r.3 c.seat-pass.ensures.change (g.S.Store.out c.args.store.now) c.requires.out

pub returns-in-Ok-clause-played : goal.returns-in-Ok-clause-played
returns-in-Ok-clause-played g c = λ b h st o.
    let e = c.in-Ok.ensures in
    let own = own_first c.args.library b st.now c.seat-pass.result st.sole c.seat-pass.ensures.own in
    played_open g.S.Folder.Folder.has g.S.Folder.Shelf.Shelf.kept c.args.play.now.script.now.dataset b h c.args.library c.seat-pass.new.self c.args.archivers.items c.in-Ok.outcome.crew.archivers.items c.seat-pass.result c.in-Ok.outcome.crew.pass st o c.seat-pass.ensures.change
    c.args.play.now.schema.now c.args.play.now.messages.now c.args.play.now.script.now c.in-Ok.outcome.transcript.before c.in-Ok.outcome.transcript.lanes (map seen_place c.args.play.now.places.now) (g.S.Store.has c.args.store.now) (g.S.Store.has c.end_crew.new.store)
    own e.own e.owners c.requires.places e.ran e.files e.doubted c.end_crew.ensures.back

pub returns-in-Err-clause-idle : goal.returns-in-Err-clause-idle
returns-in-Err-clause-idle g c = λ b h st o.
    let e = c.in-Err.ensures in
    idle_open g.S.Folder.Folder.has g.S.Folder.Shelf.Shelf.kept c.args.play.now.script.now.dataset b h c.args.library c.seat-pass.new.self c.args.archivers.items c.in-Err.refused.0.archivers.items c.seat-pass.result c.in-Err.refused.0.pass st o c.seat-pass.ensures.change
    (g.S.Store.has c.args.store.now) (g.S.Store.has c.end_crew-in-Err.new.store) e.own_err.1 e.calm_err (ap (λ v. v.items) e.archivers_err) c.end_crew-in-Err.ensures.back
