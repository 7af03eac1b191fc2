use Rattle.std.proofs.Common.{rules, arith, ◌≡◌, ◌≤◌, ◌∙◌, ℕ, List, ap, refl, sym, subst, length}
use Rattle.fd_turn.specs.Passes.{BoardId}
use Rattle.fd_disk.specs.Folders.{WhereTold}
use Rattle.fd_library.specs.Answers.{IsOpened}
use Rattle.fd_library.specs.Open.{OpenDataset}
use Rattle.fd_play.specs.Plays.{HoldsOpened, PlayedOpen}
use Rattle.fd_play.specs.Staff.{IsSole, Staffs}
use Rattle.fd_play.proofs.Opening.{if_ok, on_err, out_again, tried_idle, tried_ready}
use Rattle.fd_play.proofs.playing.play_opened.Goals as goal

pub add_archivers-requires-clause-sole : goal.add_archivers-requires-clause-sole
add_archivers-requires-clause-sole g c κs within = let r = c.requires.sole in (r.0, r.1, r.2, r.3.asked.0)

pub run_lanes-requires-clause-staffs : goal.run_lanes-requires-clause-staffs
run_lanes-requires-clause-staffs g c κs within = let r = c.requires.sole in (r.0, r.1, c.in-Ok.ensures.ok r.0 r.1 r.2, r.3)

pub run_lanes-requires-clause-out : goal.run_lanes-requires-clause-out
run_lanes-requires-clause-out g c κs within =
    let r = c.requires.sole in
    let st = c.in-Ok.ensures.ok r.0 r.1 r.2 in
    out_again c.args.library c.add_archivers.new.library r.0 r.0 r.1 st.now (g.S.Store.out c.args.store.now) r.2 st.sole st.name c.requires.out

pub returns-in-Ok-clause-played : goal.returns-in-Ok-clause-played
returns-in-Ok-clause-played g c = if_ok c.run_lanes.result _ _ (λ t p b h s o. p b h (c.in-Ok.ensures.ok b h s) o) c.run_lanes.ensures.played

pub returns-in-Ok-clause-idle : goal.returns-in-Ok-clause-idle
returns-in-Ok-clause-idle g c = on_err c.run_lanes.result _ _ (λ p b h s o. p b h (c.in-Ok.ensures.ok b h s) o) c.run_lanes.ensures.idle

pub hand_back-requires-clause-sole : goal.hand_back-requires-clause-sole
hand_back-requires-clause-sole g c κs within =
    let r = c.requires.sole in
    tried_ready g.S.Folder.Folder.has c.args.play.now.script.now.dataset r.0 r.1 c.add_archivers.new.library c.add_archivers.new.archivers.items r.3 (c.in-Err.ensures.err r.0 r.1 r.2)

pub hand_back-requires-clause-out : goal.hand_back-requires-clause-out
hand_back-requires-clause-out g c κs within =
    let r = c.requires.sole in
    let tr = c.in-Err.ensures.err r.0 r.1 r.2 in
    out_again c.args.library c.add_archivers.new.library r.0 r.0 r.1 tr.now (g.S.Store.out c.args.store.now) r.2 tr.sole tr.name c.requires.out

pub returns-in-Err-clause-idle : goal.returns-in-Err-clause-idle
returns-in-Err-clause-idle g c = λ b h s o.
    tried_idle g.S.Folder.Folder.has g.S.Folder.Shelf.Shelf.kept c.args.play.now.script.now.dataset b h c.add_archivers.new.library c.add_archivers.new.archivers.items (g.S.Store.has c.args.store.now) (g.S.Store.has c.hand_back.new.store) o (c.in-Err.ensures.err b h s)
    c.hand_back.ensures.back
