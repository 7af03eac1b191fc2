use Rattle.std.proofs.Common.{rules, ◌≡◌, ◌∙◌, ◌++◌, ◌∷◌, [], ℕ, List, All, Bool, false, true, Option, Some, Err, ap, refl, sym, subst, length}
use Rattle.std.specs.Prelude.{IfSome, IsSome}
use Rattle.std.proofs.lemmas.List.Elements.{All-nil}
use Rattle.fd_recovery.specs.declared.fault.OpenFault.TheVariants.{NoMemory}
use Rattle.fd_disk.specs.Folders.{WhereTold, folder_at}
use Rattle.fd_recovery.specs.Recovered.{IsUndamaged}
use Rattle.fd_library.specs.Answers.{IsWanted, TooManyAt}
use Rattle.fd_library.specs.Calls.{Opens}
use Rattle.fd_library.specs.Open.{OpenDataset, OpenDatasets, among, names_of}
use Rattle.fd_play.specs.Plays.{HoldsSame, IsUnopened, LeavesUnplayed, Played}
use Rattle.fd_play.proofs.Opening.{holds_self, idle_all, idle_closed, if_err, if_ok, left_closed, left_opened, left_self, on_err, opened_sole, plain_unopened, played_all, unopened}
use Rattle.fd_play.proofs.playing.play.Goals as goal

pub dataset-requires-clause-out : goal.dataset-requires-clause-out
dataset-requires-clause-out g c κs within = λ n is. absurd (let f = c.requires.home n in cc (f, is))

pub play_opened-requires-clause-sole : goal.play_opened-requires-clause-sole
play_opened-requires-clause-sole g c κs within =
    let has = g.S.Folder.Folder.has in
    let before = g.S.Store.has c.args.store.now in
    let after = g.S.Store.has c.dataset.new.store in
    let name = c.dataset-name.result.now in
    let none = c.in-Ok-new.ensures in
    let known : among name (names_of c.in-Ok-new.library.each) ≡ false = ap (λ (l : OpenDatasets g.row.S-Folder.Denot). among name (names_of l.each)) none in
    let first = subst (λ f. IfSome f (λ m. Opens has m name c.in-Ok-new.library c.dataset.new.self before after)) c.in-Ok-Some.field-0-is (c.in-Ok-Some.ensures.opened known) in
    let op = subst (λ (n : List ℕ). Opens has c.in-Ok-Some._number n c.in-Ok-new.library c.dataset.new.self before after) c.dataset-name.ensures first in
    (op.board, op.held, opened_sole has c.in-Ok-Some._number c.args.script.now.dataset c.in-Ok-new.library c.dataset.new.self before after none op, op.opened)

pub returns-in-Ok-Some-clause-played : goal.returns-in-Ok-Some-clause-played
returns-in-Ok-Some-clause-played g c =
    let has = g.S.Folder.Folder.has in
    let kept = g.S.Folder.Shelf.Shelf.kept in
    let before = g.S.Store.has c.args.store.now in
    let after = g.S.Store.has c.dataset.new.store in
    let last = g.S.Store.has c.play_opened.new.store in
    let name = c.dataset-name.result.now in
    let none = c.in-Ok-new.ensures in
    let known : among name (names_of c.in-Ok-new.library.each) ≡ false = ap (λ (l : OpenDatasets g.row.S-Folder.Denot). among name (names_of l.each)) none in
    let first = subst (λ f. IfSome f (λ m. Opens has m name c.in-Ok-new.library c.dataset.new.self before after)) c.in-Ok-Some.field-0-is (c.in-Ok-Some.ensures.opened known) in
    let op = subst (λ (n : List ℕ). Opens has c.in-Ok-Some._number n c.in-Ok-new.library c.dataset.new.self before after) c.dataset-name.ensures first in
    let sole = opened_sole has c.in-Ok-Some._number c.args.script.now.dataset c.in-Ok-new.library c.dataset.new.self before after none op in
    let sound = subst (λ f. IfSome f (λ m. IfSome before (λ s. IsUndamaged name (folder_at s name)))) c.in-Ok-Some.field-0-is (c.in-Ok-Some.ensures.undamaged known) in
    let undamaged = subst (λ (n : List ℕ). IfSome before (λ s. IsUndamaged n (folder_at s n))) c.dataset-name.ensures sound in
    if_ok c.play_opened.result _ _ (λ t p. played_all has kept c.args.schema.now c.args.messages.now c.args.script.now t.before t.lanes op.board op.held before after last op.holds undamaged op.store op.opened (p op.board op.held sole op.opened)) c.play_opened.ensures.played

pub returns-in-Ok-Some-clause-idle : goal.returns-in-Ok-Some-clause-idle
returns-in-Ok-Some-clause-idle g c =
    let has = g.S.Folder.Folder.has in
    let before = g.S.Store.has c.args.store.now in
    let after = g.S.Store.has c.dataset.new.store in
    let last = g.S.Store.has c.play_opened.new.store in
    let name = c.dataset-name.result.now in
    let none = c.in-Ok-new.ensures in
    let known : among name (names_of c.in-Ok-new.library.each) ≡ false = ap (λ (l : OpenDatasets g.row.S-Folder.Denot). among name (names_of l.each)) none in
    let first = subst (λ f. IfSome f (λ m. Opens has m name c.in-Ok-new.library c.dataset.new.self before after)) c.in-Ok-Some.field-0-is (c.in-Ok-Some.ensures.opened known) in
    let op = subst (λ (n : List ℕ). Opens has c.in-Ok-Some._number n c.in-Ok-new.library c.dataset.new.self before after) c.dataset-name.ensures first in
    let sole = opened_sole has c.in-Ok-Some._number c.args.script.now.dataset c.in-Ok-new.library c.dataset.new.self before after none op in
    on_err c.play_opened.result _ _ (λ p. idle_all has c.args.script.now.dataset op.held c.in-Ok-new.library c.dataset.new.self op.board before after last none sole op.store c.dataset.ensures.kept (p op.board op.held sole op.opened)) c.play_opened.ensures.idle

pub returns-in-Ok-Some-clause-left : goal.returns-in-Ok-Some-clause-left
returns-in-Ok-Some-clause-left g c =
    let has = g.S.Folder.Folder.has in
    let before = g.S.Store.has c.args.store.now in
    let after = g.S.Store.has c.dataset.new.store in
    let last = g.S.Store.has c.play_opened.new.store in
    let name = c.dataset-name.result.now in
    let none = c.in-Ok-new.ensures in
    let known : among name (names_of c.in-Ok-new.library.each) ≡ false = ap (λ (l : OpenDatasets g.row.S-Folder.Denot). among name (names_of l.each)) none in
    let first = subst (λ f. IfSome f (λ m. Opens has m name c.in-Ok-new.library c.dataset.new.self before after)) c.in-Ok-Some.field-0-is (c.in-Ok-Some.ensures.opened known) in
    let op = subst (λ (n : List ℕ). Opens has c.in-Ok-Some._number n c.in-Ok-new.library c.dataset.new.self before after) c.dataset-name.ensures first in
    let sole = opened_sole has c.in-Ok-Some._number c.args.script.now.dataset c.in-Ok-new.library c.dataset.new.self before after none op in
    let sound = subst (λ f. IfSome f (λ m. IfSome before (λ s. IsUndamaged name (folder_at s name)))) c.in-Ok-Some.field-0-is (c.in-Ok-Some.ensures.undamaged known) in
    let undamaged = subst (λ (n : List ℕ). IfSome before (λ s. IsUndamaged n (folder_at s n))) c.dataset-name.ensures sound in
    on_err c.play_opened.result _ _ (λ p. left_opened has c.args.script.now.dataset op.board op.held before after last op.opened op.holds undamaged op.store (p op.board op.held sole op.opened)) c.play_opened.ensures.idle

pub returns-in-Ok-Some-clause-refused : goal.returns-in-Ok-Some-clause-refused
returns-in-Ok-Some-clause-refused g c = if_err c.play_opened.result _ _ (λ e plain. plain_unopened c.args.script.now.dataset e (g.S.Store.has c.args.store.now) plain) c.play_opened.ensures.refused

pub give_back-requires-clause-seated : goal.give_back-requires-clause-seated
give_back-requires-clause-seated g c κs within =
    subst (λ (d : OpenDatasets g.row.S-Folder.Denot). All (λ (h : OpenDataset g.row.S-Folder.Denot). IsSome h.pass) d.each) (sym (c.in-Err.ensures.left_err.library ∙ c.in-Ok-new.ensures)) (All-nil (λ (h : OpenDataset g.row.S-Folder.Denot). IsSome h.pass))

pub give_back-requires-clause-none : goal.give_back-requires-clause-none
give_back-requires-clause-none g c κs within =
    subst (λ (d : OpenDatasets g.row.S-Folder.Denot). All (λ (h : OpenDataset g.row.S-Folder.Denot). h.lent ≡ 0) d.each) (sym (c.in-Err.ensures.left_err.library ∙ c.in-Ok-new.ensures)) (All-nil (λ (h : OpenDataset g.row.S-Folder.Denot). h.lent ≡ 0))

pub returns-in-Err-clause-idle : goal.returns-in-Err-clause-idle
returns-in-Err-clause-idle g c =
    let left = c.in-Err.ensures.left_err in
    idle_closed g.S.Folder.Folder.has c.dataset-name.result.now c.in-Ok-new.library c.dataset.new.self (g.S.Store.has c.args.store.now) (g.S.Store.has c.dataset.new.store) (g.S.Store.has c.give_back.new.store)
    c.in-Ok-new.ensures left.library left.store c.dataset.ensures.kept c.give_back.ensures.given c.give_back.ensures.kept

pub returns-in-Err-clause-left : goal.returns-in-Err-clause-left
returns-in-Err-clause-left g c =
    let left = c.in-Err.ensures.left_err in
    let before = g.S.Store.has c.args.store.now in
    let last = g.S.Store.has c.give_back.new.store in
    subst (λ (n : List ℕ). WhereTold before last (LeavesUnplayed n)) c.dataset-name.ensures
    (left_closed g.S.Folder.Folder.has c.dataset-name.result.now c.in-Ok-new.library c.dataset.new.self before (g.S.Store.has c.dataset.new.store) last c.in-Ok-new.ensures left.library left.store c.give_back.ensures.given)

pub returns-in-Err-clause-refused : goal.returns-in-Err-clause-refused
returns-in-Err-clause-refused g c =
    let e = c.in-Err.ensures in
    let name = c.dataset-name.result.now in
    let wanted = IsWanted true (g.S.Store.has c.args.store.now) name in
    subst (λ (n : List ℕ). IfSome (g.S.Store.has c.args.store.now) (IsUnopened n c.in-Err.fault)) c.dataset-name.ensures
    (unopened name c.in-Err.fault (g.S.Store.has c.args.store.now) wanted (subst (λ (n : ℕ). TooManyAt n wanted (Err c.in-Err.fault)) (ap (λ (l : OpenDatasets g.row.S-Folder.Denot). length l.each) c.in-Ok-new.ensures) e.too_many) e.not_a_table e.damaged)

pub returns-in_default-new-clause-idle : goal.returns-in_default-new-clause-idle
returns-in_default-new-clause-idle g c = holds_self (g.S.Store.has c.args.store.now)

pub returns-in_default-new-clause-left : goal.returns-in_default-new-clause-left
returns-in_default-new-clause-left g c = left_self c.args.script.now.dataset (g.S.Store.has c.args.store.now)

pub returns-in_default-new-clause-refused : goal.returns-in_default-new-clause-refused
returns-in_default-new-clause-refused g c = plain_unopened {F = g.row.F.Denot} c.args.script.now.dataset NoMemory (g.S.Store.has c.args.store.now) tt
