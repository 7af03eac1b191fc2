use Rattle.std.proofs.Common.{◌∙◌, [], ◌∷◌, None, option_map, sym}
use Rattle.fd_disk.specs.declared.folders.FileKind.TheVariants.{Fields, Index}
use Rattle.fd_disk.specs.Names.{name_of}
use Rattle.fd_disk.specs.Renewals.{IsLeftBetween, removed}
use Rattle.fd_disk.proofs.RenewalLemmas.{goes_more, goes_then, still_goes, still_same}
use Rattle.fd_purge.specs.Carrying.{LeavesThinnerOf}
use Rattle.fd_purge.proofs.CarryLemmas.{none_removed, removing_err, removing_first, removing_left, removing_next, removing_ok}
use Rattle.fd_purge.proofs.removing.remove_both.Goals as goal

pub returns-then-is_named-clause-ok : goal.returns-then-is_named-clause-ok
returns-then-is_named-clause-ok g c = none_removed c.args.kept.now c.args.entry.now (g.D.Folder.has c.args.folder.now) (λ kind. sym (c.is_named.ensures kind) ∙ c.if-is_named.true)

pub returns-then-is_named-clause-time : goal.returns-then-is_named-clause-time
returns-then-is_named-clause-time g c = still_goes _ _ _ _ _ (still_same _ _)

pub returns-in-Ok-clause-ok : goal.returns-in-Ok-clause-ok
returns-in-Ok-clause-ok g c =
    let has = g.D.Folder.has in
    let a = has c.args.folder.now in
    let b = has c.remove.new.self in
    let e = c.args.entry.now in
    let kept = c.args.kept.now in
    removing_ok c.remove-in-Ok.result kept e a b (has c.remove-in-Ok.new.self) (λ kind. sym (c.is_named.ensures kind) ∙ c.if-is_named.false) c.in-Ok.ensures.ok c.remove-in-Ok.ensures.ok

pub returns-in-Ok-clause-err : goal.returns-in-Ok-clause-err
returns-in-Ok-clause-err g c =
    let has = g.D.Folder.has in
    let a = has c.args.folder.now in
    let b = has c.remove.new.self in
    let e = c.args.entry.now in
    let kept = c.args.kept.now in
    removing_err c.remove-in-Ok.result kept e a b (has c.remove-in-Ok.new.self) (λ kind. sym (c.is_named.ensures kind) ∙ c.if-is_named.false) c.in-Ok.ensures.ok c.remove-in-Ok.ensures.err

pub returns-in-Ok-clause-time : goal.returns-in-Ok-clause-time
returns-in-Ok-clause-time g c =
    let has = g.D.Folder.has in
    let a = has c.args.folder.now in
    let b = has c.remove.new.self in
    let e = c.args.entry.now in
    let kept = c.args.kept.now in
    goes_then _ _ _ _ _ _ (IsLeftBetween a (option_map (removed (name_of e.writer e.seq Fields)) a)) (IsLeftBetween b (option_map (removed (name_of e.writer e.seq Index)) b)) (LeavesThinnerOf (e ∷ []) kept a)
    (λ t u left le is. (g.met.D.Folder g.world.𝓛 g.world.𝓜 g.world.𝓡 ((λ s x. x), (λ x. x), (λ x. x), λ x. x)).earlier c.remove-in-Ok.new.self None t u left le is) (λ left is. removing_left kept e a left (λ kind. sym (c.is_named.ensures kind) ∙ c.if-is_named.false) is) (λ left is. removing_next kept e a b left (λ kind. sym (c.is_named.ensures kind) ∙ c.if-is_named.false) c.in-Ok.ensures.ok is)
    c.remove.ensures.time c.remove-in-Ok.ensures.time

pub returns-in-Err-clause-err : goal.returns-in-Err-clause-err
returns-in-Err-clause-err g c =
    let has = g.D.Folder.has in
    let a = has c.args.folder.now in
    let b = has c.remove.new.self in
    let e = c.args.entry.now in
    let kept = c.args.kept.now in
    removing_first kept e a b (λ kind. sym (c.is_named.ensures kind) ∙ c.if-is_named.false) c.in-Err.ensures.err

pub returns-in-Err-clause-time : goal.returns-in-Err-clause-time
returns-in-Err-clause-time g c =
    let has = g.D.Folder.has in
    let a = has c.args.folder.now in
    let b = has c.remove.new.self in
    let e = c.args.entry.now in
    let kept = c.args.kept.now in
    goes_more _ _ _ _ (IsLeftBetween a (option_map (removed (name_of e.writer e.seq Fields)) a)) _ (λ left is. removing_left kept e a left (λ kind. sym (c.is_named.ensures kind) ∙ c.if-is_named.false) is) c.remove.ensures.time
