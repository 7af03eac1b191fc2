use Rattle.std.proofs.Common.{ℕ, List, Option, subst, sym}
use Rattle.fd_disk.specs.declared.file.File.{File}
use Rattle.fd_disk.specs.Folders.{WhereTold}
use Rattle.fd_disk.proofs.MomentLemmas.{started, goes_on}
use Rattle.fd_toc.specs.Writes.{IsUnsynced, LeftMeanwhile}
use Rattle.fd_toc.proofs.Meanwhile.{left_before, left_unsynced, left_synced, made_firm, wrote}
use Rattle.fd_toc.proofs.firm.write_firm.Goals as goal

pub returns-in_err-sync-clause-any_moment : goal.returns-in_err-sync-clause-any_moment
returns-in_err-sync-clause-any_moment g c =
    let at = c.args.at in
    let bytes = c.args.bytes.now in
    let file = g.T.Disk.file in
    let old = file c.args.table.now in
    let P : List ℕ → Type 0 = LeftMeanwhile old at bytes in
    let mid = wrote at bytes old (file c.write_at.new.self) c.in_ok-write_at.ensures.ok in
    let new = subst (λ (o : Option File). WhereTold old o (λ f g. IsUnsynced f at bytes g)) (sym c.in_err-sync.ensures.err) mid in
    let start = started g.T.Disk.moment g.T.Disk.left_since c.args.table.now P (λ f left. left_before at bytes old f ((g.met.T.Disk g.world.𝓛 g.world.𝓜 g.world.𝓡 ((λ s x. x), (λ x. x), (λ x. x), λ x. x)).only_now c.args.table.now f left)) in
    let written = goes_on g.T.Disk.moment g.T.Disk.left_since c.args.table.now c.args.table.now c.write_at.new.self P (file c.write_at.new.self) start c.write_at.ensures.time (λ f now. left_unsynced at bytes old (file c.write_at.new.self) f mid now) in
    goes_on g.T.Disk.moment g.T.Disk.left_since c.args.table.now c.write_at.new.self c.sync.new.self P (file c.sync.new.self) written c.sync.ensures.time (λ f now. left_unsynced at bytes old (file c.sync.new.self) f new now)

pub returns-clause-any_moment : goal.returns-clause-any_moment
returns-clause-any_moment g c =
    let at = c.args.at in
    let bytes = c.args.bytes.now in
    let file = g.T.Disk.file in
    let old = file c.args.table.now in
    let P : List ℕ → Type 0 = LeftMeanwhile old at bytes in
    let mid = wrote at bytes old (file c.write_at.new.self) c.in_ok-write_at.ensures.ok in
    let new = made_firm at bytes old (file c.write_at.new.self) (file c.sync.new.self) c.in_ok-write_at.ensures.ok c.in_ok-sync.ensures.ok in
    let start = started g.T.Disk.moment g.T.Disk.left_since c.args.table.now P (λ f left. left_before at bytes old f ((g.met.T.Disk g.world.𝓛 g.world.𝓜 g.world.𝓡 ((λ s x. x), (λ x. x), (λ x. x), λ x. x)).only_now c.args.table.now f left)) in
    let written = goes_on g.T.Disk.moment g.T.Disk.left_since c.args.table.now c.args.table.now c.write_at.new.self P (file c.write_at.new.self) start c.write_at.ensures.time (λ f now. left_unsynced at bytes old (file c.write_at.new.self) f mid now) in
    goes_on g.T.Disk.moment g.T.Disk.left_since c.args.table.now c.write_at.new.self c.sync.new.self P (file c.sync.new.self) written c.sync.ensures.time (λ f now. left_synced at bytes old (file c.sync.new.self) f new now)
