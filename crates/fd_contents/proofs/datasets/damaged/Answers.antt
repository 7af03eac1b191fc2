use Rattle.std.proofs.Common.{rules, ◌≡◌, ◌∷◌, [], subst, sym, true, string_bytes}
use Rattle.fd_disk.specs.Folders.{folder_at}
use Rattle.fd_stored.specs.Distinct.{is_among}
use Rattle.fd_stored.specs.Causes.{BadFile}
use Rattle.fd_stored.specs.Store.{Stands}
use Rattle.fd_contents.proofs.Opened.{among_self, stands_at}
use Rattle.fd_contents.proofs.datasets.damaged.Goals as goal

pub returns-in-Ok-clause-broken : goal.returns-in-Ok-clause-broken
returns-in-Ok-clause-broken g c = λ h open_.
    let d = c.args.damage in
    let text : string_bytes c.in-Ok.dataset ≡ c.args.dataset.now.name = search rules in
    subst (λ n. (is_among (c.args.dataset.now.name ∷ []) n ≡ true) × Stands n (folder_at h n) (BadFile d)) (sym text) (among_self c.args.dataset.now.name, stands_at h c.args.dataset.now d open_ c.requires)
