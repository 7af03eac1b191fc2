use Rattle.std.proofs.Common.{IfSome, subst}
use Rattle.fd_spelling.specs.Texts.{texts}
use Rattle.fd_retrieve.specs.Ready.{NoneIsDamaged}
use Rattle.fd_contents.specs.Gathering.{FindsAll}
use Rattle.fd_contents.proofs.Gathered.{Gathered}
use Rattle.fd_contents.proofs.Names.{of_names}
use Rattle.fd_contents.proofs.gathering.keys_asked.Goals as goal

pub returns-in-Ok-keys_in_each-clause-found : goal.returns-in-Ok-keys_in_each-clause-found
returns-in-Ok-keys_in_each-clause-found g c =
    let has = g.S.Store.has c.args.store.now in
    let mid = g.S.Store.has c.names.new.self in
    let p = c.args.partial.now in
    let f = c.in-Ok-keys_in_each.found in
    let own = subst (λ ns. Gathered p mid (texts ns) f) c.deref.ensures.value c.in-Ok-keys_in_each.ensures.found in
    let here = subst (λ o. Gathered p o (texts c.in-Ok.names.items) f) c.names.ensures.has own in
    of_names has c.in-Ok.names.items (g.S.Store.out c.args.store.now) (λ h names. FindsAll p h names f) c.requires.home c.in-Ok.ensures.sorted c.in-Ok.ensures.each here

pub returns-in-Ok-keys_in_each-clause-undamaged : goal.returns-in-Ok-keys_in_each-clause-undamaged
returns-in-Ok-keys_in_each-clause-undamaged g c =
    let has = g.S.Store.has c.args.store.now in
    let mid = g.S.Store.has c.names.new.self in
    let own = subst (λ ns. IfSome mid (λ h. NoneIsDamaged h (texts ns))) c.deref.ensures.value c.in-Ok-keys_in_each.ensures.undamaged in
    let here = subst (λ o. IfSome o (λ h. NoneIsDamaged h (texts c.in-Ok.names.items))) c.names.ensures.has own in
    of_names has c.in-Ok.names.items (g.S.Store.out c.args.store.now) NoneIsDamaged c.requires.home c.in-Ok.ensures.sorted c.in-Ok.ensures.each here
