use Rattle.std.proofs.Common.{rules, ◌≡◌, IfSome, false}
use Rattle.fd_stored.specs.Store.{has_table}
use Rattle.fd_retrieve.specs.Open.{IsOpenIn}
use Rattle.fd_contents.proofs.Gathered.{finds_at_open, none_finds}
use Rattle.fd_contents.proofs.gathering.keys_in.Goals as goal

pub returns-in-Ok-None-clause-found : goal.returns-in-Ok-None-clause-found
returns-in-Ok-None-clause-found g c =
    let none : IfSome (g.S.Store.has c.args.store.now) (λ h. false ≡ has_table h c.args.name.now) = rw c.in-Ok-None.field-0-is at c.in-Ok-None.ensures.none in
    none_finds c.args.partial.now (g.S.Store.has c.args.store.now) c.args.name.now c.args.found none

pub returns-in-Ok-clause-found : goal.returns-in-Ok-clause-found
returns-in-Ok-clause-found g c =
    let o = c.in-Ok-Some.opened in
    let opened : (o.name ≡ c.args.name.now) × IfSome (g.S.Store.has c.args.store.now) (λ h. IsOpenIn h o) = search rules in
    finds_at_open c.args.partial.now (g.S.Store.has c.args.store.now) o c.args.name.now c.args.found c.in-Ok.found opened.0 opened.1 c.in-Ok.ensures.found
