use Rattle.std.proofs.Common.{rules, ◌≡◌, IfSome, false}
use Rattle.fd_stored.specs.Store.{has_table}
use Rattle.fd_retrieve.specs.Open.{IsOpenIn}
use Rattle.fd_contents.proofs.Printing.{none_printed, printed_at_open}
use Rattle.fd_contents.proofs.Texts.{front_at_open, nothing_front}
use Rattle.fd_contents.proofs.datasets.print_one.Goals as goal

pub returns-in-Ok-None-clause-printed : goal.returns-in-Ok-None-clause-printed
returns-in-Ok-None-clause-printed g c =
    let none : IfSome (g.S.Store.has c.args.store.now) (λ h. false ≡ has_table h c.args.name.now) = rw c.in-Ok-None.field-0-is at c.in-Ok-None.ensures.none in
    none_printed c.args.lines.now (g.S.Store.has c.args.store.now) c.args.name.now (g.K.Sink.taken c.args.output.now) none c.in-Ok-None.ensures.undamaged

pub returns-in-Ok-clause-printed : goal.returns-in-Ok-clause-printed
returns-in-Ok-clause-printed g c =
    let o = c.in-Ok-Some.opened in
    let opened : (o.name ≡ c.args.name.now) × IfSome (g.S.Store.has c.args.store.now) (λ h. IsOpenIn h o) = search rules in
    printed_at_open c.args.lines.now (g.S.Store.has c.args.store.now) o c.args.name.now (g.K.Sink.taken c.args.output.now) (g.K.Sink.taken c.write_lines.new.sink) opened.0 opened.1 c.in-Ok-Some.ensures.undamaged c.in-Ok.ensures.printed

pub returns-in-Err-clause-front : goal.returns-in-Err-clause-front
returns-in-Err-clause-front g c = nothing_front c.args.lines.now (g.S.Store.has c.args.store.now) c.args.name.now (g.K.Sink.taken c.args.output.now)

pub returns-clause-front : goal.returns-clause-front
returns-clause-front g c =
    let o = c.in-Ok-Some.opened in
    let opened : (o.name ≡ c.args.name.now) × IfSome (g.S.Store.has c.args.store.now) (λ h. IsOpenIn h o) = search rules in
    front_at_open c.args.lines.now (g.S.Store.has c.args.store.now) o c.args.name.now (g.K.Sink.taken c.args.output.now) (g.K.Sink.taken c.write_lines.new.sink) opened.0 opened.1 c.in-Err-write_lines.ensures.front

pub returns-in-Ok-None-clause-firm : goal.returns-in-Ok-None-clause-firm
returns-in-Ok-None-clause-firm g c = c.in-Ok-None.ensures.firm

pub returns-in-Ok-clause-firm : goal.returns-in-Ok-clause-firm
returns-in-Ok-clause-firm g c = c.in-Ok-Some.ensures.firm
