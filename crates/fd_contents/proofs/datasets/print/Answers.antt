use Rattle.std.proofs.Common.{◌≡◌, IfSome, List, ℕ, Some, subst}
use Rattle.fd_io.specs.Streams.{TakesFront}
use Rattle.fd_spelling.specs.Texts.{texts}
use Rattle.fd_contents.specs.Printed.{ArePrinted}
use Rattle.fd_contents.specs.Texts.{texts_for}
use Rattle.fd_retrieve.specs.Ready.{AreFirmOf}
use Rattle.fd_contents.proofs.Firmly.{told_any}
use Rattle.fd_contents.proofs.Names.{named_lines, of_names}
use Rattle.fd_contents.proofs.datasets.print.Goals as goal

pub returns-in-Ok-print_each-clause-printed : goal.returns-in-Ok-print_each-clause-printed
returns-in-Ok-print_each-clause-printed g c =
    let has = g.S.Store.has c.args.store.now in
    let mid = g.S.Store.has c.names.new.self in
    let a = g.K.Sink.taken c.args.output.now in
    let b = g.K.Sink.taken c.print_each.new.output in
    let l = c.args.lines.now in
    let own = subst (λ ns. IfSome mid (λ h. ArePrinted l h (texts ns) a b)) c.deref.ensures.value c.in-Ok-print_each.ensures.printed in
    let here = subst (λ o. IfSome o (λ h. ArePrinted l h (texts c.in-Ok.names.items) a b)) c.names.ensures.has own in
    of_names has c.in-Ok.names.items (g.S.Store.out c.args.store.now) (λ h names. ArePrinted l h names a b) c.requires.home c.in-Ok.ensures.sorted c.in-Ok.ensures.each here

pub returns-clause-front : goal.returns-clause-front
returns-clause-front g c =
    let has = g.S.Store.has c.args.store.now in
    let mid = g.S.Store.has c.names.new.self in
    let R = TakesFront (g.K.Sink.taken c.args.output.now) (g.K.Sink.taken c.print_each.new.output) in
    let l = c.args.lines.now in
    let own = subst (λ ns. IfSome mid (λ h. (text : List ℕ) → texts_for l h (texts ns) ≡ Some text → R text)) c.deref.ensures.value c.in-Err.ensures.front in
    let here = subst (λ o. IfSome o (λ h. (text : List ℕ) → texts_for l h (texts c.in-Ok.names.items) ≡ Some text → R text)) c.names.ensures.has own in
    named_lines has (λ h names text. texts_for l h names ≡ Some text) R
    (of_names has c.in-Ok.names.items (g.S.Store.out c.args.store.now) (λ h names. (text : List ℕ) → texts_for l h names ≡ Some text → R text) c.requires.home c.in-Ok.ensures.sorted c.in-Ok.ensures.each here)

pub returns-in-Ok-print_each-clause-firm : goal.returns-in-Ok-print_each-clause-firm
returns-in-Ok-print_each-clause-firm g c =
    let has = g.S.Store.has c.args.store.now in
    let new = g.S.Store.has c.print_each.new.store in
    let own = subst (λ ns. IfSome new (λ i. AreFirmOf i (texts ns))) c.deref.ensures.value c.in-Ok-print_each.ensures.firm in
    of_names has c.in-Ok.names.items (g.S.Store.out c.args.store.now) (λ h names. IfSome new (λ i. AreFirmOf i names)) c.requires.home c.in-Ok.ensures.sorted c.in-Ok.ensures.each (told_any has (IfSome new (λ i. AreFirmOf i (texts c.in-Ok.names.items))) own)
