use Rattle.std.proofs.Common.{rules, ◌≡◌, ◌∙◌, ap}
use Rattle.std.specs.Arc.{arc_value}
use Rattle.fd_dataset.proofs.Lists.{longer_of}
use Rattle.fd_dataset.proofs.dataset.longer.Goals as goal

pub returns-clause-of : goal.returns-clause-of
returns-clause-of g c = λ name all one.
    let copy : arc_value c.in_ok-try_clone.field-0 ≡ arc_value c.args.segment.now = search rules in
    longer_of name c.in_ok-all.all.items c.push.new.self.items c.in_ok-try_clone.field-0 (search rules) (c.in_ok-all.ensures.of name all) (ap (λ v. v.dataset) copy ∙ one)
