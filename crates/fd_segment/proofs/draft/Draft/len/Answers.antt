use Rattle.std.proofs.Common.{◌∙◌, ap, length}
use Rattle.fd_segment.specs.Filling.{Filling}
use Rattle.fd_segment.proofs.Counting.{records_count}
use Rattle.fd_segment.proofs.draft.Draft.len.Goals as goal

pub returns-clause-distinct : goal.returns-clause-distinct
returns-clause-distinct g c = λ b puts.
    c.len.ensures.count ∙ ap (λ (d : Filling). length d.held.records) c.self.view_is ∙ records_count b c.args.self.now.held.records puts.records
