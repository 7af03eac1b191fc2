use Rattle.std.proofs.Common.{◌≡◌, ◌∙◌, ap, sym, length}
use Rattle.std.proofs.lemmas.Bool.Decides.{Decides-eqb}
use Rattle.fd_segment.specs.Filling.{Filling}
use Rattle.fd_segment.proofs.Counting.{no_records, no_pairs}
use Rattle.fd_segment.proofs.draft.Draft.is_empty.Goals as goal

pub returns-clause-pairs : goal.returns-clause-pairs
returns-clause-pairs g c = λ b puts.
    let same : c.len.result ≡ length c.args.self.now.held.records = c.len.ensures.count ∙ ap (λ (d : Filling). length d.held.records) c.self.view_is in (
      (λ is. no_records b c.args.self.now.held.records puts.records (sym same ∙ (Decides-eqb c.len.result 0).0 is)),
      λ is. (Decides-eqb c.len.result 0).1 (same ∙ no_pairs b c.args.self.now.held.records puts.records is),
    )
