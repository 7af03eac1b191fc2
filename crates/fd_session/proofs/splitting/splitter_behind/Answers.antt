use Rattle.std.proofs.Common.{◌∙◌, ap, drop}
use Rattle.fd_sections.specs.Progress.{Progress}
use Rattle.fd_sections.specs.Splitting.{fed, start}
use Rattle.fd_session.proofs.splitting.splitter_behind.Goals as goal

pub returns : goal.returns
returns c =
    c.in_ok-feed.ensures.ok
    ∙ ap (λ (p : Progress). fed p c.split_at.result.1.now) c.in_ok-splitter.ensures.start
    ∙ ap (fed start) (c.split_at.ensures.back ∙ ap (drop c.args.place) c.deref.ensures.value)
