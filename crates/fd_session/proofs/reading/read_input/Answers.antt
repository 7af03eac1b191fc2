use Rattle.std.proofs.Common.{◌≡◌, false, Some, []}
use Rattle.std.specs.Prelude.{IfSome}
use Rattle.fd_session.proofs.Fronts.{on_ok}
use Rattle.fd_session.proofs.reading.read_input.Goals as goal

pub returns-in-Ok-clause-to_end : goal.returns-in-Ok-clause-to_end
returns-in-Ok-clause-to_end g c =
    on_ok c.parse.result (c.in-Ok.past ≡ false) (IfSome (g.I.Source.left c.args.input.now) (λ octets. g.I.Source.left c.read_octets.new.input ≡ Some [])) c.parse.ensures.whole (λ e. c.in-Ok.ensures.end e)
