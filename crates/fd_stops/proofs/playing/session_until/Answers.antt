use Rattle.fd_stops.proofs.Sessions.{found_of_session}
use Rattle.fd_stops.proofs.playing.session_until.Goals as goal

pub returns-clause-left : goal.returns-clause-left
returns-clause-left g c = found_of_session _ _ _ _ _ _ (g.W.Input.Source.left c.args.objects.now.input) (g.W.Store.Store.has c.args.objects.now.store.inner) (g.W.Store.Store.has c.session.new.objects.store.inner) c.session.ensures.ran.ends
