use Rattle.fd_ahead.proofs.stock.take_from.Goals as goal

pub returns : goal.returns
returns g c = λ os job ready. let both = c.take_all.ensures os job.read ready in (record { segments = job.segments; wanted = job.wanted; read = both.0 }, both.1)
