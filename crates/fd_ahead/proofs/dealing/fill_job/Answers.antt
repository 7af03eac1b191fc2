use Rattle.fd_ahead.proofs.dealing.fill_job.Goals as goal

pub returns-clause-job : goal.returns-clause-job
returns-clause-job g c = λ os are job. record { segments = job.segments; wanted = c.fill.ensures.wanted os are job.wanted; read = job.read }
