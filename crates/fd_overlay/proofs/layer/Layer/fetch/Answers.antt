use Rattle.fd_overlay.proofs.layer.Layer.fetch.Goals as goal

pub fetch-requires-clause-fits : goal.fetch-requires-clause-fits
fetch-requires-clause-fits g c κs within = c.every_snapshot.ensures.those c.self.inside.lenses c.self.inside.snapshot c.self.invariant

pub invariant_of-self : goal.invariant_of-self
invariant_of-self g c = c.fetch.ensures.those c.self.invariant
