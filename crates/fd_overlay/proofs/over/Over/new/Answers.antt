use Rattle.std.proofs.Common.{rules, ◌∙◌, sym}
use Rattle.std.proofs.lemmas.List.{map-id}
use Rattle.std.proofs.lemmas.Iterator.Adapters.{YieldsList-from_vec}
use Rattle.std.proofs.lemmas.Iterator.Consumers.{YieldsList-end}
use Rattle.fd_overlay.proofs.over.Over.new.Goals as goal

pub returns : goal.returns
returns g c =
    let t = YieldsList-end (YieldsList-from_vec c.args.layers.items (search rules) (search rules)) c.loop-snapshot.yielded c.loop-snapshot.snapshot-iterator c.loop-snapshot.yielded_by c.next.result c.next.new.self c.in-None.is c.next.ensures.steps in
    c.loop-snapshot.invariant.same ∙ (sym (map-id c.loop-snapshot.yielded) ∙ t.0)
