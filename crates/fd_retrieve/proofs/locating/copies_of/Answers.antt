use Rattle.fd_retrieve.proofs.LocatingLemmas.{places_more}
use Rattle.fd_retrieve.proofs.locating.copies_of.Goals as goal

pub loop-i-preserved : goal.loop-i-preserved
loop-i-preserved c =
    places_more c.args.places.now c.args.keys.now c.loop-i.i c.key_at-key.result c.index-places-key.result c.in_ok-again.field-0 c.loop-i.group.items c.push.new.self.items c.key_at-key.ensures.is c.key_at-key.ensures.within c.index-places-key.is
    c.in_ok-again.ensures c.in_ok-push.ensures.items c.loop-i.invariant
