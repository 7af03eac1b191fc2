use Rattle.std.proofs.Common.{◌∙◌, ◌∷◌, [], List, ℕ, length, length-append, ap, arith}
use Rattle.std.specs.Prelude.{Vec}
use Rattle.std.specs.declared.alloc.Global.{Global}
use Rattle.fd_retrieve.specs.Located.{keys_in}
use Rattle.fd_retrieve.proofs.LocatingLemmas.{empty_more}
use Rattle.fd_retrieve.proofs.locating.empty_groups.Goals as goal

pub loop-i-init : goal.loop-i-init
loop-i-init c = record { long = ap length c.new-groups.ensures.items; none = λ n. ap (λ (l : List (Vec ℕ Global)). keys_in l n) c.new-groups.ensures.items }

pub loop-i-preserved : goal.loop-i-preserved
loop-i-preserved c = record {
  long = ap length c.in_ok-push.ensures.items ∙ (let long = c.loop-i.invariant.long in omega (arith, long, length-append c.loop-i.groups.items (c.new.result ∷ [])));
  none = empty_more c.loop-i.groups.items c.push.new.self.items c.new.result c.in_ok-push.ensures.items c.new.ensures.items c.loop-i.invariant.none;
}
