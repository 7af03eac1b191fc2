use Rattle.std.proofs.Common.{◌<◌, ℕ, List, Option, length, get_or, sym, subst}
use Rattle.std.specs.Prelude.{IfSome}
use Rattle.fd_retrieve.proofs.LocatingLemmas.{dealt_all, numbers_within}
use Rattle.fd_retrieve.proofs.locating.deal.Goals as goal

pub groups_of-requires : goal.groups_of-requires
groups_of-requires g c = subst (λ (ns : List (Option ℕ)). (k : ℕ) (d : Option ℕ) → k < length ns → IfSome (get_or ns k d) (λ n. n < length c.args.opened.now)) (sym c.as_slice.ensures.value)
    (numbers_within c.args.opened.now c.args.places.now c.in_ok-numbers.numbers.items c.in_ok-numbers.ensures)

pub returns : goal.returns
returns g c =
    dealt_all c.args.opened.now c.args.places.now c.in_ok-numbers.numbers.items c.as_slice.result.now c.in_ok-groups.groups.items c.in_ok-numbers.ensures c.as_slice.ensures.value c.in_ok-groups.ensures.long c.in_ok-groups.ensures.groups
