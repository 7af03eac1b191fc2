use Rattle.std.proofs.Common.{◌≡◌, ◌∙◌, ◌<◌, ℕ, length, get_or, sym, subst, arith}
use Rattle.std.specs.Prelude.{IfSome, Option}
use Rattle.fd_retrieve.specs.Located.{AreGroups}
use Rattle.fd_retrieve.proofs.LocatingLemmas.{groups_more, groups_none}
use Rattle.fd_retrieve.proofs.locating.groups_of.Goals as goal

pub loop-i-init : goal.loop-i-init
loop-i-init c = record {
  long = c.in_ok-groups.ensures.long;
  groups = groups_none c.args.numbers.now c.in_ok-groups.groups.items c.in_ok-groups.ensures.none;
}

pub put_key-requires : goal.put_key-requires
put_key-requires c =
    let lt : c.loop-i.i < length c.args.numbers.now = omega (arith, c.loop-i-test.true) in
    let each : (d : Option ℕ) → IfSome (get_or c.args.numbers.now c.loop-i.i d) (λ n. n < length c.loop-i.groups.items) =
    λ (d : Option ℕ). subst (λ (m : ℕ). IfSome (get_or c.args.numbers.now c.loop-i.i d) (λ n. n < m)) (sym c.loop-i.invariant.long) (c.requires c.loop-i.i d lt) in
    each _

pub loop-i-preserved : goal.loop-i-preserved
loop-i-preserved c =
    let lt : c.loop-i.i < length c.args.numbers.now = omega (arith, c.loop-i-test.true) in
    record {
      long = c.in_ok-put_key.ensures.long ∙ c.loop-i.invariant.long;
      groups = groups_more c.args.numbers.now c.loop-i.i _ lt c.loop-i.groups.items c.put_key.new.groups.items c.in_ok-put_key.ensures.own c.in_ok-put_key.ensures.others c.loop-i.invariant.groups;
    }

pub returns-clause-groups : goal.returns-clause-groups
returns-clause-groups c =
    let all : c.loop-i.i ≡ length c.args.numbers.now = omega (arith, c.loop-i-test.false, c.loop-i.auto.i-end) in
    subst (λ (k : ℕ). AreGroups c.args.numbers.now k c.loop-i.groups.items) all c.loop-i.invariant.groups
