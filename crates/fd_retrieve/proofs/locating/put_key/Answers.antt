use Rattle.std.proofs.Common.{◌<◌, length, subst, arith}
use Rattle.std.specs.Prelude.{IfSome}
use Rattle.std.proofs.Math.ListN.{length-set}
use Rattle.fd_retrieve.proofs.LocatingLemmas.{put_others, put_own}
use Rattle.fd_retrieve.proofs.locating.put_key.Goals as goal

pub index_mut-requires : goal.index_mut-requires
index_mut-requires c =
    let lt : c.in-Some.number < length c.args.groups.now.items = subst (λ o. IfSome o (λ n. n < length c.args.groups.now.items)) c.in-Some.is c.requires in
    omega (arith, lt, c.args.groups.now.ok.0)

pub returns-in_ok-push-in-Some-clause-own : goal.returns-in_ok-push-in-Some-clause-own
returns-in_ok-push-in-Some-clause-own c =
    let groups = c.args.groups.now.items in
    let lt : c.in-Some.number < length groups = subst (λ o. IfSome o (λ n. n < length groups)) c.in-Some.is c.requires in
    λ n same. put_own groups c.args.of c.in-Some.number n c.index_mut.result.now c.push.new.self c.args.key c.in-Some.is same lt c.index_mut.ensures.value c.in_ok-push-in-Some.ensures.items

pub returns-in_ok-push-in-Some-clause-others : goal.returns-in_ok-push-in-Some-clause-others
returns-in_ok-push-in-Some-clause-others c = λ n differs. put_others c.args.groups.now.items c.args.of c.in-Some.number n c.push.new.self c.in-Some.is differs

pub returns-in_ok-push-in-Some-clause-long : goal.returns-in_ok-push-in-Some-clause-long
returns-in_ok-push-in-Some-clause-long c = length-set c.args.groups.now.items c.in-Some.number c.push.new.self
