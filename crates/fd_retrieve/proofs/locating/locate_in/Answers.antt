use Rattle.std.proofs.Common.{◌∙◌, ◌<◌, length, ap, sym, subst, arith, All}
use Rattle.std.specs.Prelude.{IfSome}
use Rattle.fd_finding.specs.Spots.{IsWithin}
use Rattle.fd_retrieve.specs.Located.{AreWithin, IsFilled, members}
use Rattle.fd_retrieve.proofs.DamageLemmas.{damaged_in}
use Rattle.fd_retrieve.proofs.DatasetLemmas.{at_get}
use Rattle.fd_retrieve.proofs.LocatingLemmas.{found_answers, group_at, located_more}
use Rattle.fd_retrieve.proofs.locating.locate_in.Goals as goal

pub keys_of-keys-requires : goal.keys_of-keys-requires
keys_of-keys-requires g c = omega (arith, c.requires.number, c.requires.dealt.long, ap length c.as_slice.ensures.value)

pub group_of-requires : goal.group_of-requires
group_of-requires g c =
    let d = c.args.dealt.now in
    (group_at c.args.opened.now c.args.places.now d.numbers.items d.groups.items c.as_slice.result.now c.args.number c.keys_of-keys.result.now c.requires.dealt c.as_slice.ensures.value c.keys_of-keys.ensures).within

pub fill-requires-clause-long : goal.fill-requires-clause-long
fill-requires-clause-long g c = ap length c.deref.ensures.value ∙ (c.in-Ok-find_all.ensures.count ∙ (ap length c.as_slice-2.ensures ∙ c.in-Ok.ensures.long))

pub fill-requires-clause-within : goal.fill-requires-clause-within
fill-requires-clause-within g c =
    let d = c.args.dealt.now in
    let keys = c.keys_of-keys.result.now in
    subst (λ n. AreWithin n keys) (sym c.requires.long)
    (group_at c.args.opened.now c.args.places.now d.numbers.items d.groups.items c.as_slice.result.now c.args.number keys c.requires.dealt c.as_slice.ensures.value c.keys_of-keys.ensures).within

pub returns-in-Ok-find_all-clause-located : goal.returns-in-Ok-find_all-clause-located
returns-in-Ok-find_all-clause-located g c = λ by.
    let o = c.index-opened-number.result in
    let d = c.args.dealt.now in
    let keys = c.keys_of-keys.result.now in
    let lt : c.args.number < length c.args.opened.now = omega (arith, c.requires.number) in
    let at = at_get c.args.opened.now c.args.number o lt c.index-opened-number.is in
    let group = group_at c.args.opened.now c.args.places.now d.numbers.items d.groups.items c.as_slice.result.now c.args.number keys c.requires.dealt c.as_slice.ensures.value c.keys_of-keys.ensures in
    located_more c.args.opened.now c.args.places.now d.numbers.items c.args.number o (members c.in-Ok.group) keys c.in-Ok-find_all.found.items c.args.located.now c.fill.new.located c.requires.dealt.numbers at group c.in-Ok.ensures
    (found_answers o c.snapshot.result.now (members c.in-Ok.group) c.as_slice-2.result.now c.in-Ok-find_all.found.items c.snapshot.ensures c.as_slice-2.ensures c.in-Ok-find_all.ensures.answer)
    (subst (λ ss. All (λ s. IfSome s (IsWithin ss)) c.in-Ok-find_all.found.items) c.snapshot.ensures c.in-Ok-find_all.ensures.within)
    (subst (λ xs. IsFilled c.args.number keys xs (length keys) c.args.located.now c.fill.new.located) c.deref.ensures.value c.fill.ensures)
    by

pub returns-in-Err-Damaged-clause-damaged : goal.returns-in-Err-Damaged-clause-damaged
returns-in-Err-Damaged-clause-damaged g c =
    let o = c.index-opened-number.result in
    let lt : c.args.number < length c.args.opened.now = omega (arith, c.requires.number) in
    let at = at_get c.args.opened.now c.args.number o lt c.index-opened-number.is in
    rw c.in-Err-Damaged.field-0-is (damaged_in c.args.opened.now c.args.number o c.snapshot.result.now _ c.in-Err-Damaged.damage lt at c.snapshot.ensures (rw c.in-Err-Damaged.field-0-is at c.in-Err-Damaged.ensures.damaged))
