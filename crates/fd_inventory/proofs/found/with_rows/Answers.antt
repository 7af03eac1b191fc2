use Rattle.std.proofs.Common.{rules, ◌≡◌, ◌∙◌, sym, subst, string_bytes}
use Rattle.std.specs.Map.Iter.{deref_pair}
use Rattle.std.proofs.lemmas.Map.Iter.{rest_more, rest_all}
use Rattle.fd_inventory.specs.Found.{AreLeft}
use Rattle.fd_inventory.proofs.Finding.{left_all, left_less, left_none}
use Rattle.fd_inventory.proofs.found.with_rows.Goals as goal

pub loop-texts-init : goal.loop-texts-init
loop-texts-init c =
    let is : c.into_iter-texts-iterator.result ≡ c.args.rows.now.entries = search rules in
    λ rs have are. subst (λ es. AreLeft c.args.dataset.now c.args.found c.args.found es rs) (sym is) (left_all c.args.dataset.now c.args.found c.args.rows.now.entries rs have are)

pub loop-texts-preserved : goal.loop-texts-preserved
loop-texts-preserved c =
    let more = rest_more deref_pair c.loop-texts.texts-iterator c.next.new.self c.next.result (c.in-Some.texts, c.in-Some.field-0-1) c.in-Some.is c.next.ensures.steps in
    let index : c.as_str.result.now ≡ string_bytes c.in-Some.texts.now.0 = search rules in
    let datum : c.as_str-in-loop-texts.result.now ≡ string_bytes c.in-Some.texts.now.1 = search rules in
    λ rs have are.
    left_less c.args.dataset.now c.args.found c.loop-texts.found _ (c.in-Some.texts.now, c.in-Some.field-0-1.now) c.next.new.self c.loop-texts.texts-iterator rs more
    (λ r has i d. c.in_ok-found.ensures r has (index ∙ i) (datum ∙ d)) (c.loop-texts.invariant rs have are)

pub returns : goal.returns
returns c = λ rs have are.
    let none = rest_all deref_pair c.loop-texts.texts-iterator c.next.new.self c.next.result c.in-None.is c.next.ensures.steps in
    left_none c.args.dataset.now c.args.found c.loop-texts.found c.loop-texts.texts-iterator rs none (c.loop-texts.invariant rs have are)
