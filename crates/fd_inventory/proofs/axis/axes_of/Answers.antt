use Rattle.std.proofs.Common.{rules, ◌≡◌, ◌≤◌, ◌++◌, ◌∷◌, [], List, Some, length, subst, string_bytes}
use Rattle.fd_key.specs.Pairs as keys
use Rattle.fd_outcome.specs.Rows.{with_text}
use Rattle.fd_inventory.specs.Axes.{AddsIndex, seen_axes}
use Rattle.fd_inventory.proofs.AxesOf.{halfway_end, halfway_more, nothing_left}
use Rattle.fd_inventory.proofs.axis.axes_of.Goals as goal

pub loop-texts-preserved : goal.loop-texts-preserved
loop-texts-preserved c = λ rs texts are.
    let popped : c.loop-texts.rows.entries ≡ c.pop_last.new.self.entries ++ (c.in-Some.texts, c.in-Some.field-0-1) ∷ [] = search rules in
    let index : c.as_str.result.now ≡ string_bytes c.in-Some.texts.0 = search rules in
    let datum : c.as_str-in-Some.result.now ≡ string_bytes c.in-Some.texts.1 = search rules in
    halfway_more c.loop-texts.rows.entries c.pop_last.new.self.entries (c.in-Some.texts, c.in-Some.field-0-1) c.loop-texts.axes.entries c.add_datum.new.axes.entries rs (c.loop-texts.invariant rs texts are) popped
    (subst (λ i. (ps : List keys.Pair) → length (string_bytes c.in-Some.texts.1) ≤ 256 → with_text [] (string_bytes c.in-Some.texts.1) ≡ Some ps → AddsIndex i ps (seen_axes c.loop-texts.axes.entries) (seen_axes c.add_datum.new.axes.entries)) index
    (subst (λ d. (ps : List keys.Pair) → length d ≤ 256 → with_text [] d ≡ Some ps → AddsIndex c.as_str.result.now ps (seen_axes c.loop-texts.axes.entries) (seen_axes c.add_datum.new.axes.entries)) datum c.in_ok-add_datum.ensures))

pub returns : goal.returns
returns c = λ rs texts are.
    halfway_end c.loop-texts.rows.entries c.loop-texts.axes.entries rs (c.loop-texts.invariant rs texts are) (nothing_left c.pop_last.result c.loop-texts.rows.entries c.pop_last.ensures.variant.1 c.in_default.is)
