use Rattle.std.proofs.Common.{rules, ◌≡◌, ◌∙◌, ap, string_bytes}
use Rattle.fd_outcome.specs.Rows.{order, put}
use Rattle.fd_inventory.specs.Axes.{seen_values}
use Rattle.fd_inventory.proofs.AxisLines.{values_insert}
use Rattle.fd_inventory.proofs.axis.add_value.Goals as goal

pub returns : goal.returns
returns c =
    let text : string_bytes c.in_ok-text.text ≡ c.args.value.now = search rules in
    ap seen_values c.in_ok-insert.ensures.entries ∙ values_insert c.in_ok-text.text c.args.values.now.entries ∙ ap (λ t. put order t (seen_values c.args.values.now.entries)) text
