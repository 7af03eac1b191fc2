use Rattle.std.proofs.Common.{◌≡◌, ◌∙◌, ap, sym, subst, Err}
use Rattle.fd_entries.specs.Table.{listed}
use Rattle.fd_toc.specs.declared.parse.ReadFault.{ReadFault}
use Rattle.fd_toc.specs.Slots.{OnNot}
use Rattle.fd_toc.proofs.Fronts.{listed_told, table_told}
use Rattle.fd_toc.proofs.load.read_entries.Goals as goal

pub returns-in-Ok-parsed-clause-lists : goal.returns-in-Ok-parsed-clause-lists
returns-in-Ok-parsed-clause-lists g c =
    listed_told c.args.dataset.now c.in-Ok.bytes.items (g.T.Disk.file c.args.table.now) _ c.requires c.in-Ok.ensures.bytes (ap (listed c.args.dataset.now) (sym c.deref.ensures.value) ∙ c.in-Ok-parsed.ensures.lists)

pub returns-in-Ok-parsed-clause-table : goal.returns-in-Ok-parsed-clause-table
returns-in-Ok-parsed-clause-table g c =
    table_told c.args.dataset.now c.in-Ok.bytes.items c.deref.result.now (g.T.Disk.file c.args.table.now) c.in-Ok-parsed.entries.items c.in-Ok.ensures.bytes c.deref.ensures.value c.in-Ok-parsed.ensures.table

pub returns-in-Err-Not-clause-not_a_table : goal.returns-in-Err-Not-clause-not_a_table
returns-in-Err-Not-clause-not_a_table g c =
    let named : listed c.args.dataset.now c.deref.result.now ≡ Err c.in-Err-Not.not = subst (λ (e : ReadFault). OnNot e (λ f. listed c.args.dataset.now c.deref.result.now ≡ Err f)) c.in-Err-Not.field-0-is c.in-Err-Not.ensures.lists in
    listed_told c.args.dataset.now c.in-Ok.bytes.items (g.T.Disk.file c.args.table.now) _ c.requires c.in-Ok.ensures.bytes (ap (listed c.args.dataset.now) (sym c.deref.ensures.value) ∙ named)
