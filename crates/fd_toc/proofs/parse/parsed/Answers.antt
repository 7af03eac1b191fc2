use Rattle.std.proofs.Common.{◌∙◌, ap, sym, arith}
use Rattle.std.proofs.lemmas.List.{take_rest}
use Rattle.fd_entries.specs.Table.{run_from}
use Rattle.fd_entries.specs.Table.{AreOctets}
use Rattle.fd_entries.proofs.Inverse.{table_listed}
use Rattle.fd_toc.proofs.SlotSteps.{listed_bad, listed_runs, on_not}
use Rattle.fd_toc.proofs.parse.parsed.Goals as goal

pub returns-in-Some-clause-lists : goal.returns-in-Some-clause-lists
returns-in-Some-clause-lists c = listed_bad c.args.dataset.now c.deref.result.now c.args.bytes.now c.in-Some.fault (c.deref.ensures.value ∙ c.in-Ok.ensures.bytes) c.in-Some.ensures.differs

pub returns-in-Ok-runs-clause-lists : goal.returns-in-Ok-runs-clause-lists
returns-in-Ok-runs-clause-lists c =
    listed_runs c.args.dataset.now c.deref.result.now c.args.bytes.now (c.deref.ensures.value ∙ c.in-Ok.ensures.bytes) c.in-None.ensures.differs
    ∙ ap (run_from 65535 0) (sym (take_rest c.args.bytes.now 320))
    ∙ c.in-Ok-runs.ensures.each

pub returns-in-Ok-runs-clause-table : goal.returns-in-Ok-runs-clause-table
returns-in-Ok-runs-clause-table c =
    let octets : AreOctets c.args.bytes.now = record { each = λ i. let h = c.type_inv.bytes i in omega (arith, h) } in
    table_listed c.args.dataset.now c.args.bytes.now c.in-Ok-runs.entries.items c.requires octets (returns-in-Ok-runs-clause-lists c)

pub returns-clause-lists : goal.returns-clause-lists
returns-clause-lists c =
    on_not c.in-Err.fault _ _
    (listed_runs c.args.dataset.now c.deref.result.now c.args.bytes.now (c.deref.ensures.value ∙ c.in-Ok.ensures.bytes) c.in-None.ensures.differs
    ∙ ap (run_from 65535 0) (sym (take_rest c.args.bytes.now 320)))
    c.in-Err.ensures.each
