use Rattle.std.proofs.Common.{◌∙◌, ap, sym, drop}
use Rattle.std.proofs.lemmas.List.{take_rest}
use Rattle.fd_entries.specs.Table.{entry_fault, entry_in}
use Rattle.fd_toc.specs.Slots.{bad_or}
use Rattle.fd_toc.proofs.Patterns.{slot_is}
use Rattle.fd_toc.proofs.parse.read_slot.Goals as goal

pub returns-in-Some-clause-step : goal.returns-in-Some-clause-step
returns-in-Some-clause-step c =
    ap (λ o. bad_or o (entry_in (drop 1 c.args.bytes.now))) (c.in-Some.ensures.fault ∙ ap (entry_fault c.args.i) (take_rest c.args.bytes.now 1)) ∙ sym (slot_is c.args.i c.args.bytes.now c.in-len1-up.len_at_least c.if-gate-ne79.false)

pub returns-in-None-clause-step : goal.returns-in-None-clause-step
returns-in-None-clause-step c =
    let fault = c.in-None.ensures.fault ∙ ap (entry_fault c.args.i) (take_rest c.args.bytes.now 1) in
    let entry = c.from_body.ensures ∙ ap entry_in (take_rest c.args.bytes.now 1) in
    (λ j. bad_or (fault j) (entry j)) ∙ sym (slot_is c.args.i c.args.bytes.now c.in-len1-up.len_at_least c.if-gate-ne79.false)
