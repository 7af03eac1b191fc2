use Rattle.std.proofs.Common.{rules, ◌-◌, arith, sym, subst}
use Rattle.fd_inventory.proofs.Batches.{start, more, rows_behind}
use Rattle.fd_inventory.specs.Shown.{AreRows}
use Rattle.fd_inventory.proofs.rows.add_records.Goals as goal

pub loop-left-init : goal.loop-left-init
loop-left-init c = record {
  few = omega (arith, c.len-left.ensures.count);
  lead = c.requires.lead;
  rows = λ front later b lengths numbered rows.
      subst (λ n. AreRows c.args.rows.now.entries (rows_behind c.args.dataset.now c.args.partial.now front b later n)) (sym c.len-left.ensures.count)
      (start c.args.dataset.now c.args.partial.now front later b c.args.index.now c.args.rows.now.entries lengths rows);
}

pub loop-left-preserved : goal.loop-left-preserved
loop-left-preserved c = record {
  few = omega (arith, c.loop-left.invariant.few);
  lead = c.in_ok-reader.ensures.lead;
  rows = λ front later b lengths numbered rows.
      more c.args.dataset.now c.args.partial.now front later b c.args.index.now (c.loop-left.left - 1) c.loop-left.left _ c.args.number c.loop-left.rows.entries c.add_record.new.rows.entries
      lengths (omega (arith, c.loop-left-test.true)) c.record-len.ensures numbered (search rules) (c.loop-left.invariant.rows front later b lengths numbered rows);
}

pub add_record-requires-clause-lead : goal.add_record-requires-clause-lead
add_record-requires-clause-lead c = c.loop-left.invariant.lead
