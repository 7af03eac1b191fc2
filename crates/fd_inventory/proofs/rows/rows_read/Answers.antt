use Rattle.std.proofs.Common.{rules, ◌≡◌, ◌+◌, ◌-◌, arith, sym, subst, drop, [], Err}
use Rattle.fd_inventory.specs.Shown.{AreRows}
use Rattle.fd_outcome.specs.Rows.{rows_from}
use Rattle.fd_inventory.proofs.Batches.{among_bad, one_batch}
use Rattle.fd_inventory.proofs.Recording.{rest_all, rest_more, rest_none}
use Rattle.fd_inventory.proofs.rows.rows_read.Goals as goal

pub loop-left-init : goal.loop-left-init
loop-left-init g c =
    let empty : AreRows c.new-rows.result.entries [] = search rules in
    record {
      few = omega (arith, c.len-left.ensures.count);
      lead = c.requires.lead;
      rows = rest_none c.args.snapshot.now c.len-left.result (λ t. AreRows c.new-rows.result.entries (rows_from c.args.dataset.now c.args.partial.now t (drop c.len-left.result t))) (omega (arith, c.len-left.ensures.count))
          (λ t none. subst (λ bs. AreRows c.new-rows.result.entries (rows_from c.args.dataset.now c.args.partial.now t bs)) (sym none) empty);
    }

pub loop-left-preserved : goal.loop-left-preserved
loop-left-preserved g c =
    let n = c.loop-left.left - 1 in
    let next : c.loop-left.left ≡ n + 1 = omega (arith, c.loop-left-test.true) in
    record {
      few = omega (arith, c.loop-left.invariant.few);
      lead = c.in-Ok.ensures.lead;
      rows = rest_more c.args.snapshot.now n c.loop-left.left c.segment.result.now c.in_ok-index.index
          (λ t. AreRows c.loop-left.rows.entries (rows_from c.args.dataset.now c.args.partial.now t (drop c.loop-left.left t))) (λ t. AreRows c.add_records.new.rows.entries (rows_from c.args.dataset.now c.args.partial.now t (drop n t)))
          next c.segment.ensures c.in_ok-index.ensures.records
          (λ t b at few lengths rows. one_batch c.args.dataset.now c.args.partial.now t n c.loop-left.left b c.in_ok-index.index c.loop-left.rows.entries c.add_records.new.rows.entries next at few lengths c.in-Ok.ensures.rows rows)
          c.loop-left.invariant.rows;
    }

pub returns-in_err-index-clause-damaged : goal.returns-in_err-index-clause-damaged
returns-in_err-index-clause-damaged g c =
    let e : c.from_residual.result ≡ Err c.in_err-index.field-0.0 = search rules in
    rw e (among_bad c.in_err-index.field-0.0 c.args.snapshot.now (c.loop-left.left - 1) c.segment.result.now c.segment.ensures c.in_err-index.ensures.damaged)

pub returns-clause-rows : goal.returns-clause-rows
returns-clause-rows g c = rest_all c.args.snapshot.now c.loop-left.left (λ k t. AreRows c.loop-left.rows.entries (rows_from c.args.dataset.now c.args.partial.now t (drop k t))) (omega (arith, c.loop-left-test.false)) c.loop-left.invariant.rows
