use Rattle.std.proofs.Common.{◌≢◌, ◌+◌, ◌*◌, ℕ, get_or, sym, ◌∙◌, ap, arith}
use Rattle.fd_entries.proofs.SlotNumbers.{entry_read, entry_whole, listed_all}
use Rattle.fd_entries.proofs.SlotNumbers.{closed, long, opened}
use Rattle.fd_entries.proofs.listed.entries_of.Goals as goal

pub bounds-table-gate_at : goal.bounds-table-gate_at
bounds-table-gate_at c = let within = c.loop-i.invariant.within c.requires in omega (arith, within, long c.args.table.now c.requires, c.gate_at.ensures.place)

pub returns-then-table-gate_at-ne-OPEN : goal.returns-then-table-gate_at-ne-OPEN
returns-then-table-gate_at-ne-OPEN c =
    let shut : get_or c.args.table.now (320 + 64 * c.loop-i.i) 0 ≢ 79 = λ is. c.if-table-gate_at-ne-OPEN.true (ap (λ (n : ℕ). get_or c.args.table.now n 0) c.gate_at.ensures.place ∙ is) in
    let end = closed c.args.table.now c.requires c.loop-i.i (c.loop-i.invariant.within c.requires) shut in
    c.loop-i.invariant.so_far c.requires ∙ listed_all c.args.table.now c.requires c.loop-i.i end

pub entry_at-requires-clause-whole : goal.entry_at-requires-clause-whole
entry_at-requires-clause-whole c =
    let open_ = sym (ap (λ (n : ℕ). get_or c.args.table.now n 0) c.gate_at.ensures.place) ∙ c.if-table-gate_at-ne-OPEN.false in
    let lt = opened c.args.table.now c.requires c.loop-i.i (c.loop-i.invariant.within c.requires) open_ in
    entry_whole c.args.table.now c.requires c.loop-i.i lt

pub loop-i-preserved : goal.loop-i-preserved
loop-i-preserved c =
    let open_ = sym (ap (λ (n : ℕ). get_or c.args.table.now n 0) c.gate_at.ensures.place) ∙ c.if-table-gate_at-ne-OPEN.false in
    record {
      within = λ t. let lt = opened c.args.table.now t c.loop-i.i (c.loop-i.invariant.within t) open_ in omega (arith, lt);
      so_far = λ t.
          let lt = opened c.args.table.now t c.loop-i.i (c.loop-i.invariant.within t) open_ in
          entry_read c.args.table.now t c.loop-i.i c.loop-i.entries c.push.new.self c.entry_at.result lt c.in_ok-push.ensures.ok c.entry_at.ensures (c.loop-i.invariant.so_far t);
    }
