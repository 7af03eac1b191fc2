use Rattle.std.proofs.Common.{◌==◌, ℕ, List, ◌+◌, ◌*◌, length, get_or, refl, sym, ◌∙◌, ap, arith}
use Rattle.fd_entries.proofs.SlotNumbers.{long, opened, closed, in_range, all_read, slot_read}
use Rattle.fd_entries.proofs.numbers.greatest.Goals as goal

pub bounds-bytes-i : goal.bounds-bytes-i
bounds-bytes-i c = omega (arith, c.loop-i.invariant.within c.requires, long c.args.table.now c.requires, ap length c.loop-i.invariant.same)

pub returns-then-bytes-i-ne79 : goal.returns-then-bytes-i-ne79
returns-then-bytes-i-ne79 c =
    let end = closed c.args.table.now c.requires c.loop-i.i (c.loop-i.invariant.within c.requires) (λ is. c.if-bytes-i-ne79.true (ap (λ (l : List ℕ). get_or l (320 + 64 * c.loop-i.i) 0) c.loop-i.invariant.same ∙ is)) in
    all_read c.args.table.now c.requires c.args.w c.loop-i.greatest c.loop-i.i end (c.loop-i.invariant.so_far c.requires)

pub number_at-writer-requires : goal.number_at-writer-requires
number_at-writer-requires c =
    let lt = opened c.args.table.now c.requires c.loop-i.i (c.loop-i.invariant.within c.requires) (ap (λ (l : List ℕ). get_or l (320 + 64 * c.loop-i.i) 0) (sym c.loop-i.invariant.same) ∙ c.if-bytes-i-ne79.false) in
    omega (arith, in_range c.args.table.now c.requires c.loop-i.i lt, ap length c.loop-i.invariant.same)

pub number_at-seq-requires : goal.number_at-seq-requires
number_at-seq-requires c =
    let lt = opened c.args.table.now c.requires c.loop-i.i (c.loop-i.invariant.within c.requires) (ap (λ (l : List ℕ). get_or l (320 + 64 * c.loop-i.i) 0) (sym c.loop-i.invariant.same) ∙ c.if-bytes-i-ne79.false) in
    omega (arith, in_range c.args.table.now c.requires c.loop-i.i lt, ap length c.loop-i.invariant.same)

pub loop-i-preserved : goal.loop-i-preserved
loop-i-preserved c =
    let byte = ap (λ (l : List ℕ). get_or l (320 + 64 * c.loop-i.i) 0) (sym c.loop-i.invariant.same) ∙ c.if-bytes-i-ne79.false in
    record {
      same = c.loop-i.invariant.same;
      within = λ t. let lt = opened c.args.table.now t c.loop-i.i (c.loop-i.invariant.within t) byte in omega (arith, lt);
      so_far = λ t.
          let lt = opened c.args.table.now t c.loop-i.i (c.loop-i.invariant.within t) byte in
          slot_read c.args.table.now t c.as_slice-bytes.result.now c.args.w c.loop-i.greatest c.with_slot-greatest.result c.loop-i.i c.number_at-writer.result c.number_at-seq.result (c.number_at-writer.result == c.args.w)
          c.loop-i.invariant.same lt (c.loop-i.invariant.so_far t) c.number_at-writer.ensures c.number_at-seq.ensures refl c.with_slot-greatest.ensures;
    }
