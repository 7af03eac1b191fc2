use Rattle.std.proofs.Common.{◌∙◌, sym, ap, nat_cmp}
use Rattle.std.specs.Cmp.Lexicographic.{slice_cmp}
use Rattle.fd_index.specs.StoredRecords.{record_of, records_of}
use Rattle.fd_index.proofs.Searching.{gone, found, lower, higher, middle}
use Rattle.fd_index.proofs.stored.place_in.Goals as goal

pub loop-low-preserved-in-Less : goal.loop-low-preserved-in-Less
loop-low-preserved-in-Less c =
    let s = c.index-records-middle.result in
    let m = middle c.args.records.now c.args.key.now c.loop-low.low c.loop-low.high s c.loop-low.invariant c.loop-low-test.true c.index-records-middle.is in
    lower c.args.key.now (records_of c.args.records.now) c.loop-low.low c.loop-low.high _ (record_of s) c.requires c.loop-low.invariant m.from m.under m.at
    (ap (λ k. slice_cmp nat_cmp c.args.key.now k) (sym c.as_slice.ensures.value) ∙ sym c.in-Less.ensures)

pub loop-low-preserved : goal.loop-low-preserved
loop-low-preserved c =
    let s = c.index-records-middle.result in
    let m = middle c.args.records.now c.args.key.now c.loop-low.low c.loop-low.high s c.loop-low.invariant c.loop-low-test.true c.index-records-middle.is in
    higher c.args.key.now (records_of c.args.records.now) c.loop-low.low c.loop-low.high _ (record_of s) c.requires c.loop-low.invariant m.from m.under m.at
    (ap (λ k. slice_cmp nat_cmp c.args.key.now k) (sym c.as_slice.ensures.value) ∙ sym c.in-Greater.ensures)

pub returns-in-Equal : goal.returns-in-Equal
returns-in-Equal c =
    let s = c.index-records-middle.result in
    let m = middle c.args.records.now c.args.key.now c.loop-low.low c.loop-low.high s c.loop-low.invariant c.loop-low-test.true c.index-records-middle.is in
    found c.args.key.now (records_of c.args.records.now) _ (record_of s) c.requires m.at
    (ap (λ k. slice_cmp nat_cmp c.args.key.now k) (sym c.as_slice.ensures.value) ∙ sym c.in-Equal.ensures)

pub returns : goal.returns
returns c = gone c.args.key.now (records_of c.args.records.now) c.loop-low.low c.loop-low.high c.requires c.loop-low.invariant c.loop-low-test.false
