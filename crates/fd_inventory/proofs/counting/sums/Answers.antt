use Rattle.std.proofs.Common.{◌≡◌, ◌+◌, ◌-◌, ◌∙◌, arith, ap, Some, slice_get, map}
use Rattle.std.specs.Prelude.{option_map}
use Rattle.std.proofs.lemmas.Option.{slice_get-map}
use Rattle.fd_segment.specs.Held.{Standing}
use Rattle.fd_inventory.proofs.Counts.{sums_more}
use Rattle.fd_inventory.proofs.counting.sums.Goals as goal

pub loop-left-preserved : goal.loop-left-preserved
loop-left-preserved g c =
    let n = c.loop-left.left - 1 in
    let seg = c.segment.result.now in
    let at : slice_get c.args.snapshot.now n ≡ Some seg = c.segment.ensures in
    let entry = λ (s : Standing). s.files.entry in
    let listed : slice_get (map entry c.args.snapshot.now) n ≡ Some (entry seg) = slice_get-map entry c.args.snapshot.now n ∙ ap (option_map entry) at in
    let more = sums_more (map entry c.args.snapshot.now) n c.loop-left.left (entry seg) c.loop-left.fields c.loop-left.bytes (omega (arith, c.loop-left-test.true)) listed c.loop-left.invariant.fields c.loop-left.invariant.bytes in
    record {
      few = omega (arith, c.loop-left.invariant.few);
      most = c.loop-left.invariant.most;
      fields = c.plus_fields-fields.ensures.sum ∙ ap (λ e. c.loop-left.fields + e.fields) c.entry-entry.ensures ∙ more.0;
      bytes = c.plus_length-bytes.ensures.sum ∙ ap (λ e. c.loop-left.bytes + e.fields_len) c.entry-entry.ensures ∙ more.1;
      small = omega (arith, c.loop-left-test.true, c.loop-left.invariant.small, c.loop-left.invariant.few, c.plus_fields-fields.ensures.most);
      short = omega (arith, c.loop-left-test.true, c.loop-left.invariant.short, c.loop-left.invariant.few, c.plus_length-bytes.ensures.most);
    }
