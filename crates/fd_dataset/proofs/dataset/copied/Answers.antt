use Rattle.std.proofs.Common.{rules, ◌≡◌, ap, ◌∙◌}
use Rattle.std.specs.Arc.{arc_value}
use Rattle.fd_dataset.specs.Listed.{listing, listing_of}
use Rattle.fd_segment.specs.Shared.{entry_of}
use Rattle.fd_dataset.proofs.Lists.{one_more, one_more_of}
use Rattle.fd_dataset.proofs.dataset.copied.Goals as goal

pub loop-i-preserved : goal.loop-i-preserved
loop-i-preserved g c =
    let copy : arc_value c.in_ok-try_clone.field-0 ≡ arc_value c.index.result.now = search rules in
    let same = copy ∙ ap arc_value c.index.ensures in (
      search rules,
      one_more listing_of c.args.segments.now.items c.loop-i.all.items c.push.new.self.items c.loop-i.i c.in_ok-try_clone.field-0 c.index.result.now c.loop-i.invariant.1 (search rules) (search rules)
          (ap listing same),
      one_more entry_of c.args.segments.now.items c.loop-i.all.items c.push.new.self.items c.loop-i.i c.in_ok-try_clone.field-0 c.index.result.now c.loop-i.invariant.2 (search rules) (search rules) (ap (λ v. v.files.entry) same),
      λ name all. one_more_of name c.args.segments.now.items c.loop-i.all.items c.push.new.self.items c.loop-i.i c.in_ok-try_clone.field-0 c.index.result.now (c.loop-i.invariant.3 name all) all (search rules) (search rules) (ap (λ v. v.dataset) same),
    )
