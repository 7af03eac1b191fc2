use Rattle.std.proofs.Common.{◌≡◌, ◌+◌, ◌-◌, ◌++◌, ◌∷◌, [], ◌∙◌, List, drop, length, length-append, append_assoc, sym, ap, arith}
use Rattle.fd_templates.specs.declared.interval.Range as ranges_seen
use Rattle.fd_templates.specs.Interval.{range_of, ranges_of}
use Rattle.fd_templates.proofs.RangesAgain.{ranges_step}
use Rattle.fd_templates.proofs.interval.ranges_of.Goals as goal

pub loop-i-preserved : goal.loop-i-preserved
loop-i-preserved c =
    let n = c.args.count in
    let i = c.loop-i._i in
    let rest = c.loop-i.rest.now in
    let behind = c.split_at.result.1.now in
    let items = c.loop-i.items.items in
    let r = c.range_of.result in
    let pushed : c.push.new.self.items ≡ items ++ r ∷ [] = c.in_ok-push.ensures.items in
    let back : behind ≡ drop 12 rest = c.split_at.ensures.back in
    record {
      read = ap (λ (rs : List ranges_seen.Range). rs ++ ranges_of (n - (i + 1)) behind) pushed
          ∙ append_assoc items (r ∷ []) (ranges_of (n - (i + 1)) behind)
          ∙ ap (λ (q : ranges_seen.Range). items ++ q ∷ ranges_of (n - (i + 1)) behind) c.range_of.ensures
          ∙ ap (λ (s : List _). items ++ range_of rest ∷ ranges_of (n - (i + 1)) s) back
          ∙ ap (λ (rs : List ranges_seen.Range). items ++ rs) (sym (ranges_step n i rest c.loop-i-test.true)) ∙ c.loop-i.invariant.read;
      left = omega (arith, c.split_at.ensures.back_len, c.loop-i.invariant.left, c.loop-i-test.true);
      count = omega (arith, ap length pushed, length-append items (r ∷ []), c.loop-i.invariant.count);
    }
