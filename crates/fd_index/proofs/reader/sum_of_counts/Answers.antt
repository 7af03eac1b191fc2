use Rattle.std.proofs.Common.{◌≡◌, ◌+◌, ◌-◌, ◌<◌, ◌^◌, ℕ, suc, List, take, drop, ap, sym, ◌∙◌, add_assoc, add-zero, arith}
use Rattle.fd_index.specs.Reading.{counts_of, number_2}
use Rattle.fd_index.proofs.ReadTurns.{count_more, no_count}
use Rattle.fd_index.proofs.reader.sum_of_counts.Goals as goal

pub loop-preserved : goal.loop-preserved
loop-preserved c =
    let n = c.args.count - c.loop.counter in
    let k = c.args.count - (c.loop.counter + 1) in
    let is : n ≡ suc k = omega (arith, c.loop-test.true) in
    let left = c.loop.left.now in
    let from : c.from-sum.result ≡ number_2 (take 4096 left) = c.from-sum.ensures ∙ c.number_2.ensures ∙ ap number_2 c.split_at.ensures.front in
    let small : c.from-sum.result < 2 ^ 16 = omega (arith, c.from-sum.ensures, c.number_2.type_inv) in
    record {
      same =
          c.loop.invariant.same ∙ ap (λ x. c.loop.sum + x) (count_more n k left is) ∙ sym (add_assoc c.loop.sum (number_2 (take 4096 left)) (counts_of k (drop 4096 left)))
          ∙ ap (λ x. c.loop.sum + x + counts_of k (drop 4096 left)) (sym from) ∙ ap (λ (t : List ℕ). c.loop.sum + c.from-sum.result + counts_of k t) (sym c.split_at.ensures.back);
      whole = omega (arith, c.split_at.ensures.back_len, c.loop.invariant.whole, c.loop-test.true);
      small = omega (arith, c.loop.invariant.small, small);
    }

pub returns : goal.returns
returns c =
    let n = c.args.count - c.loop.counter in
    let last = no_count n c.loop.left.now (omega (arith, c.loop-test.false)) in
    sym (c.loop.invariant.same ∙ ap (λ x. c.loop.sum + x) last ∙ add-zero c.loop.sum)
