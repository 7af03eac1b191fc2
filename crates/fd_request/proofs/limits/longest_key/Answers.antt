use Rattle.std.proofs.Common.{arith}
use Rattle.std.specs.Prelude.{string_bytes}
use Rattle.fd_request.specs.Keywords.{seen_keywords}
use Rattle.fd_request.proofs.Lengths.{total_more, total_none, key_longest, have_values, name_few}
use Rattle.fd_request.proofs.limits.longest_key.Goals as goal

pub loop-keyword-preserved : goal.loop-keyword-preserved
loop-keyword-preserved c =
    let name = name_few (string_bytes c.keyword-item.result.name) c.keyword-item.result.name_is in
    let more = total_more c.args.keywords.now c.loop-keyword.keyword-index c.keyword-item.result c.loop-keyword-test.true c.keyword-item.is in
    record {
      few = omega (arith, c.loop-keyword.invariant.few, c.len.ensures, c.in_ok-longest.ensures.few, name);
      so_far = omega (arith, c.loop-keyword.invariant.so_far, c.len.ensures, c.in_ok-longest.ensures.length, more);
    }

pub returns : goal.returns
returns c =
    omega (
      arith,
      c.saturating_sub.ensures,
      c.loop-keyword.invariant.so_far,
      total_none c.args.keywords.now c.loop-keyword.keyword-index c.loop-keyword-test.false,
      key_longest (seen_keywords c.args.keywords.now) (have_values c.args.keywords.now),
    )
