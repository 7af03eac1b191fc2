use Rattle.std.proofs.Common.{◌≡◌, ◌≤◌, ◌*◌, length, drop}
use Rattle.fd_request.specs.Expansion.{expand}
use Rattle.fd_request.specs.Limits.{too_many}
use Rattle.fd_request.specs.Keywords.{seen_keywords}
use Rattle.fd_request.proofs.limits.product_of.Given as goal

abbrev pub invariant-loop-keyword : goal.invariant-loop-keyword
invariant-loop-keyword l = record {
  few : l.product ≤ 262144;
  so_far : too_many l.product (seen_keywords (drop l.keyword-index l.keywords)) ≡ too_many 1 (seen_keywords l.keywords);
  number : l.product * length (expand (seen_keywords (drop l.keyword-index l.keywords))) ≡ length (expand (seen_keywords l.keywords));
}
