use Rattle.std.proofs.Common.{◌≡◌, ◌≤◌, ◌+◌, ◌*◌, drop}
use Rattle.fd_request.specs.Keywords.{seen_keywords}
use Rattle.fd_request.proofs.Lengths.{total}
use Rattle.fd_request.proofs.limits.longest_key.Given as goal

abbrev pub invariant-loop-keyword : goal.invariant-loop-keyword
invariant-loop-keyword l = record {
  few : l.total ≤ 273 * l.keyword-index;
  so_far : l.total + total (seen_keywords (drop l.keyword-index l.keywords)) ≡ total (seen_keywords l.keywords);
}
