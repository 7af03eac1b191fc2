use Rattle.std.proofs.Common.{◌≡◌, ◌-◌, map, length, All}
use Rattle.fd_finding.specs.Searching.{IsSoFar, key_of}
use Rattle.fd_finding.proofs.searching.search.Given as goal

abbrev pub invariant-loop-i : goal.invariant-loop-i
invariant-loop-i g l = record {
  long : length l.sought ≡ length l.fn.sought;
  keys : map key_of l.sought ≡ map key_of l.fn.sought;
  so_far : All (IsSoFar l.snapshot (l.count - l.i)) l.sought;
}
