use Rattle.std.proofs.Common.{◌≡◌, ◌<◌, ◌≤◌, ℕ, length, get_or}
use Rattle.fd_finding.specs.declared.spot.Sought.{Sought}
use Rattle.fd_finding.specs.Searching.{Looked}
use Rattle.fd_finding.proofs.looking.look_all.Given as goal

-- those before this place were looked up, and the others are as they were
abbrev pub invariant-loop-one : goal.invariant-loop-one
invariant-loop-one g l = record {
  files : l.lens.files ≡ l.fn.lens.files;
  long : length l.sought ≡ length l.fn.sought;
  looked : (k : ℕ) (d : Sought) → k < l.one-index → Looked l.fn.lens.files l.number (get_or l.fn.sought k d) (get_or l.sought k d);
  others : (k : ℕ) (d : Sought) → l.one-index ≤ k → get_or l.sought k d ≡ get_or l.fn.sought k d;
}
