use Rattle.std.proofs.Common.{◌≡◌, ◌≤◌, ℕ, List, length, take}
use Rattle.fd_dataset.specs.Listed.{listings}
use Rattle.fd_segment.specs.Shared.{AreOf, entries}
use Rattle.fd_dataset.proofs.dataset.copied.Given as goal

abbrev pub invariant-loop-i : goal.invariant-loop-i
invariant-loop-i g l =
    (l.i ≤ length l.fn.segments.items)
    × (listings l.all.items ≡ take l.i (listings l.fn.segments.items))
    × (entries l.all.items ≡ take l.i (entries l.fn.segments.items))
    × ((name : List ℕ) → AreOf name l.fn.segments.items → AreOf name l.all.items)
