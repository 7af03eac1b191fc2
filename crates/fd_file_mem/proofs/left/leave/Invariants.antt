use Rattle.std.proofs.Common.{◌≡◌, ◌||◌, ◌<◌, ◌≤◌, ℕ, nat_le, slice_index}
use Rattle.fd_disk.specs.Images.{is_in}
use Rattle.fd_file_mem.specs.Left.{IsByteLeft}
use Rattle.fd_file_mem.proofs.left.leave.Given as goal

-- those before this place are left, and the others as they were
abbrev pub invariant-loop-place : goal.invariant-loop-place
invariant-loop-place l = ((k : ℕ) → k < l.place → IsByteLeft l.choice k (nat_le l.firm k || is_in k l.loose) (slice_index l.initial.reads k) (slice_index l.reads k))
    × ((k : ℕ) → l.place ≤ k → slice_index l.reads k ≡ slice_index l.initial.reads k)
