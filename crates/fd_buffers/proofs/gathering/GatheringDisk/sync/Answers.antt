use Rattle.std.proofs.Common.{◌≡◌, ◌<◌, length, arith}
use Rattle.std.proofs.lemmas.Bool.Decides.{nat_tests}
use Rattle.fd_disk.specs.Folders.{WhereTold}
use Rattle.fd_disk.specs.Images.{IsAfterFailedWrite}
use Rattle.fd_buffers.specs.Trails.{loose_by, loose_in}
use Rattle.fd_buffers.proofs.CallLemmas.{Flushed, failed_time, flushed_call, flushed_none, on_err, still_covers, still_time, synced_time}
use Rattle.fd_buffers.proofs.GatheringLemmas.{failed_covers, failed_told}
use Rattle.fd_buffers.proofs.gathering.GatheringDisk.sync.Goals as goal
use Rattle.fd_buffers.proofs.gathering.GatheringDisk.sync.Goals.{then-not-is_empty+in_ok-write_at, else-not-is_empty}

pub invariant_of-self : goal.invariant_of-self
invariant_of-self g c =
    let a = c.args.self.now in
    let some : 0 < length a.gathered.items = grind (arith, nat_tests) in
    let torn : WhereTold (g.T.Disk.file a.inner) (g.T.Disk.file c.write_at.new.self) (λ f h. IsAfterFailedWrite f a.start (length a.gathered.items) h) =
    rw (← c.as_slice-bytes.ensures.value) c.in_err-write_at.ensures.err in
    record {
      reserved = a.reserved;
      few = a.few;
      small = a.small;
      covers = failed_covers (g.T.Disk.file a.inner) (g.T.Disk.file c.write_at.new.self) a.start a.gathered.items (loose_by g.T.Disk.file a.trail) some a.covers torn;
    }

pub returns-in_err-write_at-clause-err : goal.returns-in_err-write_at-clause-err
returns-in_err-write_at-clause-err g c =
    let a = c.args.self.now in
    let some : 0 < length a.gathered.items = grind (arith, nat_tests) in
    let torn : WhereTold (g.T.Disk.file a.inner) (g.T.Disk.file c.write_at.new.self) (λ f h. IsAfterFailedWrite f a.start (length a.gathered.items) h) =
    rw (← c.as_slice-bytes.ensures.value) c.in_err-write_at.ensures.err in
    on_err c.from_residual.result _ (failed_told (g.T.Disk.file a.inner) (g.T.Disk.file c.write_at.new.self) a.start a.gathered.items (loose_by g.T.Disk.file a.trail) some torn)

pub returns-in_err-write_at-clause-time : goal.returns-in_err-write_at-clause-time
returns-in_err-write_at-clause-time g c =
    let a = c.args.self.now in
    let some : 0 < length a.gathered.items = grind (arith, nat_tests) in
    let torn : WhereTold (g.T.Disk.file a.inner) (g.T.Disk.file c.write_at.new.self) (λ f h. IsAfterFailedWrite f a.start (length a.gathered.items) h) =
    rw (← c.as_slice-bytes.ensures.value) c.in_err-write_at.ensures.err in
    failed_time (g.T.Disk.file a.inner) (g.T.Disk.file c.write_at.new.self) a.start a.gathered.items (loose_by g.T.Disk.file a.trail) (g.T.Disk.moment a.inner) (g.T.Disk.moment c.write_at.new.self) (g.T.Disk.left_since a.inner) (g.T.Disk.left_since c.write_at.new.self) some a.covers torn c.in_err-write_at.ensures.time

pub invariant_of-self-in-Break-branch-2 : goal.invariant_of-self-in-Break-branch-2
invariant_of-self-in-Break-branch-2 g c =
    let a = c.args.self.now in
    let now = c.if-not-is_empty.self in
    let mid : Flushed (g.T.Disk.file a.inner) (g.T.Disk.file now.1.0) a.start a.gathered.items now.1.1.0.items (loose_by g.T.Disk.file a.trail) (g.T.Disk.moment a.inner) (g.T.Disk.moment now.1.0) (g.T.Disk.left_since a.inner) (g.T.Disk.left_since now.1.0) =
    elim c.if-not-is_empty.branch [
      | then-not-is_empty+in_ok-write_at w ↦
          let some : 0 < length a.gathered.items = grind (arith, nat_tests) in
          rw w.self-is (flushed_call _ _ _ _ _ _ _ _ _ _ some a.covers (rw (← w.as_slice-bytes.ensures.value) w.in_ok-write_at.ensures.ok) w.clear.ensures.items w.in_ok-write_at.ensures.time)
      | else-not-is_empty w ↦
          let none : length a.gathered.items ≡ 0 = grind (arith, nat_tests) in
          rw w.self-is (flushed_none _ _ _ _ _ _ none a.covers)
    ] in
    record {
      reserved = elim c.if-not-is_empty.branch [
        | then-not-is_empty+in_ok-write_at w ↦ rw w.self-is (omega (arith, a.reserved, w.clear.ensures.capacity))
        | else-not-is_empty w ↦ rw w.self-is a.reserved
      ];
      few = elim c.if-not-is_empty.branch [
        | then-not-is_empty+in_ok-write_at w ↦ rw w.self-is (omega (arith, w.clear.ensures.len))
        | else-not-is_empty w ↦ rw w.self-is a.few
      ];
      small = elim c.if-not-is_empty.branch [
        | then-not-is_empty+in_ok-write_at w ↦ rw w.self-is (omega (arith, a.small, w.clear.ensures.len))
        | else-not-is_empty w ↦ rw w.self-is a.small
      ];
      covers = still_covers _ _ _ _ _ _ _ _ _ _ mid (g.T.Disk.file c.sync.new.self) c.in_err-sync.ensures.err;
    }

pub returns-in_err-sync-clause-time : goal.returns-in_err-sync-clause-time
returns-in_err-sync-clause-time g c =
    let a = c.args.self.now in
    let now = c.if-not-is_empty.self in
    let mid : Flushed (g.T.Disk.file a.inner) (g.T.Disk.file now.1.0) a.start a.gathered.items now.1.1.0.items (loose_by g.T.Disk.file a.trail) (g.T.Disk.moment a.inner) (g.T.Disk.moment now.1.0) (g.T.Disk.left_since a.inner) (g.T.Disk.left_since now.1.0) =
    elim c.if-not-is_empty.branch [
      | then-not-is_empty+in_ok-write_at w ↦
          let some : 0 < length a.gathered.items = grind (arith, nat_tests) in
          rw w.self-is (flushed_call _ _ _ _ _ _ _ _ _ _ some a.covers (rw (← w.as_slice-bytes.ensures.value) w.in_ok-write_at.ensures.ok) w.clear.ensures.items w.in_ok-write_at.ensures.time)
      | else-not-is_empty w ↦
          let none : length a.gathered.items ≡ 0 = grind (arith, nat_tests) in
          rw w.self-is (flushed_none _ _ _ _ _ _ none a.covers)
    ] in
    still_time _ _ _ _ _ _ _ _ _ _ mid (g.T.Disk.file c.sync.new.self) (g.T.Disk.moment c.sync.new.self) (g.T.Disk.left_since c.sync.new.self) c.in_err-sync.ensures.err c.in_err-sync.ensures.time

pub returns-clause-time : goal.returns-clause-time
returns-clause-time g c =
    let a = c.args.self.now in
    let now = c.if-not-is_empty.self in
    let mid : Flushed (g.T.Disk.file a.inner) (g.T.Disk.file now.1.0) a.start a.gathered.items now.1.1.0.items (loose_by g.T.Disk.file a.trail) (g.T.Disk.moment a.inner) (g.T.Disk.moment now.1.0) (g.T.Disk.left_since a.inner) (g.T.Disk.left_since now.1.0) =
    elim c.if-not-is_empty.branch [
      | then-not-is_empty+in_ok-write_at w ↦
          let some : 0 < length a.gathered.items = grind (arith, nat_tests) in
          rw w.self-is (flushed_call _ _ _ _ _ _ _ _ _ _ some a.covers (rw (← w.as_slice-bytes.ensures.value) w.in_ok-write_at.ensures.ok) w.clear.ensures.items w.in_ok-write_at.ensures.time)
      | else-not-is_empty w ↦
          let none : length a.gathered.items ≡ 0 = grind (arith, nat_tests) in
          rw w.self-is (flushed_none _ _ _ _ _ _ none a.covers)
    ] in
    synced_time _ _ _ _ _ _ _ _ _ _ mid (g.T.Disk.file c.sync.new.self) (loose_in (g.T.Disk.file c.of.result.value)) (g.T.Disk.moment c.sync.new.self) (g.T.Disk.left_since c.sync.new.self) (λ i. loose_in (g.T.Disk.file (c.of.ensures i))) (g.met.T.Disk.counts_now now.1.0) c.in_ok-sync.ensures.time
