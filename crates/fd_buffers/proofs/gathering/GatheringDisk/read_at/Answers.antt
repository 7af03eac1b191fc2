use Rattle.std.proofs.Common.{◌≡◌, ◌<◌, length, arith}
use Rattle.std.proofs.lemmas.Bool.Decides.{nat_tests}
use Rattle.fd_disk.specs.Folders.{WhereTold}
use Rattle.fd_disk.specs.Images.{IsAfterFailedWrite}
use Rattle.fd_buffers.specs.Trails.{loose_by}
use Rattle.fd_buffers.proofs.CallLemmas.{failed_time, flushed_call, flushed_none, still_covers, still_time}
use Rattle.fd_buffers.proofs.GatheringLemmas.{failed_covers, failed_told}
use Rattle.fd_buffers.proofs.gathering.GatheringDisk.read_at.Goals as goal

pub invariant_of-self-clause-covers : goal.invariant_of-self-clause-covers
invariant_of-self-clause-covers g c =
    let a = c.args.self.now in
    let none : length a.gathered.items ≡ 0 = grind (arith, nat_tests) in
    still_covers _ _ _ _ _ _ _ _ _ _ (flushed_none (g.T.Disk.file a.inner) a.start a.gathered.items (loose_by g.T.Disk.file a.trail) (g.T.Disk.moment a.inner) (g.T.Disk.left_since a.inner) none a.covers)
    (g.T.Disk.file c.read_at.new.self) c.read_at.ensures.file

pub returns-then-is_empty-clause-time : goal.returns-then-is_empty-clause-time
returns-then-is_empty-clause-time g c =
    let a = c.args.self.now in
    let none : length a.gathered.items ≡ 0 = grind (arith, nat_tests) in
    still_time _ _ _ _ _ _ _ _ _ _ (flushed_none (g.T.Disk.file a.inner) a.start a.gathered.items (loose_by g.T.Disk.file a.trail) (g.T.Disk.moment a.inner) (g.T.Disk.left_since a.inner) none a.covers)
    (g.T.Disk.file c.read_at.new.self) (g.T.Disk.moment c.read_at.new.self) (g.T.Disk.left_since c.read_at.new.self) c.read_at.ensures.file c.read_at.ensures.time

pub invariant_of-self-in-Break-1 : goal.invariant_of-self-in-Break-1
invariant_of-self-in-Break-1 g c =
    let a = c.args.self.now in
    let some : 0 < length a.gathered.items = grind (arith, nat_tests) in
    let torn : WhereTold (g.T.Disk.file a.inner) (g.T.Disk.file c.write_at.new.self) (λ f h. IsAfterFailedWrite f a.start (length a.gathered.items) h) =
    rw (← c.deref.ensures.value) c.in_err-write_at.ensures.err in
    record {
      reserved = a.reserved;
      few = a.few;
      small = a.small;
      covers = failed_covers (g.T.Disk.file a.inner) (g.T.Disk.file c.write_at.new.self) a.start a.gathered.items (loose_by g.T.Disk.file a.trail) some a.covers torn;
    }

pub returns-in_err-write_at-clause-file : goal.returns-in_err-write_at-clause-file
returns-in_err-write_at-clause-file g c =
    let a = c.args.self.now in
    let some : 0 < length a.gathered.items = grind (arith, nat_tests) in
    let torn : WhereTold (g.T.Disk.file a.inner) (g.T.Disk.file c.write_at.new.self) (λ f h. IsAfterFailedWrite f a.start (length a.gathered.items) h) =
    rw (← c.deref.ensures.value) c.in_err-write_at.ensures.err in
    failed_told (g.T.Disk.file a.inner) (g.T.Disk.file c.write_at.new.self) a.start a.gathered.items (loose_by g.T.Disk.file a.trail) some torn

pub returns-in_err-write_at-clause-time : goal.returns-in_err-write_at-clause-time
returns-in_err-write_at-clause-time g c =
    let a = c.args.self.now in
    let some : 0 < length a.gathered.items = grind (arith, nat_tests) in
    let torn : WhereTold (g.T.Disk.file a.inner) (g.T.Disk.file c.write_at.new.self) (λ f h. IsAfterFailedWrite f a.start (length a.gathered.items) h) =
    rw (← c.deref.ensures.value) c.in_err-write_at.ensures.err in
    failed_time (g.T.Disk.file a.inner) (g.T.Disk.file c.write_at.new.self) a.start a.gathered.items (loose_by g.T.Disk.file a.trail) (g.T.Disk.moment a.inner) (g.T.Disk.moment c.write_at.new.self) (g.T.Disk.left_since a.inner) (g.T.Disk.left_since c.write_at.new.self) some a.covers torn c.in_err-write_at.ensures.time

pub invariant_of-self-2-clause-covers : goal.invariant_of-self-2-clause-covers
invariant_of-self-2-clause-covers g c =
    let a = c.args.self.now in
    let some : 0 < length a.gathered.items = grind (arith, nat_tests) in
    still_covers _ _ _ _ _ _ _ _ _ _ (flushed_call (g.T.Disk.file a.inner) (g.T.Disk.file c.write_at.new.self) a.start a.gathered.items c.clear.new.self.items (loose_by g.T.Disk.file a.trail) (g.T.Disk.moment a.inner) (g.T.Disk.moment c.write_at.new.self) (g.T.Disk.left_since a.inner) (g.T.Disk.left_since c.write_at.new.self) some a.covers (rw (← c.deref.ensures.value) c.in_ok-write_at.ensures.ok) c.clear.ensures.items c.in_ok-write_at.ensures.time)
    (g.T.Disk.file c.read_at-2.new.self) c.read_at-2.ensures.file

pub returns-clause-time : goal.returns-clause-time
returns-clause-time g c =
    let a = c.args.self.now in
    let some : 0 < length a.gathered.items = grind (arith, nat_tests) in
    still_time _ _ _ _ _ _ _ _ _ _ (flushed_call (g.T.Disk.file a.inner) (g.T.Disk.file c.write_at.new.self) a.start a.gathered.items c.clear.new.self.items (loose_by g.T.Disk.file a.trail) (g.T.Disk.moment a.inner) (g.T.Disk.moment c.write_at.new.self) (g.T.Disk.left_since a.inner) (g.T.Disk.left_since c.write_at.new.self) some a.covers (rw (← c.deref.ensures.value) c.in_ok-write_at.ensures.ok) c.clear.ensures.items c.in_ok-write_at.ensures.time)
    (g.T.Disk.file c.read_at-2.new.self) (g.T.Disk.moment c.read_at-2.new.self) (g.T.Disk.left_since c.read_at-2.new.self) c.read_at-2.ensures.file c.read_at-2.ensures.time
