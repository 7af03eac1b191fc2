use Rattle.std.proofs.Common.{◌≡◌, ◌+◌, ◌<◌, ◌≤◌, List, ◌∷◌, ℕ, length, vec_len, vec_capacity, refl, ◌∙◌, ap, arith}
use Rattle.std.proofs.lemmas.Bool.Decides.{nat_tests}
use Rattle.fd_disk.specs.declared.file.Range.{Range}
use Rattle.fd_disk.specs.Folders.{WhereTold}
use Rattle.fd_disk.specs.Images.{IsAfterFailedWrite}
use Rattle.fd_buffers.specs.Trails.{loose_by, loosened_if}
use Rattle.fd_buffers.proofs.CallLemmas.{Flushed, begins_covers, begins_time, did_nothing, failed_time, flushed_call, flushed_none, follows_covers, follows_told, on_err, tries_covers, tries_err, tries_time}
use Rattle.fd_buffers.proofs.GatheringLemmas.{failed_covers, failed_told}
use Rattle.fd_buffers.proofs.gathering.GatheringDisk.write_at.Goals as goal
use Rattle.fd_buffers.proofs.gathering.GatheringDisk.write_at.Goals.{then-not-is_empty+else-follows+in_ok-write_at, else-not-is_empty}

pub invariant_of-self : goal.invariant_of-self
invariant_of-self g c =
    let a = c.args.self.now in
    let b = c.args.bytes.now in
    let loose : List Range = loose_by g.T.Disk.file a.trail in
    let some : 0 < length b = c.if-follows.ensures.some refl in
    let place : c.args.at ≡ a.start + length a.gathered.items = c.if-follows.ensures.place refl ∙ ap (λ (l : List ℕ). a.start + length l) c.deref.ensures.value in
    let rs : record { at = c.args.at; len = length b } ∷ loose_by g.T.Disk.file c.of.result.value ≡ record { at = c.args.at; len = length b } ∷ loose = λ i. record { at = c.args.at; len = length b } ∷ loose_by g.T.Disk.file (c.of.ensures i) in
    record {
      reserved = omega (arith, a.reserved, c.append.ensures.capacity);
      few = omega (arith, c.append.ensures.len, c.if-follows.ensures.room refl, c.deref.ensures.len);
      small = omega (arith, c.append.ensures.len, c.if-follows.ensures.place refl, c.deref.ensures.len, c.requires);
      covers = follows_covers (g.T.Disk.file a.inner) a.start c.args.at a.gathered.items b c.append.new.gathered.items loose (record { at = c.args.at; len = length b } ∷ loose_by g.T.Disk.file c.of.result.value) some place c.append.ensures.items rs a.covers;
    }

pub returns-then-follows-clause-ok : goal.returns-then-follows-clause-ok
returns-then-follows-clause-ok g c =
    let a = c.args.self.now in
    let b = c.args.bytes.now in
    let loose : List Range = loose_by g.T.Disk.file a.trail in
    let some : 0 < length b = c.if-follows.ensures.some refl in
    let place : c.args.at ≡ a.start + length a.gathered.items = c.if-follows.ensures.place refl ∙ ap (λ (l : List ℕ). a.start + length l) c.deref.ensures.value in
    let rs : record { at = c.args.at; len = length b } ∷ loose_by g.T.Disk.file c.of.result.value ≡ record { at = c.args.at; len = length b } ∷ loose = λ i. record { at = c.args.at; len = length b } ∷ loose_by g.T.Disk.file (c.of.ensures i) in
    follows_told (g.T.Disk.file a.inner) a.start c.args.at a.gathered.items b c.append.new.gathered.items loose (record { at = c.args.at; len = length b } ∷ loose_by g.T.Disk.file c.of.result.value) some place c.append.ensures.items rs

pub invariant_of-self-in-Break-1 : goal.invariant_of-self-in-Break-1
invariant_of-self-in-Break-1 g c =
    let a = c.args.self.now in
    let some : 0 < length a.gathered.items = grind (arith, nat_tests) in
    let torn : WhereTold (g.T.Disk.file a.inner) (g.T.Disk.file c.write_at.new.self) (λ f h. IsAfterFailedWrite f a.start (length a.gathered.items) h) =
    rw (← c.deref-then-not-is_empty.ensures.value) c.in_err-write_at.ensures.err in
    record {
      reserved = a.reserved;
      few = a.few;
      small = a.small;
      covers = failed_covers (g.T.Disk.file a.inner) (g.T.Disk.file c.write_at.new.self) a.start a.gathered.items (loose_by g.T.Disk.file a.trail) some a.covers torn;
    }

pub returns-in_err-write_at-clause-err : goal.returns-in_err-write_at-clause-err
returns-in_err-write_at-clause-err g c =
    let a = c.args.self.now in
    let some : 0 < length a.gathered.items = grind (arith, nat_tests) in
    let torn : WhereTold (g.T.Disk.file a.inner) (g.T.Disk.file c.write_at.new.self) (λ f h. IsAfterFailedWrite f a.start (length a.gathered.items) h) =
    rw (← c.deref-then-not-is_empty.ensures.value) c.in_err-write_at.ensures.err in
    on_err c.from_residual.result _ (did_nothing _ _ c.args.at (length c.args.bytes.now) (failed_told (g.T.Disk.file a.inner) (g.T.Disk.file c.write_at.new.self) a.start a.gathered.items (loose_by g.T.Disk.file a.trail) some torn))

pub returns-in_err-write_at-clause-time : goal.returns-in_err-write_at-clause-time
returns-in_err-write_at-clause-time g c =
    let a = c.args.self.now in
    let some : 0 < length a.gathered.items = grind (arith, nat_tests) in
    let torn : WhereTold (g.T.Disk.file a.inner) (g.T.Disk.file c.write_at.new.self) (λ f h. IsAfterFailedWrite f a.start (length a.gathered.items) h) =
    rw (← c.deref-then-not-is_empty.ensures.value) c.in_err-write_at.ensures.err in
    failed_time (g.T.Disk.file a.inner) (g.T.Disk.file c.write_at.new.self) a.start a.gathered.items (loose_by g.T.Disk.file a.trail) (g.T.Disk.moment a.inner) (g.T.Disk.moment c.write_at.new.self) (g.T.Disk.left_since a.inner) (g.T.Disk.left_since c.write_at.new.self) some a.covers torn c.in_err-write_at.ensures.time

pub invariant_of-self-then-is_empty : goal.invariant_of-self-then-is_empty
invariant_of-self-then-is_empty g c =
    let a = c.args.self.now in
    let now = c.if-not-is_empty.self in
    let loose : List Range = loose_by g.T.Disk.file a.trail in
    let mid : Flushed (g.T.Disk.file a.inner) (g.T.Disk.file now.1.0) a.start a.gathered.items now.1.1.0.items loose (g.T.Disk.moment a.inner) (g.T.Disk.moment now.1.0) (g.T.Disk.left_since a.inner) (g.T.Disk.left_since now.1.0) =
    elim c.if-not-is_empty.branch [
      | then-not-is_empty+else-follows+in_ok-write_at w ↦
          let some : 0 < length a.gathered.items = grind (arith, nat_tests) in
          rw w.self-is (flushed_call _ _ _ _ _ _ _ _ _ _ some a.covers (rw (← w.deref-then-not-is_empty.ensures.value) w.in_ok-write_at.ensures.ok) w.clear.ensures.items w.in_ok-write_at.ensures.time)
      | else-not-is_empty w ↦
          let none : length a.gathered.items ≡ 0 = grind (arith, nat_tests) in
          rw w.self-is (flushed_none _ _ _ _ _ _ none a.covers)
    ] in
    let b = c.args.bytes.now in
    let later = g.T.Disk.file c.write_at-result.new.self in
    let tried : List Range = loosened_if (g.T.Disk.file c.of-before.result.value) (g.T.Disk.file c.of-after.result.value) (record { at = c.args.at; len = length b }) (loose_by g.T.Disk.file c.of-then-is_empty.result.value) in
    let rs : tried ≡ loosened_if (g.T.Disk.file now.1.0) later (record { at = c.args.at; len = length b }) loose =
    λ i. loosened_if (g.T.Disk.file (c.of-before.ensures i)) (g.T.Disk.file (c.of-after.ensures i)) (record { at = c.args.at; len = length b }) (loose_by g.T.Disk.file (c.of-then-is_empty.ensures i)) in
    record {
      reserved = elim c.if-not-is_empty.branch [
        | then-not-is_empty+else-follows+in_ok-write_at w ↦ rw w.self-is (omega (arith, a.reserved, w.clear.ensures.capacity))
        | else-not-is_empty w ↦ rw w.self-is a.reserved
      ];
      few = elim c.if-not-is_empty.branch [
        | then-not-is_empty+else-follows+in_ok-write_at w ↦ rw w.self-is (omega (arith, w.clear.ensures.len))
        | else-not-is_empty w ↦ rw w.self-is a.few
      ];
      small = elim c.if-not-is_empty.branch [
        | then-not-is_empty+else-follows+in_ok-write_at w ↦ rw w.self-is (omega (arith, a.small, w.clear.ensures.len))
        | else-not-is_empty w ↦ rw w.self-is a.small
      ];
      covers = tries_covers _ _ _ _ _ _ _ _ _ _ mid c.args.at b tried (Unit {0}) g.row.F.Denot c.write_at-result.result later rs c.write_at-result.ensures.ok c.write_at-result.ensures.err;
    }

pub returns-then-is_empty-clause-err : goal.returns-then-is_empty-clause-err
returns-then-is_empty-clause-err g c =
    let a = c.args.self.now in
    let now = c.if-not-is_empty.self in
    let loose : List Range = loose_by g.T.Disk.file a.trail in
    let mid : Flushed (g.T.Disk.file a.inner) (g.T.Disk.file now.1.0) a.start a.gathered.items now.1.1.0.items loose (g.T.Disk.moment a.inner) (g.T.Disk.moment now.1.0) (g.T.Disk.left_since a.inner) (g.T.Disk.left_since now.1.0) =
    elim c.if-not-is_empty.branch [
      | then-not-is_empty+else-follows+in_ok-write_at w ↦
          let some : 0 < length a.gathered.items = grind (arith, nat_tests) in
          rw w.self-is (flushed_call _ _ _ _ _ _ _ _ _ _ some a.covers (rw (← w.deref-then-not-is_empty.ensures.value) w.in_ok-write_at.ensures.ok) w.clear.ensures.items w.in_ok-write_at.ensures.time)
      | else-not-is_empty w ↦
          let none : length a.gathered.items ≡ 0 = grind (arith, nat_tests) in
          rw w.self-is (flushed_none _ _ _ _ _ _ none a.covers)
    ] in
    let b = c.args.bytes.now in
    let later = g.T.Disk.file c.write_at-result.new.self in
    let tried : List Range = loosened_if (g.T.Disk.file c.of-before.result.value) (g.T.Disk.file c.of-after.result.value) (record { at = c.args.at; len = length b }) (loose_by g.T.Disk.file c.of-then-is_empty.result.value) in
    let rs : tried ≡ loosened_if (g.T.Disk.file now.1.0) later (record { at = c.args.at; len = length b }) loose =
    λ i. loosened_if (g.T.Disk.file (c.of-before.ensures i)) (g.T.Disk.file (c.of-after.ensures i)) (record { at = c.args.at; len = length b }) (loose_by g.T.Disk.file (c.of-then-is_empty.ensures i)) in
    tries_err _ _ _ _ _ _ _ _ _ _ mid c.args.at b tried (Unit {0}) g.row.F.Denot c.write_at-result.result later rs c.write_at-result.ensures.ok c.write_at-result.ensures.err

pub returns-then-is_empty-clause-time : goal.returns-then-is_empty-clause-time
returns-then-is_empty-clause-time g c =
    let a = c.args.self.now in
    let now = c.if-not-is_empty.self in
    let loose : List Range = loose_by g.T.Disk.file a.trail in
    let mid : Flushed (g.T.Disk.file a.inner) (g.T.Disk.file now.1.0) a.start a.gathered.items now.1.1.0.items loose (g.T.Disk.moment a.inner) (g.T.Disk.moment now.1.0) (g.T.Disk.left_since a.inner) (g.T.Disk.left_since now.1.0) =
    elim c.if-not-is_empty.branch [
      | then-not-is_empty+else-follows+in_ok-write_at w ↦
          let some : 0 < length a.gathered.items = grind (arith, nat_tests) in
          rw w.self-is (flushed_call _ _ _ _ _ _ _ _ _ _ some a.covers (rw (← w.deref-then-not-is_empty.ensures.value) w.in_ok-write_at.ensures.ok) w.clear.ensures.items w.in_ok-write_at.ensures.time)
      | else-not-is_empty w ↦
          let none : length a.gathered.items ≡ 0 = grind (arith, nat_tests) in
          rw w.self-is (flushed_none _ _ _ _ _ _ none a.covers)
    ] in
    let b = c.args.bytes.now in
    let later = g.T.Disk.file c.write_at-result.new.self in
    let tried : List Range = loosened_if (g.T.Disk.file c.of-before.result.value) (g.T.Disk.file c.of-after.result.value) (record { at = c.args.at; len = length b }) (loose_by g.T.Disk.file c.of-then-is_empty.result.value) in
    let rs : tried ≡ loosened_if (g.T.Disk.file now.1.0) later (record { at = c.args.at; len = length b }) loose =
    λ i. loosened_if (g.T.Disk.file (c.of-before.ensures i)) (g.T.Disk.file (c.of-after.ensures i)) (record { at = c.args.at; len = length b }) (loose_by g.T.Disk.file (c.of-then-is_empty.ensures i)) in
    tries_time _ _ _ _ _ _ _ _ _ _ mid c.args.at b tried (Unit {0}) g.row.F.Denot c.write_at-result.result later rs c.write_at-result.ensures.ok c.write_at-result.ensures.err (g.T.Disk.moment c.write_at-result.new.self) (g.T.Disk.left_since c.write_at-result.new.self) c.write_at-result.ensures.time

pub invariant_of-self-2 : goal.invariant_of-self-2
invariant_of-self-2 g c =
    let a = c.args.self.now in
    let now = c.if-not-is_empty.self in
    let loose : List Range = loose_by g.T.Disk.file a.trail in
    let mid : Flushed (g.T.Disk.file a.inner) (g.T.Disk.file now.1.0) a.start a.gathered.items now.1.1.0.items loose (g.T.Disk.moment a.inner) (g.T.Disk.moment now.1.0) (g.T.Disk.left_since a.inner) (g.T.Disk.left_since now.1.0) =
    elim c.if-not-is_empty.branch [
      | then-not-is_empty+else-follows+in_ok-write_at w ↦
          let some : 0 < length a.gathered.items = grind (arith, nat_tests) in
          rw w.self-is (flushed_call _ _ _ _ _ _ _ _ _ _ some a.covers (rw (← w.deref-then-not-is_empty.ensures.value) w.in_ok-write_at.ensures.ok) w.clear.ensures.items w.in_ok-write_at.ensures.time)
      | else-not-is_empty w ↦
          let none : length a.gathered.items ≡ 0 = grind (arith, nat_tests) in
          rw w.self-is (flushed_none _ _ _ _ _ _ none a.covers)
    ] in
    let b = c.args.bytes.now in
    let some : 0 < length b = grind (arith, nat_tests) in
    let rs : record { at = c.args.at; len = length b } ∷ loose_by g.T.Disk.file c.of-2.result.value ≡ record { at = c.args.at; len = length b } ∷ loose = λ i. record { at = c.args.at; len = length b } ∷ loose_by g.T.Disk.file (c.of-2.ensures i) in
    let none : vec_len now.1.1.0 ≡ 0 = elim c.if-not-is_empty.branch [
      | then-not-is_empty+else-follows+in_ok-write_at w ↦ rw w.self-is w.clear.ensures.len
      | else-not-is_empty w ↦ rw w.self-is (grind (arith, nat_tests))
    ] in
    let room : a.room ≤ vec_capacity now.1.1.0 = elim c.if-not-is_empty.branch [
      | then-not-is_empty+else-follows+in_ok-write_at w ↦ rw w.self-is (omega (arith, a.reserved, w.clear.ensures.capacity))
      | else-not-is_empty w ↦ rw w.self-is a.reserved
    ] in
    record {
      reserved = omega (arith, room, c.append-2.ensures.capacity);
      few = grind (arith, nat_tests, none);
      small = omega (arith, none, c.append-2.ensures.len, c.requires);
      covers = begins_covers _ _ _ _ _ _ _ _ _ _ mid c.args.at b (record { at = c.args.at; len = length b } ∷ loose_by g.T.Disk.file c.of-2.result.value) c.append-2.new.gathered.items some c.append-2.ensures.items rs;
    }

pub returns-clause-time : goal.returns-clause-time
returns-clause-time g c =
    let a = c.args.self.now in
    let now = c.if-not-is_empty.self in
    let loose : List Range = loose_by g.T.Disk.file a.trail in
    let mid : Flushed (g.T.Disk.file a.inner) (g.T.Disk.file now.1.0) a.start a.gathered.items now.1.1.0.items loose (g.T.Disk.moment a.inner) (g.T.Disk.moment now.1.0) (g.T.Disk.left_since a.inner) (g.T.Disk.left_since now.1.0) =
    elim c.if-not-is_empty.branch [
      | then-not-is_empty+else-follows+in_ok-write_at w ↦
          let some : 0 < length a.gathered.items = grind (arith, nat_tests) in
          rw w.self-is (flushed_call _ _ _ _ _ _ _ _ _ _ some a.covers (rw (← w.deref-then-not-is_empty.ensures.value) w.in_ok-write_at.ensures.ok) w.clear.ensures.items w.in_ok-write_at.ensures.time)
      | else-not-is_empty w ↦
          let none : length a.gathered.items ≡ 0 = grind (arith, nat_tests) in
          rw w.self-is (flushed_none _ _ _ _ _ _ none a.covers)
    ] in
    let b = c.args.bytes.now in
    let some : 0 < length b = grind (arith, nat_tests) in
    let rs : record { at = c.args.at; len = length b } ∷ loose_by g.T.Disk.file c.of-2.result.value ≡ record { at = c.args.at; len = length b } ∷ loose = λ i. record { at = c.args.at; len = length b } ∷ loose_by g.T.Disk.file (c.of-2.ensures i) in
    begins_time _ _ _ _ _ _ _ _ _ _ mid c.args.at b (record { at = c.args.at; len = length b } ∷ loose_by g.T.Disk.file c.of-2.result.value) c.append-2.new.gathered.items some c.append-2.ensures.items rs
