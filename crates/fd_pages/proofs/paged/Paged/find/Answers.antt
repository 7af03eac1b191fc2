use Rattle.std.proofs.Common.{◌≡◌, ◌∙◌, ◌<◌, ◌≤◌, ◌+◌, ◌-◌, ◌/◌, ℕ, List, Option, true, false, is_some, refl, sym, ap, subst, arith}
use Rattle.fd_pages.specs.Paging.{HasRead, Paging, digits}
use Rattle.fd_pages.specs.Parts.{IsPageOf, IsPlace, is_before, pages_by}
use Rattle.fd_pages.proofs.Halving.{HasReadSoFar, all_read_on, found, found_seen, gone, gone_seen, higher, lower, one_read, refused_by}
use Rattle.fd_pages.proofs.paged.Paged.find.Goals as goal

pub returns-in-Err-clause-refused : goal.returns-in-Err-clause-refused
returns-in-Err-clause-refused g c =
    let b = c.halves.invariant.between in
    refused_by c.in-Err.fault c.halves.self.bytes c.args.self.now.bytes c.args.self.now.len (c.halves.low + (c.halves.high - c.halves.low) / 2) c.halves.invariant.bytes (omega (arith, c.halves-test.true, b.within)) b.whole c.in-Err.ensures.bad

pub returns-in-Err-clause-few : goal.returns-in-Err-clause-few
returns-in-Err-clause-few g c =
    all_read_on (pages_by c.args.self.now.len) (c.halves.high - c.halves.low) c.args.self.now c.halves.self c.take_page.new.self c.halves.invariant.read c.in-Err.ensures.few (omega (arith, c.halves-test.true))

pub halves-preserved-then-before : goal.halves-preserved-then-before
halves-preserved-then-before g c =
    let start = c.args.self.now in
    let low = c.halves.low in
    let high = c.halves.high in
    let m = low + (high - low) / 2 in
    let kept = c.keep_page.ensures in
    let page : IsPageOf start.bytes m c.in-Ok.page = subst (λ (b : Option (List ℕ)). IsPageOf b m c.in-Ok.page) c.halves.invariant.bytes c.in-Ok.ensures.page in
    let under : m < high = omega (arith, c.halves-test.true) in
    let some : 0 < high - low = omega (arith, c.halves-test.true) in
    record {
      bytes = ap (λ (p : Paging). p.bytes) kept ∙ c.in-Ok.ensures.file.0 ∙ c.halves.invariant.bytes;
      len = ap (λ (p : Paging). p.len) kept ∙ c.in-Ok.ensures.file.1 ∙ c.halves.invariant.len;
      between = lower start.bytes start.len c.args.key.now low high m c.in-Ok.page refl c.halves.invariant.between (omega arith) under page (sym c.is_before-before.ensures ∙ c.if-before.true);
      read =
          subst (λ (p : Paging). HasReadSoFar (pages_by start.len) (m - low) start p) (sym kept)
          (one_read (pages_by start.len) (high - low) (m - low) start c.halves.self c.take_page.new.self c.halves.invariant.read c.in-Ok.ensures.few some (omega arith));
      later = omega (arith, c.halves.invariant.later, c.in-Ok.ensures.later, ap (λ (p : Paging). p.faults) kept);
    }

pub returns-then-is_some-clause-place : goal.returns-then-is_some-clause-place
returns-then-is_some-clause-place g c =
    let start = c.args.self.now in
    let low = c.halves.low in
    let high = c.halves.high in
    let m = low + (high - low) / 2 in
    let page : IsPageOf start.bytes m c.in-Ok.page = subst (λ (b : Option (List ℕ)). IsPageOf b m c.in-Ok.page) c.halves.invariant.bytes c.in-Ok.ensures.page in
    subst (λ (o : Option (ℕ × ℕ)). IsPlace start.bytes start.len c.args.key.now o) (sym c.find-place.ensures)
    (found start.bytes start.len c.args.key.now low high m c.in-Ok.page c.halves.invariant.between (omega (arith, c.halves-test.true)) page (sym c.is_before-before.ensures ∙ c.if-before.false)
    (ap is_some (sym c.find-place.ensures) ∙ sym c.is_some.ensures ∙ c.if-is_some.true))

pub returns-then-is_some-clause-seen : goal.returns-then-is_some-clause-seen
returns-then-is_some-clause-seen g c =
    let start = c.args.self.now in
    let low = c.halves.low in
    let high = c.halves.high in
    let m = low + (high - low) / 2 in
    let page : IsPageOf start.bytes m c.in-Ok.page = subst (λ (b : Option (List ℕ)). IsPageOf b m c.in-Ok.page) c.halves.invariant.bytes c.in-Ok.ensures.page in
    found_seen start.bytes start.len c.args.key.now low high m c.in-Ok.page c.find-place.result refl c.halves.invariant.between (omega (arith, c.halves-test.true)) (omega (arith, c.halves-test.true, c.halves.invariant.between.within)) page (sym c.is_before-before.ensures ∙ c.if-before.false) c.find-place.ensures (sym c.is_some.ensures ∙ c.if-is_some.true)

pub returns-then-is_some-clause-few : goal.returns-then-is_some-clause-few
returns-then-is_some-clause-few g c =
    subst (λ (p : Paging). HasRead (digits (pages_by c.args.self.now.len)) c.args.self.now p) (sym c.keep_page.ensures)
    (all_read_on (pages_by c.args.self.now.len) (c.halves.high - c.halves.low) c.args.self.now c.halves.self c.take_page.new.self c.halves.invariant.read c.in-Ok.ensures.few (omega (arith, c.halves-test.true)))

pub halves-preserved : goal.halves-preserved
halves-preserved g c =
    let start = c.args.self.now in
    let low = c.halves.low in
    let high = c.halves.high in
    let m = low + (high - low) / 2 in
    let kept = c.keep_page.ensures in
    let page : IsPageOf start.bytes m c.in-Ok.page = subst (λ (b : Option (List ℕ)). IsPageOf b m c.in-Ok.page) c.halves.invariant.bytes c.in-Ok.ensures.page in
    let some : 0 < high - low = omega (arith, c.halves-test.true) in
    record {
      bytes = ap (λ (p : Paging). p.bytes) kept ∙ c.in-Ok.ensures.file.0 ∙ c.halves.invariant.bytes;
      len = ap (λ (p : Paging). p.len) kept ∙ c.in-Ok.ensures.file.1 ∙ c.halves.invariant.len;
      between =
          higher start.bytes start.len c.args.key.now low high m c.in-Ok.page refl c.halves.invariant.between (omega (arith, c.halves-test.true)) (omega (arith, c.halves-test.true)) page (sym c.is_before-before.ensures ∙ c.if-before.false)
          (ap is_some (sym c.find-place.ensures) ∙ sym c.is_some.ensures ∙ c.if-is_some.false);
      read =
          subst (λ (p : Paging). HasReadSoFar (pages_by start.len) (high - (m + 1)) start p) (sym kept)
          (one_read (pages_by start.len) (high - low) (high - (m + 1)) start c.halves.self c.take_page.new.self c.halves.invariant.read c.in-Ok.ensures.few some (omega arith));
      later = omega (arith, c.halves.invariant.later, c.in-Ok.ensures.later, ap (λ (p : Paging). p.faults) kept);
    }

pub returns-clause-place : goal.returns-clause-place
returns-clause-place g c =
    gone c.args.self.now.bytes c.args.self.now.len c.args.key.now c.halves.low c.halves.high c.halves.invariant.between (omega (arith, c.halves-test.false))

pub returns-clause-seen : goal.returns-clause-seen
returns-clause-seen g c =
    gone_seen c.args.self.now.bytes c.args.self.now.len c.args.key.now c.halves.low c.halves.high c.halves.invariant.between (omega (arith, c.halves-test.false))
