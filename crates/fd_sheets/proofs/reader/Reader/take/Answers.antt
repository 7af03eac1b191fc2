use Rattle.std.proofs.Common.{rules, arith, ◌≡◌, ◌+◌, ℕ, All, [], length, sym, subst, ap, ◌∙◌, append-nil}
use Rattle.fd_split.specs.Positions.{IsIdle, Position}
use Rattle.fd_sheets.specs.Names.{IsKnown}
use Rattle.fd_sheets.specs.Sheets.{Placed, standing}
use Rattle.fd_sheets.proofs.Placing.{passes_none}
use Rattle.fd_sheets.proofs.Ahead.{rests_stop}
use Rattle.fd_sheets.proofs.reader.Reader.take.Goals as goal

pub returns-in-Err-clause-takes : goal.returns-in-Err-clause-takes
returns-in-Err-clause-takes g c = record {
  fresh = [];
  middle = c.args.self.now;
  adds = c.in-Err.ensures.items ∙ sym (append-nil c.args.sheets.now.items);
  placed = passes_none c.args.self.now;
  rests = tt;
}

pub returns-in-Ok-true-clause-takes : goal.returns-in-Ok-true-clause-takes
returns-in-Ok-true-clause-takes g c =
    let t = c.take_placed-taken.ensures.took c.self.inside.fields in
    let ss = c.take_placed-taken.new.done in
    let size : c.len.result ≡ length ss.items = search rules in
    let counted = ap (λ (k : ℕ). standing c.take_placed-taken.new.intake.splitter c.take_placed-taken.new.intake.opened (c.self.inside.fields + k)) size in
    record {
      fresh = ss.items;
      middle = t.middle;
      adds = c.in-Ok.ensures.items;
      placed = subst (λ p. Placed c.args.schema.now c.args.given.now p ss.items t.middle) c.self.view_is t.placed;
      rests = (counted ∙ (rw c.in-Ok-true.is at t.stays).0, (rw c.in-Ok-true.is at t.some) c.in-Ok-true.field-0-test);
    }

pub returns-then-are_known-clause-takes : goal.returns-then-are_known-clause-takes
returns-then-are_known-clause-takes g c =
    let t = c.take_placed-taken.ensures.took c.self.inside.fields in
    let ss = c.take_placed-taken.new.done in
    let size : c.len.result ≡ length ss.items = search rules in
    let counted = ap (λ (k : ℕ). standing c.take_placed-taken.new.intake.splitter c.take_placed-taken.new.intake.opened (c.self.inside.fields + k)) size in
    record {
      fresh = ss.items;
      middle = t.middle;
      adds = c.in-Ok.ensures.items;
      placed = subst (λ p. Placed c.args.schema.now c.args.given.now p ss.items t.middle) c.self.view_is t.placed;
      rests = let s = rw c.in-Ok-false.is at t.stays in (counted ∙ s.0, subst (λ (p : Position). IsIdle p) (sym counted) (s.1 c.in-Ok-false.field-0-test), subst (All (IsKnown c.args.names.now.texts.items)) c.deref.ensures.value (c.know_all-are_known.ensures.known c.if-are_known.true));
    }

pub returns-in-Ok-false-clause-takes : goal.returns-in-Ok-false-clause-takes
returns-in-Ok-false-clause-takes g c =
    let t = c.take_placed-taken.ensures.took c.self.inside.fields in
    let ss = c.take_placed-taken.new.done in
    let size : c.len.result ≡ length ss.items = search rules in
    let counted = ap (λ (k : ℕ). standing c.take_placed-taken.new.intake.splitter c.take_placed-taken.new.intake.opened (c.self.inside.fields + k)) size in
    record {
      fresh = ss.items;
      middle = t.middle;
      adds = c.in-Ok.ensures.items;
      placed = subst (λ p. Placed c.args.schema.now c.args.given.now p ss.items t.middle) c.self.view_is t.placed;
      rests = (counted ∙ (rw c.in-Ok-false.is at t.stays).0, omega (arith, c.know_all-are_known.ensures.some c.if-are_known.false, ap length c.deref.ensures.value));
    }

pub returns-clause-takes : goal.returns-clause-takes
returns-clause-takes g c =
    let t = c.take_placed-taken.ensures.took c.self.inside.fields in
    let ss = c.take_placed-taken.new.done in
    record {
      fresh = ss.items;
      middle = t.middle;
      adds = c.in-Ok.ensures.items;
      placed = subst (λ p. Placed c.args.schema.now c.args.given.now p ss.items t.middle) c.self.view_is t.placed;
      rests = rests_stop c.args.names.now.texts.items ss.items t.middle (standing c.take_placed-taken.new.intake.splitter c.take_placed-taken.new.intake.opened (c.self.inside.fields + c.len.result)) c.in-Err-taken.end c.stopped.result (rw c.in-Err-taken.is at t.stays) c.stopped.ensures;
    }
