use Rattle.std.proofs.Common.{◌<◌, ◌+◌, None, Some, sym, subst, arith, rules}
use Rattle.fd_segment.specs.Causes.{OnDamaged, StandsForNone}
use Rattle.fd_segment.specs.Held.{behind}
use Rattle.fd_segment.proofs.Looking.{batch_seen, beyond_seen, sound_seen}
use Rattle.fd_segment.proofs.lens.Lens.find.Goals as goal

pub returns-in-Ok-None-clause-found : goal.returns-in-Ok-None-clause-found
returns-in-Ok-None-clause-found g c =
    record {
      place = search rules;
      seen = search rules;
      batch = batch_seen _ _ c.self.inside.index.len c.self.view_is c.self.invariant.0 c.args.key.now None (rw c.in-Ok-None.field-0-is at c.in-Ok-None.ensures.place) tt;
      inside = search rules;
      damaged = tt;
      sound = tt;
    }

pub returns-in-Err-clause-found : goal.returns-in-Err-clause-found
returns-in-Err-clause-found g c =
    record {
      place = tt;
      seen = tt;
      batch = tt;
      inside = tt;
      damaged = search rules;
      sound = subst (λ e. OnDamaged e (λ _. StandsForNone c.args.self.now.files)) (sym c.lens_fault.ensures) (sound_seen _ _ c.self.inside.index.len c.self.view_is c.self.invariant.0 c.in-Err.fault c.in-Err.ensures.refused);
    }

pub returns-then-end-from-clause-found : goal.returns-then-end-from-clause-found
returns-then-end-from-clause-found g c =
    record {
      place = search rules;
      seen = search rules;
      batch = batch_seen _ _ c.self.inside.index.len c.self.view_is c.self.invariant.0 c.args.key.now (Some (c.in-Ok-Some.place.0, c.in-Ok-Some.place.1)) (rw c.in-Ok-Some.field-0-is at c.in-Ok-Some.ensures.place)
          (omega (arith, c.if-end-from.true, c.from.ensures, c.from-2.ensures, c.from-3.ensures, c.from-4.ensures, c.behind.ensures.count));
      inside = search rules;
      damaged = tt;
      sound = tt;
    }

pub returns-clause-found : goal.returns-clause-found
returns-clause-found g c =
    let past : c.self.inside.entry.fields_len < c.in-Ok-Some.place.0 + c.in-Ok-Some.place.1 + behind c.self.inside.entry = omega (arith, c.if-end-from.false, c.from.ensures, c.from-2.ensures, c.from-3.ensures, c.from-4.ensures, c.behind.ensures.count) in
    record {
      place = tt;
      seen = tt;
      batch = tt;
      inside = tt;
      damaged = search rules;
      sound = subst (λ e. OnDamaged e (λ _. StandsForNone c.args.self.now.files)) (sym c.beyond.ensures)
          (beyond_seen _ _ c.self.inside.index.len c.self.view_is c.self.invariant.0 c.args.key.now c.in-Ok-Some.place.0 c.in-Ok-Some.place.1 (rw c.in-Ok-Some.field-0-is at c.in-Ok-Some.ensures.place) past);
    }
