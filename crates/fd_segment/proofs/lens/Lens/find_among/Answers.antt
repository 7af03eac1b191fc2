use Rattle.std.proofs.Common.{◌≤◌, ◌<◌, ◌+◌, ℕ, Option, Some, None, sym, subst, arith, rules}
use Rattle.fd_segment.specs.Causes.{IsPlace, OnDamaged, StandsForNone}
use Rattle.fd_segment.specs.Held.{Opened, behind}
use Rattle.fd_segment.proofs.Looking.{all_place, beyond_none, found_in_batch}
use Rattle.fd_segment.proofs.lens.Lens.find_among.Goals as goal

pub returns-in_default-clause-found : goal.returns-in_default-clause-found
returns-in_default-clause-found g c =
    let f = c.args.self.now.files in
    let key = c.args.key.now in
    record {
      place = search rules;
      seen = search rules;
      batch = found_in_batch f key None (subst (λ (o : Option (ℕ × ℕ)). IsPlace f.entry f.index key o) (sym c.in_default.ensures) (all_place f c.args.records.now key c.requires)) tt;
      inside = search rules;
      damaged = tt;
      sound = tt;
    }

pub returns-then-end-from-clause-found : goal.returns-then-end-from-clause-found
returns-then-end-from-clause-found g c =
    let f = c.args.self.now.files in
    let key = c.args.key.now in
    let at = c.in-Some.at in
    let len = c.in-Some.len in
    let inside : at + len ≤ c.self.inside.entry.fields_len = omega (arith, c.if-end-from.true, c.from.ensures, c.from-2.ensures, c.from-3.ensures, c.from-4.ensures) in
    record {
      place = search rules;
      seen = search rules;
      batch = found_in_batch f key (Some (at, len)) (subst (λ (o : Option (ℕ × ℕ)). IsPlace f.entry f.index key o) (sym c.in-Some.ensures) (all_place f c.args.records.now key c.requires))
          (subst (λ (x : Opened). at + len ≤ x.files.entry.fields_len) c.self.view_is inside);
      inside = search rules;
      damaged = tt;
      sound = tt;
    }

pub returns-clause-found : goal.returns-clause-found
returns-clause-found g c =
    let f = c.args.self.now.files in
    let key = c.args.key.now in
    let at = c.in-Some.at in
    let len = c.in-Some.len in
    let past : c.self.inside.entry.fields_len < at + len + behind c.self.inside.entry =
    omega (arith, c.if-end-from.false, c.from.ensures, c.from-2.ensures, c.from-3.ensures, c.from-4.ensures, c.behind.ensures.count) in
    record {
      place = tt;
      seen = tt;
      batch = tt;
      inside = tt;
      damaged = search rules;
      sound = subst (λ e. OnDamaged e (λ _. StandsForNone f)) (sym c.beyond.ensures)
          (beyond_none f key at len (subst (λ (o : Option (ℕ × ℕ)). IsPlace f.entry f.index key o) (sym c.in-Some.ensures) (all_place f c.args.records.now key c.requires))
          (subst (λ (x : Opened). x.files.entry.fields_len < at + len + behind x.files.entry) c.self.view_is past));
    }
