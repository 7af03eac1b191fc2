use Rattle.std.proofs.Common.{◌≡◌, ◌<◌, ◌≤◌, Ok, Err, refl, sym, ap, subst, ◌∙◌, length, arith}
use Rattle.std.proofs.lemmas.List.{length-map}
use Rattle.std.specs.Vec.{vec_capacity}
use Rattle.fd_region.specs.Held.{Held as Texts}
use Rattle.fd_index.specs.Held.{Held}
use Rattle.fd_index.specs.Position.{IsPosition}
use Rattle.fd_index.specs.Records.{Record, StandsFor}
use Rattle.fd_index.specs.Slots.{record_of, records_of}
use Rattle.fd_index.specs.declared.slots.Slot.{Slot}
use Rattle.fd_index.proofs.Placing.{now_in, records_over, slot_key, sound_in, sound_over, stands_now, within_at}
use Rattle.fd_index.proofs.builder.IndexBuilder.put.Goals as goal

pub invariant_of-self : goal.invariant_of-self
invariant_of-self c =
    let b = c.self.inside in
    let key = c.args.key.now in
    let rs = records_of b.texts.texts b.slots.items in
    let at : IsPosition rs key (Ok c.in-Ok.i) = subst (λ (h : Held). IsPosition h.records key (Ok c.in-Ok.i)) (sym c.self.view_is) c.in-Ok.ensures in
    let lt : c.in-Ok.i < length b.slots.items = omega (arith, at.0, length-map b.slots.items (record_of b.texts.texts)) in
    let s : Slot = record { id = c.index.result.now.id; at = c.args.at; len = c.args.len } in
    sound_over b _ c.in-Ok.i s key c.self.invariant (record { key = c.requires; at = c.ranges.at.fits; len = c.ranges.len.fits }) at
    (within_at b.texts.texts b.slots.items c.in-Ok.i c.index.result.now c.self.invariant.within lt c.index.ensures)
    (slot_key b.texts.texts b.slots.items c.in-Ok.i c.index.result.now key lt c.index.ensures at.2) refl refl refl c.self.invariant.kept

pub invariant_of-self-in-Err : goal.invariant_of-self-in-Err
invariant_of-self-in-Err c =
    let b = c.self.inside in
    let key = c.args.key.now in
    let rs = records_of b.texts.texts b.slots.items in
    let at : IsPosition rs key (Err c.in-Err.i) = subst (λ (h : Held). IsPosition h.records key (Err c.in-Err.i)) (sym c.self.view_is) c.in-Err.ensures in
    let s : Slot = record { id = c.in-Ok-place.id; at = c.args.at; len = c.args.len } in
    let kept : b.keys ≤ vec_capacity c.insert.new.self = omega (arith, c.self.invariant.kept, c.in-Ok-insert.ensures.capacity) in
    sound_in b _ c.in-Err.i s key c.self.invariant (record { key = c.requires; at = c.ranges.at.fits; len = c.ranges.len.fits }) at c.in-Ok-place.ensures c.in-Ok-insert.ensures.items refl kept

pub returns-in-Ok-clause-ok : goal.returns-in-Ok-clause-ok
returns-in-Ok-clause-ok c =
    let b = c.self.inside in
    let key = c.args.key.now in
    let ts = b.texts.texts in
    let rs = records_of ts b.slots.items in
    let at : IsPosition rs key (Ok c.in-Ok.i) = subst (λ (h : Held). IsPosition h.records key (Ok c.in-Ok.i)) (sym c.self.view_is) c.in-Ok.ensures in
    let lt : c.in-Ok.i < length b.slots.items = omega (arith, at.0, length-map b.slots.items (record_of ts)) in
    let s : Slot = record { id = c.index.result.now.id; at = c.args.at; len = c.args.len } in
    let put : Record = record { key = key; at = c.args.at; len = c.args.len } in
    let named = slot_key ts b.slots.items c.in-Ok.i c.index.result.now key lt c.index.ensures at.2 in
    let now = records_over ts key b.slots.items c.in-Ok.i s named (at.3 c.args.at c.args.len) in
    record {
      keys = ap (λ (h : Held). h.keys) c.self.view_is;
      bytes = ap (λ (h : Held). h.bytes) c.self.view_is;
      records = λ puts stands.
          stands_now put rs _ puts now c.self.invariant.rising (subst (λ (h : Held). StandsFor puts h.records) (sym c.self.view_is) stands);
    }

pub returns-in-Ok-insert-clause-ok : goal.returns-in-Ok-insert-clause-ok
returns-in-Ok-insert-clause-ok c =
    let b = c.self.inside in
    let key = c.args.key.now in
    let rs = records_of b.texts.texts b.slots.items in
    let at : IsPosition rs key (Err c.in-Err.i) = subst (λ (h : Held). IsPosition h.records key (Err c.in-Err.i)) (sym c.self.view_is) c.in-Err.ensures in
    let s : Slot = record { id = c.in-Ok-place.id; at = c.args.at; len = c.args.len } in
    let put : Record = record { key = key; at = c.args.at; len = c.args.len } in
    let now = now_in b.texts c.place.new.self key b.slots.items c.insert.new.self.items c.in-Err.i s c.self.invariant.within at c.in-Ok-place.ensures c.in-Ok-insert.ensures.items in
    record {
      keys = ap (λ (h : Held). h.keys) c.self.view_is;
      bytes = ap (λ (h : Texts). h.room) c.in-Ok-place.ensures.3 ∙ ap (λ (h : Held). h.bytes) c.self.view_is;
      records = λ puts stands. stands_now put rs _ puts now c.self.invariant.rising (subst (λ (h : Held). StandsFor puts h.records) (sym c.self.view_is) stands);
    }
