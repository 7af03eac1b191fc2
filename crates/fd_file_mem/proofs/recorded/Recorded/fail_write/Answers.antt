use Rattle.std.proofs.Common.{[], ◌∷◌, ◌++◌, length, refl, sym, ◌∙◌, ap, arith}
use Rattle.std.proofs.lemmas.List.{append-nil}
use Rattle.fd_disk.specs.declared.file.Range.{Range}
use Rattle.fd_file_mem.specs.declared.recorded.Mark.{Mark}
use Rattle.fd_file_mem.specs.declared.recorded.Mark.TheVariants as mark
use Rattle.fd_file_mem.specs.Buffers.{Buffered}
use Rattle.fd_file_mem.specs.Calls.{Failed}
use Rattle.fd_file_mem.proofs.KeptLemmas.{room_calls, marks_room, calls_push, kept_call}
use Rattle.fd_file_mem.proofs.recorded.Recorded.fail_write.Goals as goal

pub push_first-requires : goal.push_first-requires
push_first-requires c =
    let room = marks_room c.self.inside.marks c.self.inside.written c.args.self.now (ap (λ m. m.calls) c.self.view_is) (ap (λ m. m.most_calls) c.self.view_is) (room_calls c.args.self.now c.requires) in
    omega (arith, room, c.self.invariant.few, c.self.invariant.loose_size)

pub push-requires : goal.push-requires
push-requires c = marks_room c.self.inside.marks c.self.inside.written c.args.self.now (ap (λ m. m.calls) c.self.view_is) (ap (λ m. m.most_calls) c.self.view_is) (room_calls c.args.self.now c.requires)

pub invariant_of-self : goal.invariant_of-self
invariant_of-self c =
    let old = c.self.inside in
    let loose = ap (λ (b : Buffered Range). b.items) c.push_first.ensures in
    kept_call old.marks c.push.new.self old.written old.written (mark.Failed c.args.at c.args.len) [] (Failed c.args.at c.args.len) refl
    (ap (λ (b : Buffered Mark). b.items) c.push.ensures) (sym (append-nil old.written.items))
    old.start old.firm old.reads old.firm old.reads old.loose c.push_first.new.self c.self.invariant
    (ap (λ (b : Buffered Mark). b.size) c.push.ensures) (omega arith)
    (λ j. record { firm = old.firm.items; reads = old.reads.items; loose = (sym loose) j })
    (omega (arith, ap length loose)) c.self.invariant.within refl refl (ap (λ (b : Buffered Range). b.size) c.push_first.ensures)

pub returns : goal.returns
returns c =
    let old = c.self.inside in
    let calls = calls_push old.marks c.push.new.self old.written old.written (mark.Failed c.args.at c.args.len) [] (Failed c.args.at c.args.len) refl
    (ap (λ (b : Buffered Mark). b.items) c.push.ensures) (sym (append-nil old.written.items)) c.self.invariant.bytes
    ∙ ap (λ m. m.calls ++ Failed c.args.at c.args.len ∷ []) c.self.view_is in
    let start = ap (λ m. m.start) c.self.view_is in
    let size = ap (λ m. m.size) c.self.view_is in
    let most_calls = ap (λ (b : Buffered Mark). b.size) c.push.ensures ∙ ap (λ m. m.most_calls) c.self.view_is in
    let most_bytes = ap (λ m. m.most_bytes) c.self.view_is in
    λ j. record { start = start j; calls = calls j; size = size j; most_calls = most_calls j; most_bytes = most_bytes j }
