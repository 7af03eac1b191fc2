use Rattle.std.proofs.Common.{ℕ, ◌+◌, ◌≤◌, List, [], ◌∷◌, ◌++◌, length, sym, ◌∙◌, ap, arith}
use Rattle.std.proofs.lemmas.List.{take_all}
use Rattle.fd_disk.specs.declared.file.Range.{Range}
use Rattle.fd_file_mem.specs.declared.recorded.Mark.{Mark}
use Rattle.fd_file_mem.specs.declared.recorded.Mark.TheVariants as mark
use Rattle.fd_file_mem.specs.Buffers.{Buffered}
use Rattle.fd_file_mem.specs.Calls.{Wrote}
use Rattle.fd_file_mem.proofs.KeptLemmas.{fits_size, fits_calls, fits_bytes, overwritten_within, marks_room, bytes_are, calls_push, kept_call}
use Rattle.fd_file_mem.proofs.recorded.Recorded.write.Goals as goal

pub overwrite-requires-clause-small : goal.overwrite-requires-clause-small
overwrite-requires-clause-small c = omega (arith, c.requires.small)

pub push_first-requires : goal.push_first-requires
push_first-requires c =
    let room = marks_room c.self.inside.marks c.self.inside.written c.args.self.now (ap (λ m. m.calls) c.self.view_is) (ap (λ m. m.most_calls) c.self.view_is) (fits_calls c.args.self.now c.args.at (length c.args.bytes.now) c.requires.room) in
    omega (arith, room, c.self.invariant.few, c.self.invariant.loose_size)

pub push-requires : goal.push-requires
push-requires c = marks_room c.self.inside.marks c.self.inside.written c.args.self.now (ap (λ m. m.calls) c.self.view_is) (ap (λ m. m.most_calls) c.self.view_is) (fits_calls c.args.self.now c.args.at (length c.args.bytes.now) c.requires.room)

pub append-requires : goal.append-requires
append-requires c =
    let used = bytes_are c.self.inside.marks c.self.inside.written c.args.self.now (ap (λ m. m.calls) c.self.view_is) c.self.invariant.bytes in
    let size = ap (λ m. m.most_bytes) c.self.view_is in
    omega (arith, used, size, fits_bytes c.args.self.now c.args.at (length c.args.bytes.now) c.requires.room)

pub invariant_of-self : goal.invariant_of-self
invariant_of-self c =
    let bytes = c.args.bytes.now in
    let old = c.self.inside in
    let reads = ap (λ (b : Buffered ℕ). b.items) c.overwrite.ensures in
    let reads_size = ap (λ (b : Buffered ℕ). b.size) c.overwrite.ensures in
    let loose = ap (λ (b : Buffered Range). b.items) c.push_first.ensures in
    let whole = ap (λ (l : List ℕ). Wrote c.args.at l ∷ []) (take_all (length bytes) bytes (omega arith)) in
    let fits : c.args.at + length bytes ≤ old.reads.size = omega (arith, fits_size c.args.self.now c.args.at (length bytes) c.requires.room, ap (λ m. m.size) c.self.view_is) in
    kept_call old.marks c.push.new.self old.written c.append.new.self (mark.Wrote c.args.at (length bytes)) bytes (Wrote c.args.at bytes) whole
    (ap (λ (b : Buffered Mark). b.items) c.push.ensures) (ap (λ (b : Buffered ℕ). b.items) c.append.ensures)
    old.start old.firm old.reads old.firm c.overwrite.new.self old.loose c.push_first.new.self c.self.invariant
    (ap (λ (b : Buffered Mark). b.size) c.push.ensures) (omega arith)
    (λ j. record { firm = old.firm.items; reads = (sym reads) j; loose = (sym loose) j })
    (omega (arith, ap length loose))
    (omega (arith, ap length reads, reads_size, overwritten_within old.reads.items c.args.at bytes old.reads.size c.self.invariant.within fits))
    reads_size (λ j. old.firm.size) (ap (λ (b : Buffered Range). b.size) c.push_first.ensures)

pub returns : goal.returns
returns c =
    let bytes = c.args.bytes.now in
    let old = c.self.inside in
    let whole = ap (λ (l : List ℕ). Wrote c.args.at l ∷ []) (take_all (length bytes) bytes (omega arith)) in
    let calls = calls_push old.marks c.push.new.self old.written c.append.new.self (mark.Wrote c.args.at (length bytes)) bytes (Wrote c.args.at bytes) whole
    (ap (λ (b : Buffered Mark). b.items) c.push.ensures) (ap (λ (b : Buffered ℕ). b.items) c.append.ensures) c.self.invariant.bytes
    ∙ ap (λ m. m.calls ++ Wrote c.args.at bytes ∷ []) c.self.view_is in
    let start = ap (λ m. m.start) c.self.view_is in
    let size = ap (λ (b : Buffered ℕ). b.size) c.overwrite.ensures ∙ ap (λ m. m.size) c.self.view_is in
    let most_calls = ap (λ (b : Buffered Mark). b.size) c.push.ensures ∙ ap (λ m. m.most_calls) c.self.view_is in
    let most_bytes = ap (λ (b : Buffered ℕ). b.size) c.append.ensures ∙ ap (λ m. m.most_bytes) c.self.view_is in
    λ j. record { start = start j; calls = calls j; size = size j; most_calls = most_calls j; most_bytes = most_bytes j }
