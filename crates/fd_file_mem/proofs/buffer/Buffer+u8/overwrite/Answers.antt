use Rattle.std.proofs.Common.{◌+◌, ◌++◌, List, ℕ, length, take, drop, ◌∙◌, ap}
use Rattle.std.proofs.lemmas.List.{take_at}
use Rattle.fd_file_mem.specs.Buffers.{Buffered}
use Rattle.fd_file_mem.proofs.BufferLemmas.{in_place}
use Rattle.fd_file_mem.proofs.buffer.Buffer+u8.overwrite.Goals as goal

pub returns : goal.returns
returns c =
    let at = c.args.at in
    let bytes = c.args.bytes.now in
    let reached = c.self.view_is ∙ c.reach.ensures in
    let size = ap (λ (b : Buffered ℕ). b.size) reached in
    let now = c.deref_mut.ensures.value ∙ ap (λ (b : Buffered ℕ). b.items) reached in
    let items = take_at c.lay.new.all _ c.self.inside.items.len (c.lay.auto.all ∙ c.deref_mut.ensures.len) ∙ c.lay.ensures ∙ ap (λ (l : List ℕ). take at l ++ (bytes ++ drop (at + length bytes) l)) now ∙ in_place c.args.self.now.items at bytes in
    λ j. record { items = items j; size = size j }
