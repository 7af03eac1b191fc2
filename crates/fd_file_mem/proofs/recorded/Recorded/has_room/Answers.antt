use Rattle.std.proofs.Common.{nat_lt, length, sym, ◌∙◌, ap}
use Rattle.fd_file_mem.proofs.KeptLemmas.{length_with}
use Rattle.fd_file_mem.proofs.recorded.Recorded.has_room.Goals as goal

pub returns : goal.returns
returns c =
    let old = c.self.inside in
    let len = c.len.ensures.len ∙ sym (length_with old.marks.items old.written.items) ∙ ap (λ m. length m.calls) c.self.view_is in
    let size = c.size.ensures ∙ ap (λ m. m.most_calls) c.self.view_is in
    λ j. nat_lt (len j) (size j)
