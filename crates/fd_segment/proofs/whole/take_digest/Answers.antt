use Rattle.std.proofs.Common.{◌≡◌, ◌∙◌, ◌+◌, ap, drop, subst, sym}
use Rattle.std.proofs.lemmas.List.{take_rest}
use Rattle.fd_segment.specs.Copying.{IsPiece}
use Rattle.fd_segment.proofs.Copied.{piece_before, piece_behind}
use Rattle.fd_segment.proofs.whole.take_digest.Goals as goal

pub returns-clause-bytes : goal.returns-clause-bytes
returns-clause-bytes c = λ fields at p. subst (IsPiece fields at c.args.len) (sym c.truncate.ensures.items) (piece_before fields at c.args.len 32 c.args.octets.now.items p)

pub returns-clause-digest : goal.returns-clause-digest
returns-clause-digest c = λ fields at p.
    let is : c.copy_from_slice.new.self ≡ drop c.args.len c.args.octets.now.items = c.copy_from_slice.ensures.after ∙ take_rest c.deref.result.now c.args.len ∙ ap (drop c.args.len) c.deref.ensures.value in
    subst (IsPiece fields (at + c.args.len) 32) (sym is) (piece_behind fields at c.args.len 32 c.args.octets.now.items p)
