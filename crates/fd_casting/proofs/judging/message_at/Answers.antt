use Rattle.std.proofs.Common.{◌<◌, ◌-◌, ℕ, List, length, subst, sym, ◌∙◌, arith}
use Rattle.fd_sections.specs.Message.{Sections, IsMessage}
use Rattle.fd_casting.proofs.judging.message_at.Goals as goal

pub unreachable-requires : goal.unreachable-requires
unreachable-requires c =
    let octets = c.index-messages-number.result in
    let lt : c.args.number - 1 < length c.args.messages.now = omega (arith, c.if-number-eq0.false, c.if-number-messages.false) in
    let one = c.requires.messages (c.args.number - 1) octets lt in
    let is = subst (λ (m : List ℕ). (s : Sections) × IsMessage m s) (sym (c.as_slice.ensures ∙ c.index-messages-number.is)) one in
    c.in-Err.ensures.err is.0 is.1
