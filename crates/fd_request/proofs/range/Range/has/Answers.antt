use Rattle.std.proofs.Common.{◌≡◌, false, sym, ◌∙◌}
use Rattle.fd_request.proofs.Members.{unread, no_distance, has_value, is_in_reach, is_so_spelled}
use Rattle.fd_request.proofs.range.Range.has.Goals as goal

pub returns-in_default : goal.returns-in_default
returns-in_default c = (λ e. absurd cc, λ h. absurd (unread c.args.self.now c.args.text.now c.in_default.ensures h))

pub returns-in_default-distance : goal.returns-in_default-distance
returns-in_default-distance c = (λ e. absurd cc, λ h. absurd (no_distance c.args.self.now c.args.text.now c.in-Some.end c.in-Some.ensures (sym c.in_default-distance.ensures) h))

pub returns-then-reaches : goal.returns-then-reaches
returns-then-reaches c = (
  λ e. has_value c.args.self.now c.args.text.now c.in-Some.end c.in-Some-distance.far (sym c.in-Some-distance.ensures) (sym c.reaches.ensures ∙ c.if-reaches.true) (sym c.is_spelled.ensures ∙ e),
  λ h. c.is_spelled.ensures ∙ is_so_spelled c.args.self.now c.args.text.now c.in-Some.end c.in-Some.ensures h,
)

pub returns-else-reaches : goal.returns-else-reaches
returns-else-reaches c = (
  λ e. absurd (let f : c.reaches.result ≡ false = c.if-reaches.false in cc),
  λ h. c.reaches.ensures ∙ is_in_reach c.args.self.now c.args.text.now c.in-Some.end c.in-Some-distance.far c.in-Some.ensures (sym c.in-Some-distance.ensures) h,
)
