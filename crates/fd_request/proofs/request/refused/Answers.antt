use Rattle.std.proofs.Common.{subst, sym}
use Rattle.fd_request.specs.declared.fault.RequestKind.{RequestKind}
use Rattle.fd_tokens.specs.declared.refusal.Refusal.{Refusal}
use Rattle.fd_request.specs.declared.fault.RequestFault.TheVariants as faults
use Rattle.fd_request.specs.Requests.{IsFaultOf}
use Rattle.fd_request.proofs.Sizes.{fault_before, fault_small, fault_large}
use Rattle.fd_request.proofs.request.refused.Goals.{else-size-gt-BYTES-via-then-size-gt-BYTES+else-at-ge-BYTES, else-size-gt-BYTES-via-else-size-gt-BYTES}
use Rattle.fd_request.proofs.request.refused.Goals as goal

pub returns-then-at-ge-BYTES : goal.returns-then-at-ge-BYTES
returns-then-at-ge-BYTES c =
    subst (λ (r : Refusal RequestKind). IsFaultOf c.args.size r c.too_long.result) (sym c.in-At.is)
    (fault_large c.args.size c.in-At.at c.in-At.kind c.too_long.result c.if-size-gt-BYTES.true c.if-at-ge-BYTES.true c.too_long.ensures)

pub returns-else-size-gt-BYTES : goal.returns-else-size-gt-BYTES
returns-else-size-gt-BYTES c =
    subst (λ (r : Refusal RequestKind). IsFaultOf c.args.size r (faults.At c.in-At.at c.in-At.kind)) (sym c.in-At.is)
    (elim c.else-size-gt-BYTES.branch [
      | else-size-gt-BYTES-via-then-size-gt-BYTES+else-at-ge-BYTES w ↦ fault_before c.args.size c.in-At.at c.in-At.kind w.if-at-ge-BYTES.false
      | else-size-gt-BYTES-via-else-size-gt-BYTES w ↦ fault_small c.args.size c.in-At.at c.in-At.kind w.if-size-gt-BYTES.false
    ])
