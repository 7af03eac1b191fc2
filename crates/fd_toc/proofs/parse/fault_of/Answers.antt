use Rattle.std.proofs.Common.{◌∙◌, sym}
use Rattle.fd_toc.proofs.Patterns.{last_fault_is, none_is}
use Rattle.fd_toc.proofs.parse.fault_of.Goals as goal

pub returns-clause-fault : goal.returns-clause-fault
returns-clause-fault c =
    last_fault_is c.args.i c.args.bytes.now c.has_digest-two.result c.departure-kind.result c.excess-writer.result c.departure.result c.kind_pattern.result c.tail_pattern.result c.to_be_bytes-most.result
    c.has_digest-two.ensures c.kind_pattern.ensures c.tail_pattern.ensures c.to_be_bytes-most.ensures c.departure-kind.ensures.departs (none_is c.departure-kind.result (sym c.is_some.ensures ∙ c.if-is_some.false))
    c.excess-writer.ensures (none_is c.excess-writer.result (sym c.is_some-2.ensures ∙ c.if-is_some-2.false)) c.departure.ensures.departs
