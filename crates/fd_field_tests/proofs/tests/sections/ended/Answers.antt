use Rattle.fd_sections.proofs.Pending.{finishes}
use Rattle.fd_field_tests.proofs.tests.sections.ended.Goals as goal

pub finish-requires : goal.finish-requires
finish-requires c = finishes c.args.splitter c.next.follows.lender-at-none (rw c.in-Ok-None.field-0-is at c.in-Ok-None.ensures.answer) c.next.follows.holds-at-none
