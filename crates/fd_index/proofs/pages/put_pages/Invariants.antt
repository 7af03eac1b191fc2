use Rattle.std.proofs.Common.{drop}
use Rattle.fd_index.specs.Slots.{records_of}
use Rattle.fd_index.proofs.Paging.{Filling}
use Rattle.fd_index.proofs.pages.put_pages.Given as goal

abbrev pub invariant-loop-slot : goal.invariant-loop-slot
invariant-loop-slot l = Filling (records_of l.texts.texts l.slots) (records_of l.texts.texts (drop l.slot-index l.slots)) l.fn.out.items l.out.items l.count l.pages l.text.items
