-- A folder in memory may go to another thread, and so may each part of it. What refers back to itself through a `Box` has its
-- lemma in the laws that are made for it, where the parts are given by hand.
use denote.Param.Send.{IsSend, sendable}
use Rattle.std.proofs.Crossing.{crosses}
use Rattle.std.proofs.MapsCrossing as maps
use Rattle.fd_disk_mem.specs.contracts.folder.MemFolder as MemFolder
use Rattle.fd_disk_mem.specs.contracts.slots.Slots as Slots
use Rattle.fd_disk_mem.specs.contracts.slots.Slot as Slot
use Rattle.fd_disk_mem.specs.contracts.slots.Stored as Stored
use Rattle.fd_disk_mem.specs.contracts.drawers.Drawers as Drawers
use Rattle.fd_file_mem.proofs.Sending.{disk_send, plan_send, plans_send}
use Rattle.fd_disk_mem.proofs.slots.Slots.TheLaws.TheKnot.{send-Slots}
use Rattle.fd_disk_mem.proofs.drawers.Drawers.TheLaws.TheKnot.{send-Drawers}
use Rattle.fd_disk_mem.specs.contracts.past.Past as Past
use Rattle.fd_disk_mem.proofs.past.Past.TheLaws.TheKnot.{send-Past}

drawers_send : IsSend (Drawers.the_field).row
drawers_send = send-Drawers (search (sendable, crosses, maps.crosses) depth 20) (λ h s. search (sendable, crosses, maps.crosses) depth 20)

stored_send : IsSend (Stored.the_field).row
stored_send = let disk = disk_send in let drawers = drawers_send in search (sendable, crosses, maps.crosses) depth 20

slot_send : IsSend (Slot.the_field).row
slot_send = let stored = stored_send in search (sendable, crosses, maps.crosses) depth 20

slots_send : IsSend (Slots.the_field).row
slots_send = send-Slots slot_send (λ h s. search (sendable, crosses, maps.crosses) depth 20)

past_send : IsSend (Past.the_field).row
past_send = let disk = disk_send in send-Past disk_send (λ h s. search (sendable, crosses, maps.crosses) depth 20) (search (sendable, crosses, maps.crosses) depth 20)

pub folder_send : IsSend MemFolder.the_row
folder_send = let disk = disk_send in let past = past_send in let drawers = drawers_send in let slots = slots_send in let plan = plan_send in let plans = plans_send in search (sendable, crosses, maps.crosses) depth 20
