-- A file in memory may go to another thread, and so may each part of it and what is planned of it.
use denote.Param.Send.{IsSend, sendable}
use Rattle.std.proofs.Crossing.{crosses}
use Rattle.std.proofs.MapsCrossing as maps
use Rattle.fd_file_mem.specs.contracts.disk.MemDisk as MemDisk
use Rattle.fd_file_mem.specs.contracts.recorded.Recorded as Recorded
use Rattle.fd_file_mem.specs.contracts.recorded.Mark as Mark
use Rattle.fd_file_mem.specs.contracts.fuse.Fuse as Fuse
use Rattle.fd_file_mem.specs.contracts.plan.Plan as Plan
use Rattle.fd_file_mem.specs.contracts.plan.Plans as Plans
use Rattle.fd_file_mem.specs.contracts.plan.Planned as Planned
use Rattle.fd_file_mem.specs.contracts.plan.Fail as Fail

fuse_send : IsSend (Fuse.the_field).row
fuse_send = search (sendable, crosses, maps.crosses) depth 20

fail_send : IsSend (Fail.the_field).row
fail_send = search (sendable, crosses, maps.crosses) depth 20

pub plan_send : IsSend (Plan.the_field).row
plan_send = let fuse = fuse_send in let fail = fail_send in search (sendable, crosses, maps.crosses) depth 20

planned_send : IsSend (Planned.the_field).row
planned_send = search (sendable, crosses, maps.crosses) depth 20

pub plans_send : IsSend (Plans.the_field).row
plans_send = let fuse = fuse_send in let planned = planned_send in search (sendable, crosses, maps.crosses) depth 20

mark_send : IsSend (Mark.the_field).row
mark_send = search (sendable, crosses, maps.crosses) depth 20

recorded_send : IsSend (Recorded.the_field).row
recorded_send = let mark = mark_send in search (sendable, crosses, maps.crosses) depth 20

pub disk_send : IsSend (MemDisk.the_field).row
disk_send = let recorded = recorded_send in let plan = plan_send in search (sendable, crosses, maps.crosses) depth 20
