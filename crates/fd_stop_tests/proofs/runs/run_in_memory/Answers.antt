use denote.Param.Send.{sendable}
use Rattle.fd_disk_mem.proofs.Sending.{folder_send}
use Rattle.fd_stop_tests.proofs.runs.run_in_memory.Goals as goal

pub run-requires-send-S-Folder : goal.run-requires-send-S-Folder
run-requires-send-S-Folder g c κs within = let folder = folder_send in search sendable
