use denote.Param.Send.{sendable}
use Rattle.fd_disk_mem.proofs.Sending.{folder_send}
use Rattle.fd_reader_tests.proofs.layers.listed_in_memory.Goals as goal

pub listed-requires-send-S-Folder : goal.listed-requires-send-S-Folder
listed-requires-send-S-Folder g c κs within = let folder = folder_send in search sendable
