use Rattle.fd_recovery.proofs.TakingUp.{field_damaged, index_damaged, looked_then, sound_of}
use Rattle.fd_recovery.proofs.segments.segment_of.Goals as goal

pub returns-in-Err-clause-damaged : goal.returns-in-Err-clause-damaged
returns-in-Err-clause-damaged g c = field_damaged c.in-Err.fault (g.D.Folder.has c.args.folder.now) c.args.entry.now c.field_file.result c.field_file.ensures c.in-Err.ensures.damaged

pub returns-in-Err-listed_file-clause-damaged : goal.returns-in-Err-listed_file-clause-damaged
returns-in-Err-listed_file-clause-damaged g c =
    index_damaged c.in-Err-listed_file.fault (g.D.Folder.has c.args.folder.now) (g.D.Folder.has c.listed_file.new.folder) c.args.entry.now c.field_file.result c.index_file.result c.field_file.ensures c.index_file.ensures c.in-Ok.ensures.looked.has
    (sound_of (g.D.Folder.has c.args.folder.now) _ _ c.in-Ok.ensures.told) c.in-Err-listed_file.ensures.damaged

pub returns-in-Err-listed_file-clause-looked : goal.returns-in-Err-listed_file-clause-looked
returns-in-Err-listed_file-clause-looked g c = looked_then g.D.Folder _ _ _ c.listed_file.ensures.looked c.listed_file-2.ensures.looked

pub returns-in-Err-check_index-clause-looked : goal.returns-in-Err-check_index-clause-looked
returns-in-Err-check_index-clause-looked g c = looked_then g.D.Folder _ _ _ c.listed_file.ensures.looked c.listed_file-2.ensures.looked

pub returns-clause-looked : goal.returns-clause-looked
returns-clause-looked g c = looked_then g.D.Folder _ _ _ c.listed_file.ensures.looked c.listed_file-2.ensures.looked
