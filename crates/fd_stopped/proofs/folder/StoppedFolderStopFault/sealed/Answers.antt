use Rattle.fd_stopped.proofs.folder.StoppedFolderStopFault.sealed.Goals as goal

pub returns-in-Ok-Some-clause-time : goal.returns-in-Ok-Some-clause-time
returns-in-Ok-Some-clause-time g c out = c.sealed.ensures.time _

pub returns-in-Ok-None-clause-time : goal.returns-in-Ok-None-clause-time
returns-in-Ok-None-clause-time g c out = c.sealed.ensures.time _

pub returns-in-Err-Fault-clause-time : goal.returns-in-Err-Fault-clause-time
returns-in-Err-Fault-clause-time g c out = c.sealed.ensures.time _

pub returns-clause-time : goal.returns-clause-time
returns-clause-time g c out = c.sealed.ensures.time _
