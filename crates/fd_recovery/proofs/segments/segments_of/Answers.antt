use Rattle.std.proofs.Common.{arith}
use Rattle.fd_recovery.proofs.TakingUp.{cause_of, entry_damaged, looked_then, next_sound, next_taken}
use Rattle.fd_recovery.proofs.segments.segments_of.Goals as goal

pub returns-in-Err-clause-damaged : goal.returns-in-Err-clause-damaged
returns-in-Err-clause-damaged g c =
    entry_damaged c.in-Err.fault (g.D.Folder.has c.args.folder.now) (g.D.Folder.has c.loop-i.folder) c.args.entries.now c.loop-i.i _ c.loop-i.invariant.looked.has (omega arith) c.loop-i.invariant.sound c.in-Err.ensures.damaged

pub loop-i-preserved : goal.loop-i-preserved
loop-i-preserved g c =
    let has = g.D.Folder.has in
    record {
      taken = next_taken (g.D.Folder.name c.args.folder.now) (g.D.Folder.name c.loop-i.folder) (has c.args.folder.now) (has c.loop-i.folder) c.args.entries.now c.loop-i.i _ c.loop-i.segments.items c.push.new.self.items c.in-Ok-new.shared c.in-Ok.segment
          (omega arith) c.loop-i.invariant.looked.name c.loop-i.invariant.looked.has c.loop-i.invariant.taken c.in-Ok-push.ensures.items c.in-Ok-new.ensures.ok c.in-Ok.ensures.entry c.in-Ok.ensures.named c.in-Ok.ensures.files;
      sound = next_sound (has c.args.folder.now) (has c.loop-i.folder) c.args.entries.now c.loop-i.i _ (omega arith) c.loop-i.invariant.looked.has c.loop-i.invariant.sound c.in-Ok.ensures.sound;
      looked = looked_then g.D.Folder _ _ _ c.loop-i.invariant.looked c.in-Ok.ensures.looked;
    }

pub returns-in-Err-clause-cause : goal.returns-in-Err-clause-cause
returns-in-Err-clause-cause g c =
    cause_of c.in-Err.fault (g.D.Folder.faults c.args.folder.now) (g.D.Folder.faults c.loop-i.folder) (g.D.Folder.faults c.segment_of.new.folder) c.args.entries.now c.loop-i.i _ c.loop-i.invariant.looked.later (omega arith) c.in-Err.ensures.cause

pub returns-in-Err-clause-looked : goal.returns-in-Err-clause-looked
returns-in-Err-clause-looked g c = looked_then g.D.Folder _ _ _ c.loop-i.invariant.looked c.segment_of.ensures.looked

pub returns-in_default-clause-looked : goal.returns-in_default-clause-looked
returns-in_default-clause-looked g c = looked_then g.D.Folder _ _ _ c.loop-i.invariant.looked c.segment_of.ensures.looked

pub returns-in_default-push-clause-looked : goal.returns-in_default-push-clause-looked
returns-in_default-push-clause-looked g c = looked_then g.D.Folder _ _ _ c.loop-i.invariant.looked c.segment_of.ensures.looked
