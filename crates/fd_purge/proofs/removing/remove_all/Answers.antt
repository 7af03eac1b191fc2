use Rattle.std.proofs.Common.{◌∙◌, None, option_map, take, ap, sym, arith, List}
use Rattle.std.proofs.lemmas.List.{take_all, take_more}
use Rattle.fd_disk.proofs.RenewalLemmas.{goes_then, still_goes, still_same}
use Rattle.fd_entries.specs.declared.table.Entry.{Entry}
use Rattle.fd_purge.specs.Carrying.{LeavesThinnerOf, thinned_by}
use Rattle.fd_purge.proofs.CarryLemmas.{leaves_then, named_at, thinned_more, thinned_none, thinner_next, thinner_same, thinner_then}
use Rattle.fd_purge.proofs.removing.remove_all.Goals as goal

pub loop-i-init : goal.loop-i-init
loop-i-init g c = record {
  done = thinned_none c.args.kept.now (g.D.Folder.has c.args.folder.now);
  thinner = thinner_same c.args.dropped.now c.args.kept.now (g.D.Folder.has c.args.folder.now);
  back = c.requires.back;
  last_writer = λ j. g.D.Folder.last_writer c.args.folder.now;
  name = λ j. g.D.Folder.name c.args.folder.now;
  time = still_goes _ _ _ _ _ (still_same _ _);
  later = omega arith;
}

pub loop-i-preserved : goal.loop-i-preserved
loop-i-preserved g c =
    let has = g.D.Folder.has in
    let a = has c.args.folder.now in
    let b = has c.loop-i.folder in
    let new = c.remove_both.new.folder in
    let dropped = c.args.dropped.now in
    let kept = c.args.kept.now in
    let i = c.loop-i.i in
    let inv = c.loop-i.invariant in
    record {
      done = thinned_more (take i dropped) kept _ a b (has new) inv.done c.in-Ok.ensures.ok ∙ ap (λ (l : List Entry). option_map (thinned_by l kept) a) (sym (take_more dropped i _ (omega arith)));
      thinner = thinner_next _ _ _ _ dropped kept _ a b (has new) c.in-Ok.ensures.time (λ m is. named_at dropped i _ m (omega arith) is) inv.thinner c.in-Ok.ensures.ok;
      back = c.in-Ok.ensures.back;
      last_writer = c.in-Ok.ensures.last_writer ∙ inv.last_writer;
      name = c.in-Ok.ensures.name ∙ inv.name;
      time = goes_then _ _ _ _ _ _ (LeavesThinnerOf dropped kept a) (LeavesThinnerOf _ kept b) (LeavesThinnerOf dropped kept a) (λ t u left le is. (g.met.D.Folder g.world.𝓛 g.world.𝓜 g.world.𝓡 ((λ s x. x), (λ x. x), (λ x. x), λ x. x)).earlier new None t u left le is) (λ left is. is)
          (λ left is. leaves_then dropped kept _ a b left (λ m named. named_at dropped i _ m (omega arith) named) inv.thinner is) inv.time c.in-Ok.ensures.time;
      later = omega (arith, c.in-Ok.ensures.later, inv.later);
    }

pub returns-in-Err-clause-err : goal.returns-in-Err-clause-err
returns-in-Err-clause-err g c =
    let has = g.D.Folder.has in
    thinner_then c.args.dropped.now c.args.kept.now _ (has c.args.folder.now) (has c.loop-i.folder) (has c.remove_both.new.folder) (λ m is. named_at c.args.dropped.now c.loop-i.i _ m (omega arith) is) c.loop-i.invariant.thinner c.in-Err.ensures.err

pub returns-in-Err-clause-time : goal.returns-in-Err-clause-time
returns-in-Err-clause-time g c =
    let has = g.D.Folder.has in
    let a = has c.args.folder.now in
    let b = has c.loop-i.folder in
    let dropped = c.args.dropped.now in
    let kept = c.args.kept.now in
    goes_then _ _ _ _ _ _ (LeavesThinnerOf dropped kept a) (LeavesThinnerOf _ kept b) (LeavesThinnerOf dropped kept a) (λ t u left le is. (g.met.D.Folder g.world.𝓛 g.world.𝓜 g.world.𝓡 ((λ s x. x), (λ x. x), (λ x. x), λ x. x)).earlier c.remove_both.new.folder None t u left le is) (λ left is. is)
    (λ left is. leaves_then dropped kept _ a b left (λ m named. named_at dropped c.loop-i.i _ m (omega arith) named) c.loop-i.invariant.thinner is) c.loop-i.invariant.time c.in-Err.ensures.time

pub returns-clause-ok : goal.returns-clause-ok
returns-clause-ok g c =
    c.loop-i.invariant.done ∙ ap (λ (l : List Entry). option_map (thinned_by l c.args.kept.now) (g.D.Folder.has c.args.folder.now)) (take_all c.loop-i.i c.args.dropped.now (omega arith))

pub returns-clause-time : goal.returns-clause-time
returns-clause-time g c = c.loop-i.invariant.time
