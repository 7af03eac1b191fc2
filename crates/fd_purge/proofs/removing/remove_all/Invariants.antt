use Rattle.std.proofs.Common.{◌≡◌, ◌≤◌, false, None, option_map, take}
use Rattle.fd_disk.specs.Renewals.{GoesOn}
use Rattle.fd_purge.specs.Carrying.{IsThinnerOf, LeavesThinnerOf, thinned_by}
use Rattle.fd_purge.proofs.removing.remove_all.Given as goal

abbrev pub invariant-loop-i : goal.invariant-loop-i
invariant-loop-i g l = record {
  done : g.D.Folder.has l.folder ≡ option_map (thinned_by (take l.i l.dropped) l.kept) (g.D.Folder.has l.fn.folder);
  thinner : IsThinnerOf l.dropped l.kept (g.D.Folder.has l.fn.folder) (g.D.Folder.has l.folder);
  back : g.D.Folder.table_out l.folder ≡ false;
  last_writer : g.D.Folder.last_writer l.folder ≡ g.D.Folder.last_writer l.fn.folder;
  name : g.D.Folder.name l.folder ≡ g.D.Folder.name l.fn.folder;
  time : GoesOn (g.D.Folder.moment l.fn.folder None) (g.D.Folder.moment l.folder None) (g.D.Folder.left_since l.fn.folder None) (g.D.Folder.left_since l.folder None) (LeavesThinnerOf l.dropped l.kept (g.D.Folder.has l.fn.folder));
  later : g.D.Folder.faults l.fn.folder ≤ g.D.Folder.faults l.folder;
}
