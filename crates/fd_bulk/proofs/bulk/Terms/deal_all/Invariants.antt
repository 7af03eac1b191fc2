use Rattle.std.proofs.Common.{◌≡◌, ◌≤◌, ◌*◌, length}
use Rattle.std.specs.Prelude.{is_some}
use Rattle.fd_library.specs.Open.{OutAre, names_of}
use Rattle.fd_bulk.specs.Inputs.{Midway}
use Rattle.fd_bulk.specs.Naming.{AreOpened}
use Rattle.fd_bulk.proofs.bulk.Terms.deal_all.Given as goal

abbrev pub invariant-loop : goal.invariant-loop
invariant-loop g l = record {
  midway : Midway g.S.Folder.Folder.has g.S.Folder.Shelf.Shelf.kept l.fn.self.schema.now l.fn.self.given.now (g.I.Source.left l.fn.input) (g.I.Source.left l.input) (g.S.Store.has l.fn.store) (g.S.Store.has l.store) l.library l.crew.passes.items l.crew.jobs.items l.crew.parcels.items l.reader;
  out : OutAre l.library.each (g.S.Store.out l.store);
  told : is_some (g.S.Store.has l.store) ≡ is_some (g.S.Store.has l.fn.store);
  later : g.S.Store.faults l.fn.store ≤ g.S.Store.faults l.store;
  jobs : length l.crew.jobs.items ≡ length l.fn.crew.jobs.items;
  few : l.reader.split.fed ≤ 68719476736;
  room : 16 * l.reader.count ≤ l.reader.split.fed;
  turns : l.counter ≤ l.reader.count;
  opened : AreOpened l.names.texts.items (names_of l.library.each);
  read : g.I.Source.faults l.input ≡ g.I.Source.faults l.fn.input;
}
