use Rattle.std.specs.Prelude.{◌≡◌, ◌≤◌, ◌++◌, List, Option, drop, is_some, length}
use Rattle.fd_disk.specs.Folders.{Holdings}
use Rattle.fd_split.specs.Positions.{Position}
use Rattle.fd_key.specs.Pairs.{Pair}
use Rattle.fd_schema.specs.Rules.{Rule}
use Rattle.fd_library.specs.Open.{OutAre, names_of}
use Rattle.fd_stored.specs.Archiving.{Stored}
use Rattle.fd_bulk.specs.Inputs.{Going}
use Rattle.fd_sheets.specs.Sheets.{Placed}
use Rattle.fd_bulk.specs.Naming.{Notes}
use Rattle.fd_bulk.proofs.Placing.{WentBy}
use Rattle.fd_bulk.proofs.reading.deal_sheets.Given as goal

abbrev pub invariant-loop-sheet : goal.invariant-loop-sheet
invariant-loop-sheet g l = record {
  next : (goal.iterator-loop-sheet g).can_next l.sheet-iterator;
  ends : (goal.iterator-loop-sheet g).is_finite l.sheet-iterator;
  out : OutAre l.library.each (g.S.Store.out l.store);
  told : is_some (g.S.Store.has l.store) ≡ is_some (g.S.Store.has l.fn.store);
  later : g.S.Store.faults l.fn.store ≤ g.S.Store.faults l.store;
  jobs : length l.crew.jobs.items ≡ length l.fn.crew.jobs.items;
  notes : Notes l.fn.names.texts.items l.names.texts.items (names_of l.fn.library.each) (names_of l.library.each);
  goes : (rules : List Rule) (given : List Pair) (p q : Position) (start : Option Holdings) (all waiting : List Stored) → p.split.fed ≤ 68719476736 → Placed rules given p l.fn.sheets.items q
      → Going g.S.Folder.Folder.has g.S.Folder.Shelf.Shelf.kept start (g.S.Store.has l.fn.store) all waiting l.fn.library l.fn.crew.passes.items l.fn.crew.jobs.items l.fn.crew.parcels.items p
      → WentBy g.S.Folder.Folder.has g.S.Folder.Shelf.Shelf.kept rules given p q start (g.S.Store.has l.store) (all ++ waiting) (drop (length l.yielded) l.fn.sheets.items) l.library l.crew.passes.items l.crew.jobs.items l.crew.parcels.items;
}
