use Rattle.std.proofs.Common.{◌≡◌, ◌≤◌, ◌-◌, List, map, drop, None}
use Rattle.fd_entries.specs.declared.batch.Pair.{Pair}
use Rattle.fd_entries.specs.Batches.{newest}
use Rattle.fd_dataset.specs.Listed.{listing}
use Rattle.fd_retriever.specs.Kept.{AreThose, Fits}
use Rattle.fd_retriever.specs.Answers.{LackBehind, Tells}
use Rattle.fd_retriever.proofs.fetching.fetch.Given as goal

abbrev pub invariant-loop-i : goal.invariant-loop-i
invariant-loop-i g l = record {
  taken : g.K.Sink.taken l.sink ≡ g.K.Sink.taken l.fn.sink;
  later : g.K.Sink.faults l.fn.sink ≤ g.K.Sink.faults l.sink;
  calm : g.K.Sink.faults l.sink ≡ g.K.Sink.faults l.fn.sink;
  fits : Fits l.lenses (map listing l.snapshot);
  those : AreThose l.fn.lenses l.snapshot → AreThose l.lenses l.snapshot;
  lack : AreThose l.fn.lenses l.snapshot → LackBehind l.snapshot l.key.items (l.count - l.i);
  none : (t : List (List Pair)) → Tells (map listing l.snapshot) t → newest (drop (l.count - l.i) t) l.key.items ≡ None;
}
