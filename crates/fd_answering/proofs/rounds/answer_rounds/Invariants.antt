use Rattle.std.proofs.Common.{◌≡◌, ◌≤◌, ◌<◌, ◌-◌, List, All}
use Rattle.fd_request.specs.Expansion.{expand}
use Rattle.fd_ahead.specs.Reading.{IsJob, IsStock}
use Rattle.fd_outcome.specs.Asking.{Answer}
use Rattle.fd_answering.specs.Located.{AreAt}
use Rattle.fd_answering.specs.Finding.{IsAnswered, TookSome}
use Rattle.fd_answering.proofs.rounds.answer_rounds.Given as goal

abbrev pub invariant-rounds : goal.invariant-rounds
invariant-rounds g l = record {
  answered : (xs : List Answer) → AreAt l.opened (expand l.request) xs l.located
      → IsAnswered xs l.done (g.K.Sink.taken l.fn.output) (g.K.Sink.taken l.output) (g.E.Sink.taken l.fn.report) (g.E.Sink.taken l.report) l.found (l.done - l.found);
  jobs : All (IsJob l.opened) l.jobs;
  stock : IsStock l.opened l.stock;
  counted : l.found ≤ l.done;
  done : l.done ≤ l.next;
  next : l.next ≤ l.count;
  on : l.done < l.count → l.done < l.next;
  grew : TookSome (g.E.Sink.taken l.fn.report) (g.E.Sink.taken l.report);
  output : g.K.Sink.faults l.output ≡ g.K.Sink.faults l.fn.output;
  report : g.E.Sink.faults l.fn.report ≤ g.E.Sink.faults l.report;
}

abbrev pub decreases-rounds : goal.decreases-rounds
decreases-rounds g l = l.count - l.done
