use Rattle.std.proofs.Common.{subst}
use Rattle.std.specs.Prelude.{codes, ◌++◌}
use Rattle.fd_listing.specs.Lines.{line}
use Rattle.fd_stored.specs.declared.status.Status.TheVariants.{Damaged, Refused}
use Rattle.fd_stored.specs.Causes.{BadTable, damaged_line}
use Rattle.fd_outcome.specs.Told.{ToldOrNoMemory}
use Rattle.fd_archive.proofs.telling.tell_fault.Goals as goal

pub returns-in-NoRule : goal.returns-in-NoRule
returns-in-NoRule g c =
    rw c.in-NoRule.is (subst (λ t. ToldOrNoMemory Refused (line (codes "refused NoRule " ++ t)) c.tell_text.result (g.E.Sink.taken c.args.report.now) (g.E.Sink.taken c.tell_text.new.report) (g.E.Sink.faults c.args.report.now) (g.E.Sink.faults c.tell_text.new.report)) c.as_str.ensures.value c.tell_text.ensures)

pub returns-in-NotATable : goal.returns-in-NotATable
returns-in-NotATable g c =
    rw c.in-NotATable.is (subst (λ n. ToldOrNoMemory Damaged (damaged_line n (BadTable (record { at = c.in-NotATable.at; want = c.in-NotATable.want; found = c.in-NotATable.found }))) c.tell_broken.result (g.E.Sink.taken c.args.report.now) (g.E.Sink.taken c.tell_broken.new.report) (g.E.Sink.faults c.args.report.now) (g.E.Sink.faults c.tell_broken.new.report)) c.as_str-in-NotATable.ensures.value c.tell_broken.ensures)

pub returns-in-TableFull : goal.returns-in-TableFull
returns-in-TableFull g c = rw c.in-TableFull.is c.tell.ensures

pub returns-in-TooMany : goal.returns-in-TooMany
returns-in-TooMany g c = rw c.in-TooMany.is c.tell-in-TooMany.ensures

pub returns-in-InputLimit : goal.returns-in-InputLimit
returns-in-InputLimit g c = rw c.in-InputLimit.is c.tell_refusal-in-InputLimit.ensures.input
