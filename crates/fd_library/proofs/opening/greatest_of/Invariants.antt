use Rattle.std.proofs.Common.{◌≡◌, ◌≤◌, ◌*◌, take, All}
use Rattle.fd_entries.specs.declared.table.Entry.{Entry}
use Rattle.fd_library.specs.Answers.{greatest_listed}
use Rattle.fd_library.proofs.opening.greatest_of.Given as goal

abbrev pub invariant-loop-entry : goal.invariant-loop-entry
invariant-loop-entry l = All (λ (e : Entry). e.writer ≤ l.last) (take l.entry-index l.entries) × (l.last ≤ 65536 * l.entry-index) × (l.last ≡ greatest_listed (take l.entry-index l.entries))
