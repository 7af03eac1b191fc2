use Rattle.std.proofs.Common.{◌≡◌, ◌++◌, drop, string_bytes}
use Rattle.fd_listing.specs.Sinks.{TakesAllBut}
use Rattle.fd_spelling.specs.Texts.{texts}
use Rattle.fd_inventory.specs.Written.{text_lines}
use Rattle.fd_inventory.proofs.printing.write_lines.Given as goal

abbrev pub invariant-loop-text : goal.invariant-loop-text
invariant-loop-text g l = record {
  text : TakesAllBut (g.K.Sink.taken l.fn.sink) (g.K.Sink.taken l.sink) (text_lines (texts l.texts)) (string_bytes l.lines ++ text_lines (texts (drop l.text-index l.texts)));
  calm : g.K.Sink.faults l.sink ≡ g.K.Sink.faults l.fn.sink;
}
