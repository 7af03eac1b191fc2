use Rattle.std.proofs.Common.{◌≡◌}
use Rattle.fd_schema.specs.Rules.{file_key}
use Rattle.fd_schema.specs.Reading.{seen_place}
use Rattle.fd_retriever.specs.declared.fault.Got.TheVariants.{Miss}
use Rattle.fd_retriever.specs.Answers.{AllSay}
use Rattle.fd_overlay.specs.Layers.{EachNearer}
use Rattle.fd_overlay.proofs.Nearest.{Lacks}
use Rattle.fd_overlay.proofs.over.Over.fetch.Given as goal

abbrev pub invariant-loop-i : goal.invariant-loop-i
invariant-loop-i g l = record {
  same : l.self-inside.layers.items ≡ l.fn.self;
  taken : g.K.Sink.taken l.sink ≡ g.K.Sink.taken l.fn.sink;
  calm : g.K.Sink.faults l.sink ≡ g.K.Sink.faults l.fn.sink;
  lacks : EachNearer l.fn.self l.i (Lacks (file_key (seen_place l.place)));
  say : EachNearer l.fn.self l.i (λ ss. AllSay ss (file_key (seen_place l.place)) Miss);
}
