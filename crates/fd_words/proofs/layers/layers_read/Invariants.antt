use denote.Text.{Utf8}
use denote.Shadow.{shadow}
use Rattle.fd_words.proofs.LayerLemmas.{IsLeft}
use Rattle.fd_words.proofs.layers.layers_read.Given as goal

abbrev pub invariant-loop-count : goal.invariant-loop-count
invariant-loop-count l = shadow (Utf8 l.rest) × IsLeft l.text l.count l.layers l.rest
