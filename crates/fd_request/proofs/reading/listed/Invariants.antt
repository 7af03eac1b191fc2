use Rattle.std.proofs.Common.{◌≡◌, true, length, drop, []}
use Rattle.std.specs.List.{list_all}
use Rattle.fd_spelling.specs.Names.{is_value}
use Rattle.fd_spelling.specs.Texts.{texts}
use Rattle.fd_request.specs.Grammar.{each_of, value_in}
use Rattle.fd_request.specs.Seen.{seen_words}
use Rattle.fd_request.proofs.reading.listed.Given as goal

abbrev pub invariant-loop-word : goal.invariant-loop-word
invariant-loop-word l = record {
  number : length l.values.items ≡ l.word-index;
  values : list_all is_value (texts l.values.items) ≡ true;
  so_far : each_of (value_in l.name) (texts l.values.items) (seen_words (drop l.word-index l.words)) ≡ each_of (value_in l.name) [] (seen_words l.words);
}
