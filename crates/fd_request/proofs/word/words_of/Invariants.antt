use Rattle.std.proofs.Common.{◌≡◌, ◌≤◌, ◌-◌, ◌+◌, ◌++◌, length, map, drop}
use Rattle.std.specs.Prelude.{option_map}
use Rattle.fd_tokens.specs.Tokens.{view, views, parts}
use Rattle.fd_request.specs.Grammar.{word_in, begun, up_to_behind, words_of}
use Rattle.fd_request.specs.Seen.{seen_words}
use Rattle.fd_request.proofs.word.words_of.Given as goal

abbrev pub invariant-parts : goal.invariant-parts
invariant-parts l = record {
  within : l.from ≤ length l.tokens;
  so_far : seen_words l.words.items ++ up_to_behind (map word_in (begun (option_map view l.left) (parts 47 (view l.stop) (views (drop l.from l.tokens))))) ≡ words_of (view l.stop) (option_map view l.rest) (views l.tokens);
}

abbrev pub decreases-parts : goal.decreases-parts
decreases-parts l = (length l.tokens + 1) - l.from
