use Rattle.std.proofs.Common.{◌≡◌, ◌≤◌, ◌-◌, ◌+◌, true, [], length, drop}
use Rattle.fd_tokens.specs.Tokens.{view, views, parts}
use Rattle.fd_request.specs.Grammar.{each_of, keyword_in}
use Rattle.fd_request.specs.Keywords.{seen_keywords, differ_after}
use Rattle.fd_request.proofs.reading.keywords.Given as goal

abbrev pub invariant-parts : goal.invariant-parts
invariant-parts l = record {
  within : l.from ≤ length l.tokens;
  few : length l.found.keywords.items ≤ l.from;
  differ : differ_after [] (seen_keywords l.found.keywords.items) ≡ true;
  so_far : each_of keyword_in (seen_keywords l.found.keywords.items) (parts 44 (view l.stop) (views (drop l.from l.tokens)))
      ≡ each_of keyword_in [] (parts 44 (view l.stop) (views (drop l.fn.first l.tokens)));
}

abbrev pub decreases-parts : goal.decreases-parts
decreases-parts l = (length l.tokens + 1) - l.from
