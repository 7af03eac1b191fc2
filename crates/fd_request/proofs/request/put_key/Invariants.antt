use Rattle.std.proofs.Common.{◌≡◌, ◌<◌, ◌++◌, List, length, Some}
use Rattle.std.specs.Prelude.{slice_get}
use Rattle.fd_key.specs.Pairs.{Pair}
use Rattle.fd_request.specs.Expansion.{expand}
use Rattle.fd_request.specs.Keywords.{seen_keywords}
use Rattle.fd_request.specs.Spelled.{IsSpelled}
use Rattle.fd_request.proofs.Choices.{left, Absent, Differ}
use Rattle.fd_request.proofs.request.put_key.Given as goal

abbrev pub invariant-loop-keyword : goal.invariant-loop-keyword
invariant-loop-keyword l = record {
  size : length l.key ≡ l.keyword-index;
  block : l.block ≡ length (left l.keywords l.keyword-index);
  rest : l.rest < l.block;
  differ : Differ l.keywords l.keyword-index;
  absent : Absent l.keywords l.keyword-index l.key;
  spelled : IsSpelled l.key;
  front : (c : List Pair) → slice_get (left l.keywords l.keyword-index) l.rest ≡ Some c → slice_get (expand (seen_keywords l.keywords)) l.number ≡ Some (l.key ++ c);
}
