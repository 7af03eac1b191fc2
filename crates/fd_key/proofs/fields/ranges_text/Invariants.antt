use Rattle.std.proofs.Common.{◌≡◌, ◌≤◌, ◌*◌, ◌++◌, drop, length, map, true, string_bytes}
use Rattle.fd_spelling.specs.Stats.{parts_text}
use Rattle.fd_key.specs.Fields.{range_text}
use Rattle.fd_key.proofs.fields.ranges_text.Given as goal

abbrev pub invariant-loop-range : goal.invariant-loop-range
invariant-loop-range l = record {
  text : string_bytes l.out ++ parts_text l.first (map range_text (drop l.range-index l.ranges)) ≡ parts_text true (map range_text l.ranges);
  short : length (string_bytes l.out) ≤ 29 * l.range-index;
}
