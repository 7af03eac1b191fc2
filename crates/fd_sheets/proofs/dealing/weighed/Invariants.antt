use Rattle.std.proofs.Common.{◌≡◌, ◌<◌, ◌+◌, ◌%◌, drop}
use Rattle.std.specs.Prelude.{sum}
use Rattle.fd_sheets.proofs.dealing.weighed.Given as goal

abbrev pub invariant-loop-octet : goal.invariant-loop-octet
invariant-loop-octet l = record {
  below : l.weight < 16777216;
  weighs : (l.weight + sum (drop l.octet-index l.text)) % l.workers ≡ (l.before + sum l.text) % l.workers;
}
