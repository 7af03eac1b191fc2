use Rattle.std.proofs.Common.{◌≡◌, ◌++◌, drop, string_bytes}
use Rattle.fd_listing.specs.Products.{ranges_text}
use Rattle.fd_listing.proofs.product.push_ranges.Given as goal

abbrev pub invariant-loop-range : goal.invariant-loop-range
invariant-loop-range l = string_bytes l.out ++ ranges_text (drop l.range-index l.ranges) ≡ string_bytes l.initial.out ++ ranges_text l.ranges
