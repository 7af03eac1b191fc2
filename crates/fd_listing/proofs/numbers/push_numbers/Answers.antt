use Rattle.std.proofs.Common.{◌++◌, string_bytes, add-one, arith}
use Rattle.fd_listing.specs.Numbers.{numbers_text}
use Rattle.fd_listing.proofs.NumberLaws.{next_number, all_numbers}
use Rattle.fd_listing.proofs.numbers.push_numbers.Goals as goal

pub returns : goal.returns
returns c =
    all_numbers (string_bytes c.loop-number.out) (string_bytes c.args.out.now ++ numbers_text c.args.numbers.now) c.args.numbers.now c.loop-number.number-index (omega (arith, c.loop-number-test.false, c.loop-number.auto.number-index-end)) c.loop-number.invariant

pub loop-number-preserved : goal.loop-number-preserved
loop-number-preserved c =
    rw add-one (next_number (string_bytes c.loop-number.out) (string_bytes c.push_number.new.out) (string_bytes c.args.out.now ++ numbers_text c.args.numbers.now) c.args.numbers.now c.loop-number.number-index _ c.loop-number-test.true c.loop-number.invariant c.in_ok-push_number.ensures)
