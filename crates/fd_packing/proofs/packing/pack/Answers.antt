use Rattle.std.proofs.Common.{◌^◌, ◌-◌, ◌%◌, length, replicate, sym}
use Rattle.fd_packing.specs.Bits.{packed}
use Rattle.fd_packing.proofs.BitLemmas.{number_packed}
use Rattle.fd_packing.proofs.Fits.{each_fits}
use Rattle.fd_packing.proofs.packing.pack.Goals as goal

pub returns-in_ok-write_all-in-None-clause-numbers : goal.returns-in_ok-write_all-in-None-clause-numbers
returns-in_ok-write_all-in-None-clause-numbers c = λ j lt.
    number_packed c.args.bits c.args.xs.now c.in_ok-write_all-in-None.field-0.items (replicate ((8 - length (packed c.args.bits c.args.xs.now) % 8) % 8) 0) c.in_ok-write_all-in-None.ensures j lt
    (each_fits (2 ^ c.args.bits) c.args.xs.now (sym c.in-None.ensures) j lt)
