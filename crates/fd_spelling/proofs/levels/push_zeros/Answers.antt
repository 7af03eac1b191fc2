use Rattle.std.proofs.Common.{◌≡◌, ◌+◌, ℕ, List, arith, length, length-append, replicate}
use Rattle.std.proofs.lemmas.List.{length-replicate}
use Rattle.fd_spelling.proofs.Zeros.{digits_joined, digits_of_zeros}
use Rattle.fd_spelling.proofs.levels.push_zeros.Goals as goal

pub push_str-requires : goal.push_str-requires
push_str-requires c =
    let written : List ℕ = replicate c.loop-i._i 48 in
    let all : length c.loop-i.out.bytes ≡ length c.args.out.now.bytes + length written = rw c.loop-i.invariant (length-append c.args.out.now.bytes written) in
    let zeros : length written ≡ c.loop-i._i = length-replicate {A = ℕ} c.loop-i._i 48 in
    omega (arith, all, zeros, c.requires.room)

pub returns-clause-digits : goal.returns-clause-digits
returns-clause-digits c =
    rw c.loop-i.invariant (digits_joined c.args.out.now.bytes (replicate c.loop-i._i 48) c.requires.digits (digits_of_zeros c.loop-i._i))
