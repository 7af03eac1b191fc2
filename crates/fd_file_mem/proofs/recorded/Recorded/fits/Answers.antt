use Rattle.std.proofs.Common.{rules, ◌≡◌, ◌+◌, ◌-◌, ◌≤◌, true, ap, arith}
use Rattle.fd_file_mem.specs.Calls.{has_room, bytes_by}
use Rattle.fd_file_mem.proofs.KeptLemmas.{bytes_are, fits_rest}
use Rattle.fd_file_mem.proofs.recorded.Recorded.fits.Goals as goal

pub returns : goal.returns
returns c =
    let now = c.args.self.now in
    let left = c.size-2.result - c.len.result in
    let used = bytes_are c.self.inside.marks c.self.inside.written now (ap (λ m. m.calls) c.self.view_is) c.self.invariant.bytes in
    let short : c.args.at + c.args.len ≤ now.size = omega (arith, c.if-end-size.false, c.size.ensures, ap (λ m. m.size) c.self.view_is) in
    let room : has_room now ≡ true = search rules in
    let whole : bytes_by now.calls + left ≡ now.most_bytes = omega (arith, used, c.size-2.ensures, c.len.ensures.len, c.len.ensures.within, ap (λ m. m.most_bytes) c.self.view_is) in
    fits_rest now c.args.at c.args.len left short room whole
