use Rattle.std.proofs.Common.{◌≡◌, ◌≤◌, ◌+◌, ◌-◌, ◌++◌, List, ℕ, length, take, drop, ◌∙◌, ap, refl, arith}
use Rattle.std.proofs.lemmas.List.{length-take-le}
use Rattle.fd_buffers.proofs.AheadLemmas.{gives}
use Rattle.fd_buffers.proofs.ahead.AheadReader.read_at.Goals as goal

pub returns-then-has-clause-bytes : goal.returns-then-has-clause-bytes
returns-then-has-clause-bytes g c =
    let a = c.args.self.now in
    let old = c.args.into.now in
    let ahead = c.deref.ensures.value in
    let has : (a.start ≤ c.args.at) × (c.args.at - a.start + length old ≤ a.filled) = c.if-has.ensures refl in
    let long : length (take a.filled c.deref.result.now) ≡ a.filled = length-take-le a.filled c.deref.result.now (omega (arith, a.held, c.deref.ensures.len)) in
    let count : c.copied.result ≡ length old = omega (arith, c.copied.ensures.count, has, long) in
    gives g.row.F.Denot (g.R.Reader.bytes a.inner) (g.R.Reader.len a.inner) c.args.at a.start a.filled a.ahead.items old c.copied.new.into c.copied.result
    (g.met.R.Reader.len_told a.inner) a.right has.0 has.1 a.within count
    (c.copied.ensures.bytes ∙ ap (λ (l : List ℕ). take c.copied.result (drop (c.args.at - a.start) (take a.filled l)) ++ drop c.copied.result old) ahead)
