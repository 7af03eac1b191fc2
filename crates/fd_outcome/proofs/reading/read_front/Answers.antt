use Rattle.std.proofs.Common.{◌≡◌, ap, take, length}
use Rattle.fd_split.proofs.InputLemmas.{at_the_end}
use Rattle.fd_outcome.proofs.reading.read_front.Goals as goal

pub returns-then-n-eq0-clause-whole : goal.returns-then-n-eq0-clause-whole
returns-then-n-eq0-clause-whole g c =
    let none : c.in-Ok-read_some.n ≡ 0 = c.if-n-eq0.true in
    at_the_end (g.I.Source.left c.args.input.now) (g.I.Source.left c.loop-input.input) (g.I.Source.left c.read_some.new.input) c.loop-input.octets.items _ (length c.loop-input.octets.items ≡ c.args.most)
    c.loop-input.invariant.given c.in-Ok-read_some.ensures.given (ap (λ n. take n c.read_some.new.buffer) none) (c.in-Ok-read_some.ensures.end none)
