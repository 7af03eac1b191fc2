use Rattle.std.proofs.Common.{arith, ◌≤◌, ◌<◌, ◌+◌, ℕ, List, [], length, subst}
use Rattle.fd_io.specs.Streams.{Takes, TakesFront}
use Rattle.fd_request.specs.Expansion.{expand}
use Rattle.fd_ahead.specs.Reading.{AreJoined}
use Rattle.fd_answering.proofs.RoundLemmas.{joined_halted, joined_round}
use Rattle.fd_answering.proofs.answering.answer_next.Goals as goal

pub returns-in-Ok-write_all-clause-step : goal.returns-in-Ok-write_all-clause-step
returns-in-Ok-write_all-clause-step g c =
    let os = c.args.opened.now in
    let ks = expand c.args.request.now in
    let n = c.gather-count.result in
    let bytes : List ℕ = c.gather-count.new.joined.items in
    let old = g.K.Sink.taken c.args.output.now in
    let new = g.K.Sink.taken c.write_all.new.sink in
    let up : c.args.from + n ≤ c.args.to = c.gather-count.ensures.count in
    let some : c.args.from < c.args.from + n = omega (arith, c.if-count-eq0.false) in
    let within : c.args.from + n ≤ length ks = omega (arith, up, c.requires.range.1, c.requires.located.count) in
    let joined : AreJoined os c.args.located.now c.args.from n [] bytes = subst (λ (t : List ℕ). AreJoined os c.args.located.now c.args.from n t bytes) c.clear.ensures.items (c.gather-count.ensures.joined os c.requires.stock) in
    let took : Takes old new bytes = subst (λ (t : List ℕ). Takes old new t) c.as_slice.ensures.value c.in-Ok-write_all.ensures.took in (
      some,
      up,
      joined_round {F = g.row.F.Denot} {X = g.row.X.Denot} os ks c.args.located.now c.args.from n c.args.found bytes c.requires.range.2 within joined old new (g.E.Sink.taken c.args.report.now)
          (g.K.Sink.faults c.args.output.now) (g.K.Sink.faults c.write_all.new.sink) (g.E.Sink.faults c.args.report.now) took c.in-Ok-write_all.ensures.calm,
    )

pub returns-in-Err-write_all-clause-step : goal.returns-in-Err-write_all-clause-step
returns-in-Err-write_all-clause-step g c =
    let os = c.args.opened.now in
    let ks = expand c.args.request.now in
    let n = c.gather-count.result in
    let bytes : List ℕ = c.gather-count.new.joined.items in
    let old = g.K.Sink.taken c.args.output.now in
    let new = g.K.Sink.taken c.write_all.new.sink in
    let up : c.args.from + n ≤ c.args.to = c.gather-count.ensures.count in
    let within : c.args.from + n ≤ length ks = omega (arith, up, c.requires.range.1, c.requires.located.count) in
    let joined : AreJoined os c.args.located.now c.args.from n [] bytes = subst (λ (t : List ℕ). AreJoined os c.args.located.now c.args.from n t bytes) c.clear.ensures.items (c.gather-count.ensures.joined os c.requires.stock) in
    let front : TakesFront old new bytes = subst (λ (t : List ℕ). TakesFront old new t) c.as_slice.ensures.value c.in-Err-write_all.ensures.front in
    joined_halted {F = g.row.F.Denot} {X = g.row.X.Denot} os ks c.args.located.now c.args.from n c.args.found bytes c.requires.range.2 within joined old new (g.E.Sink.taken c.args.report.now)
    (g.K.Sink.faults c.args.output.now) (g.K.Sink.faults c.write_all.new.sink) (g.E.Sink.faults c.args.report.now) c.in-Err-write_all.fault c.args.to front c.in-Err-write_all.ensures.count c.in-Err-write_all.ensures.cause
