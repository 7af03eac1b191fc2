use Rattle.std.proofs.Common.{◌≤◌, ◌<◌, refl, subst, arith, length}
use Rattle.fd_stored.specs.Causes.{NoRequest, TooManyKeys}
use Rattle.fd_outcome.specs.Objects.{object}
use Rattle.fd_contents.specs.Told.{ToldKeys}
use Rattle.fd_contents.proofs.Askable.{askable, ranged_refused, refused_told}
use Rattle.fd_contents.proofs.Gathered.{refusal_many}
use Rattle.fd_contents.proofs.telling.tell_keys.Goals as goal

pub returns-then-keys-gt-MOST_KEYS : goal.returns-then-keys-gt-MOST_KEYS
returns-then-keys-gt-MOST_KEYS g c =
    let ks = c.keys-keys.result.now in
    let out = object (g.K.Sink.taken c.args.output.now) (g.K.Sink.taken c.args.output.now) (g.K.Sink.faults c.args.output.now) (g.K.Sink.faults c.args.output.now) in
    let rep = object (g.E.Sink.taken c.args.report.now) (g.E.Sink.taken c.tell_limit.new.report) (g.E.Sink.faults c.args.report.now) (g.E.Sink.faults c.tell_limit.new.report) in
    let many : 262144 < length ks = omega (arith, c.if-keys-gt-MOST_KEYS.true) in
    subst (ToldKeys c.tell_limit.result out rep) c.keys-keys.ensures.keys (refused_told c.tell_limit.result out rep ks TooManyKeys (refusal_many ks many) refl refl c.tell_limit.ensures)

pub print_cubes-requires-clause-askable : goal.print_cubes-requires-clause-askable
print_cubes-requires-clause-askable g c = askable c.keys-keys.result.now c.in-None.ensures c.keys-keys.ensures.named

pub returns-in-Some : goal.returns-in-Some
returns-in-Some g c =
    let ks = c.keys-keys.result.now in
    let out = object (g.K.Sink.taken c.args.output.now) (g.K.Sink.taken c.args.output.now) (g.K.Sink.faults c.args.output.now) (g.K.Sink.faults c.args.output.now) in
    let rep = object (g.E.Sink.taken c.args.report.now) (g.E.Sink.taken c.tell_no_request.new.report) (g.E.Sink.faults c.args.report.now) (g.E.Sink.faults c.tell_no_request.new.report) in
    let few : length ks ≤ 262144 = omega (arith, c.if-keys-gt-MOST_KEYS.false) in
    subst (ToldKeys c.tell_no_request.result out rep) c.keys-keys.ensures.keys
    (refused_told c.tell_no_request.result out rep ks (NoRequest c.in-Some.key.now) (ranged_refused ks c.in-Some.key.now few c.in-Some.ensures) refl refl c.tell_no_request.ensures)
