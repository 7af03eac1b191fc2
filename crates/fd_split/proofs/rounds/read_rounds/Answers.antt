use Rattle.std.proofs.Common.{rules, ◌≡◌, ◌<◌, ◌≤◌, ◌+◌, Ok, Err, true, false, length, arith}
use Rattle.fd_sections.specs.Reading.{repeats}
use Rattle.fd_split.specs.Reading.{ends, round_at}
use Rattle.fd_split.specs.Seen.{seen}
use Rattle.fd_split.proofs.RoundLaws.{round_shorter}
use Rattle.fd_split.proofs.Loops.{rounds_bad, rounds_end, rounds_next, rounds_no_end}
use Rattle.fd_split.proofs.rounds.read_rounds.Goals as goal

pub returns-then-not-repeats-clause-read : goal.returns-then-not-repeats-clause-read
returns-then-not-repeats-clause-read c =
    let to = c.loop-rest.rest.now in
    let old = c.args.rounds.now.items in
    let now = c.loop-rest.rounds.items in
    let isnt : ends to ≡ false = search rules in
    let none : repeats to ≡ false = search rules in
    rounds_no_end c.args.total c.args.rest.now to old now c.loop-rest.invariant.goes isnt none

pub loop-rest-smaller : goal.loop-rest-smaller
loop-rest-smaller c =
    let to = c.loop-rest.rest.now in
    let after = c.in-Ok.after.now in
    let is : round_at false to ≡ Ok (seen c.in-Ok.round, after) = c.in-Ok.ensures.read in
    let lt = round_shorter false to (seen c.in-Ok.round, after) is in
    let less : length after < length to = omega (arith, lt) in
    less

pub loop-rest-preserved : goal.loop-rest-preserved
loop-rest-preserved c =
    let to = c.loop-rest.rest.now in
    let old = c.args.rounds.now.items in
    let now = c.loop-rest.rounds.items in
    let after = c.in-Ok.after.now in
    let isnt : ends to ≡ false = search rules in
    let more : repeats to ≡ true = search rules in
    let is : round_at false to ≡ Ok (seen c.in-Ok.round, after) = c.in-Ok.ensures.read in
    let lt = round_shorter false to (seen c.in-Ok.round, after) is in
    let fits = c.loop-rest.invariant.fits in
    record {
      goes = rounds_next c.args.total c.args.rest.now to old now c.push.new.self.items c.in-Ok.round after c.loop-rest.invariant.goes isnt more is c.in-Ok-push.ensures.items;
      fits = omega (arith, lt, fits);
    }

pub returns-in-Err-clause-read : goal.returns-in-Err-clause-read
returns-in-Err-clause-read c =
    let to = c.loop-rest.rest.now in
    let old = c.args.rounds.now.items in
    let now = c.loop-rest.rounds.items in
    let isnt : ends to ≡ false = search rules in
    let more : repeats to ≡ true = search rules in
    rounds_bad c.args.total c.args.rest.now to old now c.in-Err.bad c.loop-rest.invariant.goes isnt more c.in-Err.ensures.read

pub returns-clause-read : goal.returns-clause-read
returns-clause-read c =
    let to = c.loop-rest.rest.now in
    let old = c.args.rounds.now.items in
    let now = c.loop-rest.rounds.items in
    let is : ends to ≡ true = search rules in
    rounds_end c.args.total c.args.rest.now to old now c.loop-rest.invariant.goes is
