use Rattle.std.proofs.Common.{◌≡◌, ◌≤◌, ◌+◌, Ok, true, ◌∷◌, [], length, ap, length-append, arith}
use Rattle.fd_split.specs.Reading.{round_at}
use Rattle.fd_split.specs.Seen.{seen}
use Rattle.fd_split.proofs.RoundLaws.{round_shorter}
use Rattle.fd_split.proofs.fields.read_all.Goals as goal

pub read_rounds-requires : goal.read_rounds-requires
read_rounds-requires c =
    let is : round_at true c.args.rest.now ≡ Ok (seen c.in-Ok.first, c.in-Ok.after.now) = c.in-Ok.ensures.read in
    let lt = round_shorter true c.args.rest.now (seen c.in-Ok.first, c.in-Ok.after.now) is in
    let fits = c.requires.fits in
    omega (arith, lt, fits)

pub returns-in-Ok-push-clause-few : goal.returns-in-Ok-push-clause-few
returns-in-Ok-push-clause-few c =
    let is : round_at true c.args.rest.now ≡ Ok (seen c.in-Ok.first, c.in-Ok.after.now) = c.in-Ok.ensures.read in
    let lt = round_shorter true c.args.rest.now (seen c.in-Ok.first, c.in-Ok.after.now) is in
    omega (arith, lt, c.read_rounds.ensures.few, ap length c.in-Ok-push.ensures.items, ap length c.requires.none, length-append c.args.rounds.now.items (c.in-Ok.first ∷ []))
