use Rattle.std.proofs.Common.{◌≡◌, subst}
use Rattle.fd_sheets.specs.Reading.{HasRead}
use Rattle.fd_sheets.proofs.reader.read_on.Goals as goal

pub returns : goal.returns
returns g c =
    record {
      reads = subst (λ p. HasRead c.args.schema.now c.args.given.now p c.fill-end.new.self (g.I.Source.left c.args.input.now) (g.I.Source.left c.fill-end.new.input) c.fill-end.new.sheets.items c.fill-end.result) c.reader.view_is c.fill-end.ensures.reads;
      known = c.fill-end.ensures.known;
      calm = c.fill-end.ensures.calm;
      read = c.fill-end.ensures.read;
      quiet = c.fill-end.ensures.quiet;
    }
