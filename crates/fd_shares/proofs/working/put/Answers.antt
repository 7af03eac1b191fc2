use Rattle.fd_entries.specs.declared.batch.Pair.{Pair}
use Rattle.fd_schema.specs.Rules.{file_key}
use Rattle.fd_schema.specs.Reading.{seen_place}
use Rattle.fd_shares.proofs.Storing.{put_on, room_first}
use Rattle.fd_shares.proofs.working.put.Goals as goal

pub returns-clause-puts : goal.returns-clause-puts
returns-clause-puts g c =
    let p : Pair = record { key = file_key (seen_place c.args.place.now); bytes = c.args.bytes.now } in
    let e = c.archive_field.ensures in
    λ pairs v works. put_on g.H.Shelf.kept pairs p c.args.archiver.now c.archive_field.new.self v e.rest e.origin e.room c.requires.key c.archive_field.result works e.unlisted.0 e.ok e.err e.untouched e.full

pub returns-clause-first : goal.returns-clause-first
returns-clause-first g c =
    let p : Pair = record { key = file_key (seen_place c.args.place.now); bytes = c.args.bytes.now } in
    let e = c.archive_field.ensures in
    λ pairs v works. room_first g.H.Shelf.kept pairs p c.args.archiver.now c.archive_field.new.self v e.rest e.origin e.room c.requires.key c.archive_field.result works e.unlisted.0 e.full
