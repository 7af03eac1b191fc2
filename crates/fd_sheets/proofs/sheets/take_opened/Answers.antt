use Rattle.fd_sheets.proofs.Taking.{took_room}
use Rattle.fd_sheets.proofs.sheets.take_opened.Goals as goal

pub returns-in-Ok-take-clause-room : goal.returns-in-Ok-take-clause-room
returns-in-Ok-take-clause-room c = took_room c.args.number c.args.octets.now c.in-Ok.message c.take.new.self c.args.sheets.now.items c.take.new.sheets.items c.in-Ok.ensures c.in-Ok-take.ensures.took

pub returns-in-Err-take-clause-room : goal.returns-in-Err-take-clause-room
returns-in-Err-take-clause-room c = took_room c.args.number c.args.octets.now c.in-Ok.message c.take.new.self c.args.sheets.now.items c.take.new.sheets.items c.in-Ok.ensures c.in-Err-take.ensures.took
