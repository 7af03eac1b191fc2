use Rattle.fd_inventory.proofs.Finding.{keeps_dataset}
use Rattle.fd_inventory.proofs.found.found_in.Goals as goal

pub returns-in-Ok-clause-found : goal.returns-in-Ok-clause-found
returns-in-Ok-clause-found g c =
    let by = c.in_ok-rows.ensures.rows in
    record {
      records = by.records;
      has = by.has;
      of = λ t lengths all keeps. keeps_dataset c.args.partial.now c.args.dataset.now t c.args.found all c.in-Ok.found c.in_ok-rows.rows.entries (by.of t lengths) c.in-Ok.ensures keeps;
    }
