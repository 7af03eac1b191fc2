use Rattle.std.proofs.Common.{Err, length, subst}
use Rattle.fd_entries.specs.declared.batch.Pair.{Pair}
use Rattle.fd_schema.specs.Rules.{file_key}
use Rattle.fd_schema.specs.Reading.{seen_place}
use Rattle.fd_archiver.specs.declared.fault.ArchiveFault.{ArchiveFault}
use Rattle.fd_turn.specs.Passes.{view}
use Rattle.fd_shares.specs.Working.{IsNotFull, PutOn}
use Rattle.fd_shares.proofs.Storing.{emptied_fills, has_bytes, put_stopped}
use Rattle.fd_shares.proofs.working.store_listed.Goals as goal

pub put-requires-clause-sum : goal.put-requires-clause-sum
put-requires-clause-sum g c κs within =
    let r = c.requires.can in
    let e = (c.in-Ok.ensures.lists r.pairs r.works).1 c.requires.filled in
    has_bytes g.H.Shelf.kept (length c.args.bytes.now) c.list.new.archiver (view c.list.new.pass) (record { pairs = r.pairs; works = emptied_fills g.H.Shelf.kept r.pairs c.list.new.archiver (view c.list.new.pass) e; sum = r.sum })

pub unreachable-requires : goal.unreachable-requires
unreachable-requires g c =
    let r = c.requires.can in
    let e = (c.in-Ok.ensures.lists r.pairs r.works).1 c.requires.filled in
    subst (λ (e : ArchiveFault g.row.F.Denot). IsNotFull (Err e)) c.in-Err-Unlisted.field-0-is (c.in-Err-Unlisted.ensures.first r.pairs (view c.list.new.pass) e)

pub unreachable-requires-in-Err-Full : goal.unreachable-requires-in-Err-Full
unreachable-requires-in-Err-Full g c =
    let r = c.requires.can in
    let e = (c.in-Ok.ensures.lists r.pairs r.works).1 c.requires.filled in
    subst (λ (e : ArchiveFault g.row.F.Denot). IsNotFull (Err e)) c.in-Err-Full.field-0-is (c.in-Err-Full.ensures.first r.pairs (view c.list.new.pass) e)

pub returns-in-Ok-put-clause-stores : goal.returns-in-Ok-put-clause-stores
returns-in-Ok-put-clause-stores g c = λ pairs works.
    let e = (c.in-Ok.ensures.lists pairs works).1 c.requires.filled in
    c.in-Ok-put.ensures.puts pairs (view c.list.new.pass) (emptied_fills g.H.Shelf.kept pairs c.list.new.archiver (view c.list.new.pass) e)

pub returns-in-Err-Disk-clause-stores : goal.returns-in-Err-Disk-clause-stores
returns-in-Err-Disk-clause-stores g c = λ pairs works.
    let p : Pair = record { key = file_key (seen_place c.args.place.now); bytes = c.args.bytes.now } in
    let e = (c.in-Ok.ensures.lists pairs works).1 c.requires.filled in
    let q = c.in-Err-Disk.ensures.puts pairs (view c.list.new.pass) (emptied_fills g.H.Shelf.kept pairs c.list.new.archiver (view c.list.new.pass) e) in
    put_stopped g.H.Shelf.kept pairs c.put.new.archiver (view c.list.new.pass) (subst (λ (f : ArchiveFault g.row.F.Denot). PutOn g.H.Shelf.kept (Err f) pairs p c.list.new.archiver c.put.new.archiver (view c.list.new.pass)) c.in-Err-Disk.field-0-is q)
