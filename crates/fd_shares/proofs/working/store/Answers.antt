use Rattle.std.proofs.Common.{Err, length, subst, sym}
use Rattle.fd_entries.specs.declared.batch.Pair.{Pair}
use Rattle.fd_schema.specs.Rules.{file_key}
use Rattle.fd_schema.specs.Reading.{seen_place}
use Rattle.fd_archiver.specs.declared.fault.ArchiveFault.{ArchiveFault}
use Rattle.fd_archiver.specs.Writing.{Writing}
use Rattle.fd_turn.specs.Passes.{view}
use Rattle.fd_shares.specs.Working.{CanPut, Filling, IsFilled, PutOn, Works}
use Rattle.fd_shares.proofs.Storing.{has_bytes, put_stopped}
use Rattle.fd_shares.proofs.working.store.Goals as goal

pub put-answer-requires-clause-sum : goal.put-answer-requires-clause-sum
put-answer-requires-clause-sum g c κs within = has_bytes g.H.Shelf.kept (length c.args.bytes.now) c.args.archiver.now (view c.args.pass.now) c.requires.can

pub unreachable-requires : goal.unreachable-requires
unreachable-requires g c =
    let r = c.requires.can in
    let p : Pair = record { key = file_key (seen_place c.args.place.now); bytes = c.args.bytes.now } in
    subst (λ (f : ArchiveFault g.row.F.Denot). PutOn g.H.Shelf.kept (Err f) r.pairs p c.args.archiver.now c.put-answer.new.archiver (view c.args.pass.now)) c.in-Err-Unlisted.field-0-is (c.in-Err-Unlisted.ensures.puts r.pairs (view c.args.pass.now) r.works)

pub store_listed-requires-clause-can : goal.store_listed-requires-clause-can
store_listed-requires-clause-can g c κs within =
    let r = c.requires.can in
    let p : Pair = record { key = file_key (seen_place c.args.place.now); bytes = c.args.bytes.now } in
    let q = subst (λ (f : ArchiveFault g.row.F.Denot). PutOn g.H.Shelf.kept (Err f) r.pairs p c.args.archiver.now c.put-answer.new.archiver (view c.args.pass.now)) c.in-Err-Full.field-0-is (c.in-Err-Full.ensures.puts r.pairs (view c.args.pass.now) r.works) in
    subst (λ (w : Writing g.row.H.Denot). CanPut g.H.Shelf.kept (length c.args.bytes.now) w (view c.args.pass.now)) (sym q.0) r

pub store_listed-requires-clause-filled : goal.store_listed-requires-clause-filled
store_listed-requires-clause-filled g c κs within =
    let r = c.requires.can in
    let p : Pair = record { key = file_key (seen_place c.args.place.now); bytes = c.args.bytes.now } in
    let q = subst (λ (f : ArchiveFault g.row.F.Denot). PutOn g.H.Shelf.kept (Err f) r.pairs p c.args.archiver.now c.put-answer.new.archiver (view c.args.pass.now)) c.in-Err-Full.field-0-is (c.in-Err-Full.ensures.puts r.pairs (view c.args.pass.now) r.works) in
    subst IsFilled (sym q.0) q.1

pub returns-in-Err-Disk-clause-stores : goal.returns-in-Err-Disk-clause-stores
returns-in-Err-Disk-clause-stores g c = λ pairs works.
    let p : Pair = record { key = file_key (seen_place c.args.place.now); bytes = c.args.bytes.now } in
    put_stopped g.H.Shelf.kept pairs c.put-answer.new.archiver (view c.args.pass.now)
    (subst (λ (f : ArchiveFault g.row.F.Denot). PutOn g.H.Shelf.kept (Err f) pairs p c.args.archiver.now c.put-answer.new.archiver (view c.args.pass.now)) c.in-Err-Disk.field-0-is (c.in-Err-Disk.ensures.puts pairs (view c.args.pass.now) works))

pub returns-in-Err-Full-clause-stores : goal.returns-in-Err-Full-clause-stores
returns-in-Err-Full-clause-stores g c = λ pairs works.
    let r = c.requires.can in
    let p : Pair = record { key = file_key (seen_place c.args.place.now); bytes = c.args.bytes.now } in
    let q = subst (λ (f : ArchiveFault g.row.F.Denot). PutOn g.H.Shelf.kept (Err f) r.pairs p c.args.archiver.now c.put-answer.new.archiver (view c.args.pass.now)) c.in-Err-Full.field-0-is (c.in-Err-Full.ensures.puts r.pairs (view c.args.pass.now) r.works) in
    c.store_listed.ensures.stores pairs (subst (λ (w : Writing g.row.H.Denot). Works g.H.Shelf.kept Filling pairs w (view c.args.pass.now)) (sym q.0) works)
