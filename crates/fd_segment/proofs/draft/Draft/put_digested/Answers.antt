use Rattle.std.proofs.Common.{refl}
use Rattle.fd_segment.proofs.Putting.{begins_stopped, refused, taken}
use Rattle.fd_segment.proofs.draft.Draft.put_digested.Goals as goal

pub returns-in-Err-write_digested-clause-err : goal.returns-in-Err-write_digested-clause-err
returns-in-Err-write_digested-clause-err g c = λ b puts.
    let o = g.H.File.Disk.file c.self.inside.field_file in
    let p = g.H.File.Disk.file c.write_digested.new.file in
    refused _ _ _ b o p c.self.view_is puts refl refl refl refl
    (λ front long begins. begins_stopped o p c.self.inside.end c.args.bytes.now front long c.in-Err-write_digested.ensures.err begins)

pub returns-clause-ok : goal.returns-clause-ok
returns-clause-ok g c = λ b puts.
    let o = g.H.File.Disk.file c.self.inside.field_file in
    let p = g.H.File.Disk.file c.write_digested.new.file in
    taken _ _ _ b (record { key = c.args.key.now; bytes = c.args.bytes.now }) o p c.self.view_is puts refl refl c.in-Ok.ensures.ok refl c.in_default-write_digested.ensures.ok c.requires.key
