use Rattle.std.proofs.Common.{rules, ◌≡◌, Ok, Err}
use Rattle.fd_request.specs.Limits as limits
use Rattle.fd_request.specs.Reading.{seen_kind}
use Rattle.fd_contents.proofs.Partial.{partial_read, partial_refused}
use Rattle.fd_contents.proofs.reading.partial_of.Goals as goal

pub returns-in-Ok-read-clause-ok : goal.returns-in-Ok-read-clause-ok
returns-in-Ok-read-clause-ok g c =
    let t = c.in-Ok.text.items in
    let is : limits.partial_of t ≡ Ok c.in-Ok-read.partial = search rules in
    partial_read (g.I.Source.left c.args.input.now) (g.I.Source.left c.read_front.new.input) t c.in-Ok-read.partial c.in-Ok.ensures.given c.in-Ok.ensures.whole c.in-Ok.ensures.within is

pub returns-in-Err-At-clause-refused : goal.returns-in-Err-At-clause-refused
returns-in-Err-At-clause-refused g c =
    let t = c.in-Ok.text.items in
    let is : limits.partial_of t ≡ Err (record { at = c.in-Err-At.at; kind = seen_kind c.in-Err-At.kind }) = search rules in
    partial_refused (g.I.Source.left c.args.input.now) (g.I.Source.left c.read_front.new.input) t (record { at = c.in-Err-At.at; kind = seen_kind c.in-Err-At.kind }) c.in-Ok.ensures.given c.in-Ok.ensures.whole c.in-Ok.ensures.within is
