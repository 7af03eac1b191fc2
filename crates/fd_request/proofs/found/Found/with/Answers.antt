use Rattle.fd_request.proofs.Turns.{names_more}
use Rattle.fd_request.proofs.found.Found.with.Goals as goal

pub invariant_of-result : goal.invariant_of-result
invariant_of-result c = record {
  same = names_more c.args.self.names c.insert.new.self c.in_ok-clone.field-0 c.args.self.keywords.items c.push.new.self.items c.args.keyword c.in_ok-insert.ensures.updates c.in_ok-clone.ensures.cases c.in_ok-push.ensures.items c.args.self.same;
}
