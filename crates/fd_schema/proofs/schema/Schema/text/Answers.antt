use Rattle.std.proofs.Common.{◌≡◌, rules, subst, sym, IfOk, List, string_bytes}
use Rattle.fd_schema.specs.Rules as rules_seen
use Rattle.fd_schema.specs.Grammar.{IsSchema}
use Rattle.fd_schema.specs.Seen.{seen_rules}
use Rattle.fd_schema.specs.Printed.{schema_text}
use Rattle.fd_schema.proofs.ReadsBack.{if_printed}
use Rattle.fd_schema.proofs.schema.Schema.text.Goals as goal

pub returns-clause-reads_back : goal.returns-clause-reads_back
returns-clause-reads_back c =
    let text : IfOk c.text_of.result (λ s. string_bytes s ≡ schema_text c.args.self.now) = search rules in
    let seen : c.args.self.now ≡ seen_rules c.self.inside.rules.items = search rules in
    let is : IsSchema c.args.self.now = subst (λ (rs : List rules_seen.Rule). IsSchema rs) (sym seen) c.self.invariant.1 in
    if_printed c.args.self.now is c.text_of.result text
