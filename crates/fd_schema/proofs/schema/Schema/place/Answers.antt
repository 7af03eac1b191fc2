use Rattle.std.proofs.Common.{◌≡◌, List, rules, subst, sym}
use Rattle.fd_schema.specs.Rules as rules_seen
use Rattle.fd_schema.specs.Rules.{place_from}
use Rattle.fd_schema.specs.Grammar.{IsSchema}
use Rattle.fd_schema.specs.Reading.{GivesPlace}
use Rattle.fd_schema.specs.Seen.{seen_rules}
use Rattle.fd_schema.proofs.Places.{if_placed}
use Rattle.fd_schema.proofs.schema.Schema.place.Goals as goal

pub returns-clause-short : goal.returns-clause-short
returns-clause-short c =
    let gives : GivesPlace c.place_of.result (place_from 0 c.args.self.now c.args.key.now) = search rules in
    let seen : c.args.self.now ≡ seen_rules c.self.inside.rules.items = search rules in
    let is : IsSchema c.args.self.now = subst (λ (rs : List rules_seen.Rule). IsSchema rs) (sym seen) c.self.invariant.1 in
    if_placed c.args.self.now c.args.key.now c.place_of.result is gives
