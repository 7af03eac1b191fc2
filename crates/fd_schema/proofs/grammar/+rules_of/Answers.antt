use Rattle.std.proofs.Common.{◌≡◌, ◌<◌, ◌+◌, ◌-◌, ◌++◌, ◌∷◌, [], ◌∙◌, ap, sym, subst, arith, length, length-append, take, drop}
use Rattle.std.proofs.lemmas.List.{map_push}
use Rattle.fd_tokens.specs.Tokens.{view, views}
use Rattle.fd_schema.specs.Grammar.{◌>>=◌, rules_of}
use Rattle.fd_schema.specs.Reading.{Fails}
use Rattle.fd_schema.specs.Seen.{seen_rule, seen_rules}
use Rattle.fd_schema.proofs.Turns.{rules_end, rules_byte, rules_many, rules_more, first_and, nothing, rule_stops}
use Rattle.fd_schema.proofs.grammar.+rules_of.Goals as goal

pub returns-in_default-clause-rules : goal.returns-in_default-clause-rules
returns-in_default-clause-rules t c =
    let n = length c.args.before.items in
    ap (rules_of (256 - n) c.args.version (view c.args.end.now) (seen_rules c.args.before.items)) (nothing c.args.tokens.now c.in_default.len_below)
    ∙ rules_end (256 - n) c.args.version (view c.args.end.now) (seen_rules c.args.before.items)

pub returns-then-not-is_token-clause-rules : goal.returns-then-not-is_token-clause-rules
returns-then-not-is_token-clause-rules t c =
    let n = length c.args.before.items in
    ap (rules_of (256 - n) c.args.version (view c.args.end.now) (seen_rules c.args.before.items)) (first_and c.args.tokens.now c.first-item.result c.in-len1-up.len_at_least c.first-item.is)
    ∙ rules_byte (256 - n) c.args.version (view c.args.end.now) (seen_rules c.args.before.items) (view c.first-item.result) (views (take (length c.args.tokens.now - 1) (drop 1 c.args.tokens.now))) (sym c.is_token.ensures ∙ c.if-not-is_token.true)

pub returns-then-len-ge-RULES-clause-rules : goal.returns-then-len-ge-RULES-clause-rules
returns-then-len-ge-RULES-clause-rules t c =
    let n = length c.args.before.items in
    let all : n ≡ 256 = omega (arith, c.args.before.ok.0, c.len.ensures, c.if-len-ge-RULES.true, c.requires) in
    let none : 256 - n ≡ 0 = omega arith in
    ap (λ k. rules_of k c.args.version (view c.args.end.now) (seen_rules c.args.before.items) (views c.args.tokens.now)) none
    ∙ ap (rules_of 0 c.args.version (view c.args.end.now) (seen_rules c.args.before.items)) (first_and c.args.tokens.now c.first-item.result c.in-len1-up.len_at_least c.first-item.is)
    ∙ rules_many c.args.version (view c.args.end.now) (seen_rules c.args.before.items) (view c.first-item.result) (views (take (length c.args.tokens.now - 1) (drop 1 c.args.tokens.now))) (sym c.is_token.ensures ∙ c.if-not-is_token.false)

pub returns-in-Err-clause-rules : goal.returns-in-Err-clause-rules
returns-in-Err-clause-rules t c =
    let n = length c.args.before.items in
    let few : n < 256 = omega (arith, c.args.before.ok.0, c.len.ensures, c.if-len-ge-RULES.false) in
    let rest = views (take (length c.args.tokens.now - 1) (drop 1 c.args.tokens.now)) in
    subst (λ ts. Fails c.in-Err.refusal (rules_of (256 - n) c.args.version (view c.args.end.now) (seen_rules c.args.before.items) ts))
    (sym (first_and c.args.tokens.now c.first-item.result c.in-len1-up.len_at_least c.first-item.is))
    (rule_stops c.in-Err.refusal n c.args.version (view c.args.end.now) (seen_rules c.args.before.items) (view c.first-item.result) rest few (sym c.is_token.ensures ∙ c.if-not-is_token.false) c.in-Err.ensures)

pub returns-in_ok-push-in-Ok-clause-rules : goal.returns-in_ok-push-in-Ok-clause-rules
returns-in_ok-push-in-Ok-clause-rules t c =
    let n = length c.args.before.items in
    let few : n < 256 = omega (arith, c.args.before.ok.0, c.len.ensures, c.if-len-ge-RULES.false) in
    let before = seen_rules c.args.before.items in
    let behind = views (take (length c.args.tokens.now - 1) (drop 1 c.args.tokens.now)) in
    let one : length c.push.new.self.items ≡ n + 1 = ap length c.in_ok-push-in-Ok.ensures.items ∙ length-append c.args.before.items (c.in-Ok.rule ∷ []) in
    let left : 256 - length c.push.new.self.items ≡ 256 - (n + 1) = ap (λ k. 256 - k) one in
    let pushed : seen_rules c.push.new.self.items ≡ before ++ seen_rule c.in-Ok.rule ∷ [] =
    ap seen_rules c.in_ok-push-in-Ok.ensures.items ∙ map_push seen_rule c.args.before.items c.in-Ok.rule in
    let goes : rules_of (256 - n) c.args.version (view c.args.end.now) before (views c.args.tokens.now) ≡ rules_of (256 - (n + 1)) c.args.version (view c.args.end.now) (before ++ seen_rule c.in-Ok.rule ∷ []) (views c.in-Ok.rest.now) =
    ap (rules_of (256 - n) c.args.version (view c.args.end.now) before) (first_and c.args.tokens.now c.first-item.result c.in-len1-up.len_at_least c.first-item.is)
    ∙ rules_more n c.args.version (view c.args.end.now) before (view c.first-item.result) behind few (sym c.is_token.ensures ∙ c.if-not-is_token.false)
    ∙ ap (λ r. r >>= λ r. rules_of (256 - (n + 1)) c.args.version (view c.args.end.now) (before ++ r.0 ∷ []) r.1) c.in-Ok.ensures in
    let there : rules_of (256 - length c.push.new.self.items) c.args.version (view c.args.end.now) (seen_rules c.push.new.self.items) (views c.in-Ok.rest.now) ≡ rules_of (256 - n) c.args.version (view c.args.end.now) before (views c.args.tokens.now) =
    ap (λ k. rules_of k c.args.version (view c.args.end.now) (seen_rules c.push.new.self.items) (views c.in-Ok.rest.now)) left
    ∙ ap (λ rs. rules_of (256 - (n + 1)) c.args.version (view c.args.end.now) rs (views c.in-Ok.rest.now)) pushed ∙ sym goes in
    rw there at c.rules_of.ensures.rules
