use Rattle.std.proofs.Common.{◌*◌, ap, sym, ◌∙◌}
use Rattle.fd_request.proofs.Lengths.{many_is, few_is, none_many, keys_more, no_keys_more}
use Rattle.fd_request.proofs.limits.product_of.Goals as goal

pub returns-then-product-gt-KEYS-clause-many : goal.returns-then-product-gt-KEYS-clause-many
returns-then-product-gt-KEYS-clause-many c =
    sym c.loop-keyword.invariant.so_far
    ∙ many_is c.loop-keyword.product _ c.args.keywords.now c.loop-keyword.keyword-index c.keyword-item.result c.loop-keyword-test.true c.keyword-item.is
    (ap (λ n. c.loop-keyword.product * n) (c.from-product.ensures ∙ c.count.ensures)) c.if-product-gt-KEYS.true

pub loop-keyword-preserved : goal.loop-keyword-preserved
loop-keyword-preserved c =
    let next = ap (λ n. c.loop-keyword.product * n) (c.from-product.ensures ∙ c.count.ensures) in
    record {
      few = c.if-product-gt-KEYS.false;
      so_far = sym (few_is c.loop-keyword.product _ c.args.keywords.now c.loop-keyword.keyword-index c.keyword-item.result c.loop-keyword-test.true c.keyword-item.is next c.if-product-gt-KEYS.false) ∙ c.loop-keyword.invariant.so_far;
      number = sym (keys_more c.loop-keyword.product _ c.args.keywords.now c.loop-keyword.keyword-index c.keyword-item.result c.loop-keyword-test.true c.keyword-item.is next) ∙ c.loop-keyword.invariant.number;
    }

pub returns-clause-few : goal.returns-clause-few
returns-clause-few c = sym c.loop-keyword.invariant.so_far ∙ none_many c.loop-keyword.product c.args.keywords.now c.loop-keyword.keyword-index c.loop-keyword-test.false

pub returns-clause-number : goal.returns-clause-number
returns-clause-number c = sym (no_keys_more c.loop-keyword.product c.args.keywords.now c.loop-keyword.keyword-index c.loop-keyword-test.false) ∙ c.loop-keyword.invariant.number
