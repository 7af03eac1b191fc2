use Rattle.std.proofs.Common.{arith, Some, ap, sym, ◌∙◌, ℕ, List}
use Rattle.std.proofs.lemmas.Result.{IfOk-weaker}
use Rattle.fd_request.specs.Seen.{seen_end}
use Rattle.fd_request.proofs.RangeLaws.{place_fits, fits_small, value_at}
use Rattle.fd_request.proofs.range.Range.text.Goals as goal

pub overflow_mul-i : goal.overflow_mul-i
overflow_mul-i c =
    let f = place_fits c.args.self.now c.args.i c.from.result c.requires c.from.ensures in
    omega (arith, fits_small (seen_end c.args.self.now.first) _ f)

pub text_behind-requires : goal.text_behind-requires
text_behind-requires c = place_fits c.args.self.now c.args.i c.from.result c.requires c.from.ensures

pub returns : goal.returns
returns c =
    let at = value_at c.args.self.now c.args.i c.from.result c.requires c.from.ensures in
    IfOk-weaker c.text_behind.result _ _ (λ s e. at ∙ ap (λ (t : List ℕ). Some t) (sym e)) c.text_behind.ensures.text
