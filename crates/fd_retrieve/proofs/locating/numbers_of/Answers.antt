use Rattle.std.proofs.Common.{◌∙◌, ◌<◌, ◌∷◌, [], length, length-append, ap, subst, sym, arith}
use Rattle.fd_retrieve.specs.Located.{IsNumberOf}
use Rattle.fd_retrieve.proofs.LocatingLemmas.{number_more}
use Rattle.fd_retrieve.proofs.locating.numbers_of.Goals as goal

pub loop-i-preserved : goal.loop-i-preserved
loop-i-preserved g c =
    let os = c.args.opened.now in
    let lt : c.loop-i.i < length c.args.places.now = omega (arith, c.loop-i-test.true) in
    let noted = subst (IsNumberOf os c.dataset.result.now) (sym c.noted_number.ensures) (c.in_ok-noted.ensures c.dataset.result.now) in
    let own = subst (λ n. IsNumberOf os n c.noted_number.result) c.dataset.ensures noted in
    record {
      long = ap length c.in_ok-push.ensures.items ∙ (let long = c.loop-i.invariant.long in omega (arith, long, length-append c.loop-i.numbers.items (c.noted_number.result ∷ [])));
      each = number_more os c.args.places.now c.loop-i.numbers.items c.push.new.self.items c.loop-i.i c.index-places-i.result c.noted_number.result c.loop-i.invariant.long lt c.index-places-i.is c.in_ok-push.ensures.items own c.loop-i.invariant.each;
    }
