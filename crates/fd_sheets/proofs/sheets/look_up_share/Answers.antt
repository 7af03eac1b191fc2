use borrow.Author.Count.{below_more}
use Rattle.std.proofs.Common.{rules, ℕ, ◌<◌, ◌∙◌, arith, get_or, length, set, subst, sym}
use Rattle.std.proofs.lemmas.List.{get_or-set_same, get_or-set_other, get_or_default}
use Rattle.fd_sheets.specs.declared.sheets.Sheet.{Sheet}
use Rattle.fd_sheets.specs.Sheets.{IsLookedUp, IsReadable}
use Rattle.fd_sheets.proofs.sheets.look_up_share.Goals as goal

pub look_up-requires-clause-readable : goal.look_up-requires-clause-readable
look_up-requires-clause-readable c =
    let i = c.loop-i.i in
    let within : i < length c.args.sheets.now = search rules in
    subst IsReadable (sym (c.loop-i.invariant.rest i _ (omega arith))) (c.requires.readable i _ within)

pub loop-i-preserved : goal.loop-i-preserved
loop-i-preserved c =
    let i = c.loop-i.i in let xs = c.args.sheets.now in let ys = c.loop-i.sheets in let y = c.look_up.new.sheet in
    let R : ℕ → Sheet → Sheet → Type 0 = λ j s t. IsLookedUp c.args.schema.now c.args.given.now s t in
    let inside : i < length ys = omega arith in
    record {
      rest = λ j d h. get_or-set_other ys i j y d (λ e. omega arith) ∙ c.loop-i.invariant.rest j d (omega arith);
      done = λ j d h. below_more (λ k. R k (get_or xs k d) (get_or (set ys i y) k d)) i
          (λ k u. subst (R k (get_or xs k d)) (sym (get_or-set_other ys i k y d (λ e. omega arith))) (c.loop-i.invariant.done k d u))
          (subst (R i (get_or xs i d)) (sym (get_or-set_same ys i y d inside))
          (subst (λ x. R i x y) (get_or_default ys i _ d inside ∙ c.loop-i.invariant.rest i d (omega arith)) c.look_up.ensures))
          j h;
    }
