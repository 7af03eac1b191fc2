use borrow.Author.Count.{below_more}
use Rattle.std.proofs.Common.{ℕ, ◌<◌, ◌+◌, arith, get_or, length, set, subst, sym}
use Rattle.std.proofs.lemmas.List.{get_or-set_same, get_or-set_other}
use Rattle.std.specs.Prelude.{Result}
use Rattle.fd_request.specs.Expansion.{expand}
use Rattle.fd_schema.specs.declared.place.Place.{Place}
use Rattle.fd_retrieve.specs.declared.asking.Unplaced.{Unplaced}
use Rattle.fd_retrieve.specs.Seats.{IsSought}
use Rattle.fd_retrieve.proofs.asking.seek_share.Goals as goal

pub loop-i-preserved : goal.loop-i-preserved
loop-i-preserved c =
    let i = c.loop-i.i in
    let ys = c.loop-i.seats in
    let y = c.place_of.result in
    let inside : i < length ys = omega arith in
    let found : ℕ → Result Place Unplaced → Type 0 = λ k s. IsSought c.args.schema.now (expand c.args.request.now) (c.args.start + k) s in
    record {
      done = λ j d h. below_more (λ k. found k (get_or (set ys i y) k d)) i
          (λ k u. subst (found k) (sym (get_or-set_other ys i k y d (λ e. omega arith))) (c.loop-i.invariant.done k d u))
          (subst (found i) (sym (get_or-set_same ys i y d inside)) c.place_of.ensures)
          j h;
    }
