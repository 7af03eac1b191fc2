use Rattle.std.proofs.Common.{◌≡◌, ◌+◌, ◌||◌, Bool, true, false, List, ℕ, drop, sym, ◌∙◌, ap}
use Rattle.fd_entries.specs.Batches.{has_key, same_bytes}
use Rattle.fd_entries.proofs.BatchSums.{has_step, same_as_eq}
use Rattle.fd_entries.proofs.rows.has_key_from.Goals as goal

pub returns-then-eq : goal.returns-then-eq
returns-then-eq c =
    let test : same_bytes c.at.result.now.key c.args.key.now ≡ true = ap (λ (l : List ℕ). same_bytes l c.args.key.now) (sym c.as_slice.ensures) ∙ same_as_eq c.as_slice.result.now c.args.key.now ∙ sym c.eq.ensures ∙ c.if-eq.true in
    sym (ap (λ (b : Bool). b || has_key (drop (c.loop-i.i + 1) c.args.batch.now) c.args.key.now) test)
    ∙ sym (has_step c.args.batch.now c.loop-i.i c.at.result.now c.args.key.now c.at.ensures) ∙ c.loop-i.invariant.so_far

pub loop-i-preserved : goal.loop-i-preserved
loop-i-preserved c =
    let test : same_bytes c.at.result.now.key c.args.key.now ≡ false = ap (λ (l : List ℕ). same_bytes l c.args.key.now) (sym c.as_slice.ensures) ∙ same_as_eq c.as_slice.result.now c.args.key.now ∙ sym c.eq.ensures ∙ c.if-eq.false in
    record {
      end = c.loop-i.invariant.end;
      so_far = sym (ap (λ (b : Bool). b || has_key (drop (c.loop-i.i + 1) c.args.batch.now) c.args.key.now) test)
          ∙ sym (has_step c.args.batch.now c.loop-i.i c.at.result.now c.args.key.now c.at.ensures) ∙ c.loop-i.invariant.so_far;
    }
