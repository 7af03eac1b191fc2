use Rattle.std.proofs.Common.{◌≡◌, ◌++◌, ◌∷◌, [], List, sym, ◌∙◌, ap}
use Rattle.fd_entries.specs.declared.batch.Pair.{Pair}
use Rattle.fd_entries.proofs.BatchSums.{take_next}
use Rattle.fd_entries.proofs.batch.copied.Goals as goal

pub loop-i-preserved : goal.loop-i-preserved
loop-i-preserved c = record {
  end = c.loop-i.invariant.end;
  copied = c.in_ok-push.ensures.ok ∙ ap (λ (p : Pair). c.loop-i.copy ++ p ∷ []) c.in_ok-copy.ensures ∙ ap (λ (l : List Pair). l ++ c.at.result.now ∷ []) c.loop-i.invariant.copied
      ∙ sym (take_next c.args.batch.now c.loop-i.i c.at.result.now c.at.ensures);
}
