use Rattle.std.proofs.Common.{◌++◌, List, ℕ, take, drop, sym, ap, ◌∙◌, append_assoc}
use Rattle.std.proofs.lemmas.List.{take-append-drop}
use Rattle.fd_io.proofs.Bytes.{Takes-more}
use Rattle.fd_io.proofs.stream.write_all.Goals as goal

pub loop-rest-preserved : goal.loop-rest-preserved
loop-rest-preserved g c =
    let w = c.loop-rest.invariant.went in
    let rest = c.loop-rest.rest.now in
    let n = c.in_ok-n.n in
    record {
      went = (w.0 ++ take n rest, w.1 ∙ sym (append_assoc w.0 (take n rest) (drop n rest) ∙ ap (λ (t : List ℕ). w.0 ++ t) (take-append-drop n rest)) ∙ ap (λ (t : List ℕ). (w.0 ++ take n rest) ++ t) (sym c.split_at.ensures.back), Takes-more _ _ _ w.0 (take n rest) w.2 c.in_ok-n.ensures.took);
      calm = c.in_ok-n.ensures.calm ∙ c.loop-rest.invariant.calm;
    }
