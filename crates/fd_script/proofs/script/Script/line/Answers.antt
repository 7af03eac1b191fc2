use Rattle.std.proofs.Common.{◌≡◌, ◌∙◌, ◌-◌, sym, ap, arith}
use Rattle.std.specs.Prelude.{slice_get}
use Rattle.std.proofs.lemmas.Option.{get_or_from_slice_get}
use Rattle.fd_script.specs.Scripts.{Scripted}
use Rattle.fd_script.proofs.script.Script.line.Goals as goal

pub returns : goal.returns
returns c =
    let there = ap (λ (s : Scripted). slice_get s.lanes (c.args.lane - 1)) c.self.view_is ∙ c.requires.there in
    let same : c.index.result.now ≡ c.requires.at = c.index.ensures ∙ get_or_from_slice_get c.self.inside.lanes.items (c.args.lane - 1) c.requires.at c.index.result.now there in
    record {
      at = c.requires.at;
      there = c.requires.there;
      is = ap (λ l. slice_get l.lines (c.args.step - 1)) (sym same) ∙ c.at.ensures;
    }
