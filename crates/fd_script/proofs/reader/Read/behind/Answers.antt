use Rattle.std.proofs.Common.{◌≡◌, ◌∙◌, sym, ap, subst, None}
use Rattle.std.specs.List.{AllZip}
use Rattle.fd_script.specs.Grammar.{lanes_from, or_dataset}
use Rattle.fd_script.specs.Reading.{IsLane, dataset_bytes, seen_said}
use Rattle.fd_script.proofs.Groups.{or_first}
use Rattle.fd_script.proofs.Turns.{said_more}
use Rattle.fd_script.proofs.reader.Read.behind.Goals as goal

pub returns-in-Ok-clause-next : goal.returns-in-Ok-clause-next
returns-in-Ok-clause-next c = λ ls r n. record {
  says = said_more (dataset_bytes c.in-Ok.dataset) c.args.self.lanes.items ls (seen_said c.args.said) c.args.line n
      (c.in-Ok.ensures.dataset ∙ ap (λ o. or_first o (or_dataset (seen_said c.args.said) None)) (ap dataset_bytes (sym c.in-None.is) ∙ r.says.dataset_is))
      (subst (AllZip IsLane c.args.self.lanes.items) (sym (c.in-Ok.ensures.lanes c.args.line (lanes_from 1 ls))) r.says.lanes_are);
  within = r.within;
}

pub returns-in-Ok-lanes_behind-clause-next : goal.returns-in-Ok-lanes_behind-clause-next
returns-in-Ok-lanes_behind-clause-next c = λ ls r n. record {
  says = said_more _ c.in-Ok-lanes_behind.lanes.items ls (seen_said c.args.said) c.args.line n
      (ap (λ o. or_first o (or_dataset (seen_said c.args.said) None)) (ap dataset_bytes (sym c.in-Some.is) ∙ r.says.dataset_is))
      (c.in-Ok-lanes_behind.ensures.lanes (lanes_from 1 ls) r.says.lanes_are);
  within = c.in-Ok-lanes_behind.ensures.within;
}
