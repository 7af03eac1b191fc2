use Rattle.std.proofs.Common.{rules, arith, ◌≡◌, ◌∙◌, ℕ, List, [], ap, sym, length}
use Rattle.fd_split.specs.Reading.{reading_fields}
use Rattle.fd_sheets.specs.Opened.{all_fields}
use Rattle.fd_sheets.proofs.Taking.{none_long, none_to_come}
use Rattle.fd_sheets.proofs.opened.Opened.new.Goals as goal

pub invariant_of-result : goal.invariant_of-result
invariant_of-result c =
    let none : c.new.result.items ≡ [] = search rules in
    (omega arith, sym (ap (λ (o : List ℕ). length (all_fields (reading_fields o))) none ∙ none_long))

pub returns : goal.returns
returns c =
    let none : c.new.result.items ≡ [] = search rules in
    ap (λ (o : List ℕ). all_fields (reading_fields o)) none ∙ none_to_come 0
