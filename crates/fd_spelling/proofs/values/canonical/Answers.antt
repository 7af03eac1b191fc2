use Rattle.std.proofs.Common.{rules, ◌≡◌, true, List, ℕ, subst, sym}
use Rattle.std.specs.Prelude.{IsTrue, OnOk}
use Rattle.fd_spelling.specs.Canonical.{GivesText, canonical}
use Rattle.fd_spelling.specs.Names.{is_name, is_value}
use Rattle.fd_spelling.proofs.Spellings.{if_spelled, spelled_low, value_stays}
use Rattle.fd_spelling.proofs.values.canonical.Goals as goal

pub returns-then-is_value-2-clause-text : goal.returns-then-is_value-2-clause-text
returns-then-is_value-2-clause-text c =
    let name : is_value c.args.name.now ≡ true = search rules in
    let text : is_value c.args.text.now ≡ true = search rules in
    spelled_low c.args.name.now c.args.text.now c.spelling_of.result name text c.spelling_of.ensures.text

pub returns-then-is_value-2-clause-again : goal.returns-then-is_value-2-clause-again
returns-then-is_value-2-clause-again c =
    if_spelled c.args.name.now c.args.text.now c.spelling_of.result (returns-then-is_value-2-clause-text c)

pub returns-then-is_value-2-clause-name : goal.returns-then-is_value-2-clause-name
returns-then-is_value-2-clause-name c =
    let name : is_value c.args.name.now ≡ true = search rules in
    subst (λ (n : List ℕ). OnOk c.spelling_of.result (IsTrue (is_name n))) (sym (value_stays c.args.name.now name)) c.spelling_of.ensures.name

pub returns-clause-again : goal.returns-clause-again
unfolding canonical
returns-clause-again c =
    let text : GivesText c.spelling_of-2.result (canonical c.args.name.now c.args.text.now) = search rules in
    if_spelled c.args.name.now c.args.text.now c.spelling_of-2.result text
