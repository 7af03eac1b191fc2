use Rattle.std.proofs.Common.{◌∙◌, sym, ap, ap₂}
use Rattle.std.specs.Prelude.{codes, option_and_then}
use Rattle.std.specs.Map.{lookup}
use Rattle.std.specs.Str.{bytes_eq}
use Rattle.fd_words.specs.Texts.{texts}
use Rattle.std.proofs.lemmas.Result.{IfOk-weaker}
use Rattle.fd_words.specs.Grammar.{options_of}
use Rattle.fd_words.specs.Words.{retrieve_of, root_of, trial_of, workers_in}
use Rattle.fd_words.proofs.SayingLemmas.{retrieve_counts, retrieve_lays, retrieve_said, trial_named, trial_said}
use Rattle.fd_words.proofs.command.command_with.Goals as goal

pub returns-then-eq-5-clause-command : goal.returns-then-eq-5-clause-command
returns-then-eq-5-clause-command c = λ s tells alone.
    let name = c.args.name.now in
    let is = sym c.eq-5.ensures ∙ c.if-eq-5.true in
    let said = c.option_text-then-eq-5.ensures (options_of name) s tells (trial_named name is) in
    IfOk-weaker c.trial_command.result _ _
    (λ o h. h ∙ ap₂ (λ xs w. trial_of xs (workers_in w)) (sym alone) said ∙ sym (trial_said name is s))
    c.trial_command.ensures.command

pub returns-then-eq-6-clause-command : goal.returns-then-eq-6-clause-command
returns-then-eq-6-clause-command c = λ s tells alone.
    let name = c.args.name.now in
    let is = sym c.eq-6.ensures ∙ c.if-eq-6.true in
    let counts = c.option_text-then-eq-6.ensures (options_of name) s tells (retrieve_counts name is) in
    let lays = c.option_text-then-eq-6-2.ensures (options_of name) s tells (retrieve_lays name is) in
    IfOk-weaker c.retrieve_command.result _ _
    (λ o h. h ∙ ap₂ (λ w l. option_and_then (retrieve_of (workers_in w) l) (root_of (texts c.args.words.now))) counts lays
    ∙ (ap (λ xs. option_and_then (retrieve_of (workers_in (lookup (bytes_eq (codes "workers")) s.options)) (lookup (bytes_eq (codes "over")) s.options)) (root_of xs)) (sym alone) ∙ sym (retrieve_said name is s)))
    c.retrieve_command.ensures.command
