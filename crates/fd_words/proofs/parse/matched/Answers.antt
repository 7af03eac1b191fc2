use Rattle.std.proofs.Common.{◌∙◌, refl, sym, ap, map}
use Rattle.std.proofs.lemmas.Result.{IfOk-weaker}
use Rattle.clap.specs.Words.{fault_of, is_simple, is_simple_and_free, subcommand_of}
use Rattle.fd_words.proofs.parse.matched.Goals as goal

pub parsed-requires-clause-simple : goal.parsed-requires-clause-simple
parsed-requires-clause-simple c = ap is_simple c.in-Ok.ensures ∙ refl

pub parsed-requires-clause-free : goal.parsed-requires-clause-free
parsed-requires-clause-free c = ap is_simple_and_free c.in-Ok.ensures ∙ refl

pub returns-in-Ok-clause-ok : goal.returns-in-Ok-clause-ok
returns-in-Ok-clause-ok c = IfOk-weaker c.parsed.result _ _ (λ m h. sym (ap (λ a. fault_of a (map (λ s. s.now) c.args.words.now)) c.in-Ok.ensures) ∙ h) c.parsed.ensures.ok

pub returns-in-Ok-clause-rows : goal.returns-in-Ok-clause-rows
returns-in-Ok-clause-rows c = IfOk-weaker c.parsed.result _ _ (λ m h. h ∙ ap (λ a. subcommand_of a (map (λ s. s.now) c.args.words.now)) c.in-Ok.ensures) c.parsed.ensures.rows

pub returns-in-Ok-clause-words : goal.returns-in-Ok-clause-words
returns-in-Ok-clause-words c = λ bad none. c.parsed.ensures.words bad (ap (λ a. fault_of a (map (λ s. s.now) c.args.words.now)) c.in-Ok.ensures ∙ none)
