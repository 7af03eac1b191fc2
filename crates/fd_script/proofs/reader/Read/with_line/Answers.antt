use Rattle.std.proofs.Common.{◌≡◌, ◌∙◌, refl, sym, ap, subst, arith}
use Rattle.fd_script.specs.Lines.{said}
use Rattle.fd_script.specs.Grammar.{Byte}
use Rattle.fd_script.specs.Reading.{Refuses, seen_said}
use Rattle.fd_script.proofs.Turns.{byte_wrong, line_judged, short_said}
use Rattle.fd_script.proofs.reader.Read.with_line.Goals as goal

pub returns-in-Err-clause-wrong : goal.returns-in-Err-clause-wrong
returns-in-Err-clause-wrong c = λ ls r. (byte_wrong ls c.args.line.now (Byte c.in-Err.byte) c.in-Err.ensures.byte, refl)

pub behind-requires-clause-short : goal.behind-requires-clause-short
behind-requires-clause-short c = short_said c.args.line.now _ c.requires.short (c.line_said-said.ensures ∙ ap said c.in-Ok.ensures.text.0)

pub returns-in-Ok-behind-clause-wrong : goal.returns-in-Ok-behind-clause-wrong
returns-in-Ok-behind-clause-wrong c = λ ls r. line_judged ls c.args.line.now _ c.in-Ok.ensures.text.1 (c.line_said-said.ensures ∙ ap said c.in-Ok.ensures.text.0) ∙ c.in-Ok-behind.ensures.wrong ls r

pub returns-in-Err-behind-clause-wrong : goal.returns-in-Err-behind-clause-wrong
returns-in-Err-behind-clause-wrong c = λ ls r. subst (Refuses c.in-Err-behind.refusal) (sym (line_judged ls c.args.line.now _ c.in-Ok.ensures.text.1 (c.line_said-said.ensures ∙ ap said c.in-Ok.ensures.text.0))) (c.in-Err-behind.ensures.wrong ls r)
