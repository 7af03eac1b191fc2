use Rattle.std.proofs.Common.{◌+◌, ◌∷◌, List, ℕ, drop, sym, ap, ◌∙◌}
use Rattle.fd_tokens.specs.Tokens.{tokens}
use Rattle.fd_tokens.proofs.Words.{step_word, step_blank, step_mark}
use Rattle.fd_tokens.proofs.tokens.step.Goals as goal

pub returns-then-is_word_byte-clause-next : goal.returns-then-is_word_byte-clause-next
returns-then-is_word_byte-clause-next c =
    let rest = c.args.rest.now in
    let n = c.word_end-len.result in
    step_word c.args.marks.now c.args.at n rest c.requires.some (sym c.is_word_byte.ensures ∙ c.if-is_word_byte.true) c.word_end-len.ensures.value
    ∙ ap (λ (t : List ℕ). record { at = c.args.at; text = t } ∷ tokens c.args.marks.now (c.args.at + n) (drop n rest)) (sym c.split_at.ensures.front)

pub returns-then-is_blank-clause-next : goal.returns-then-is_blank-clause-next
returns-then-is_blank-clause-next c =
    step_blank c.args.marks.now c.args.at c.args.rest.now c.requires.some (sym c.is_word_byte.ensures ∙ c.if-is_word_byte.false) (sym c.is_blank.ensures ∙ c.if-is_blank.true)

pub returns-clause-next : goal.returns-clause-next
returns-clause-next c =
    let rest = c.args.rest.now in
    step_mark c.args.marks.now c.args.at rest c.requires.some (sym c.is_word_byte.ensures ∙ c.if-is_word_byte.false) (sym c.is_blank.ensures ∙ c.if-is_blank.false)
    ∙ ap (λ (t : List ℕ). record { at = c.args.at; text = t } ∷ tokens c.args.marks.now (c.args.at + 1) (drop 1 rest)) (sym c.split_at-2.ensures.front)
