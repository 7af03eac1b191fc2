use Rattle.std.proofs.Common.{◌∙◌, sym, ap, length, ℕ, List, Some, None, arith}
use Rattle.std.specs.Prelude.{string_bytes}
use Rattle.fd_spelling.specs.Levels.{levels_text}
use Rattle.fd_spelling.proofs.PieceLaws.{cut_lengths}
use Rattle.fd_spelling.proofs.ValueLaws.{alone_is_value, both_are_value}
use Rattle.fd_spelling.proofs.levels.levelist_spelling.Goals as goal

pub returns-in_ok-second_alone-in-Some-empty-default-clause-value : goal.returns-in_ok-second_alone-in-Some-empty-default-clause-value
returns-in_ok-second_alone-in-Some-empty-default-clause-value c =
    let parts : List ℕ × List ℕ = (c.in-Some-empty-default.field-0-0.now, c.in-Some-empty-default.second.now) in
    let lengths = cut_lengths 95 c.args.text.now parts (sym c.in-Some-empty-default.ensures) in
    let text = c.in_ok-second_alone-in-Some-empty-default.ensures.text ∙ ap (λ w. levels_text None (Some w)) c.as_str.ensures.value in
    alone_is_value (string_bytes c.in_ok-second-in-Some-empty-default.second) _ (length c.in-Some-empty-default.second.now) text c.in_ok-second-in-Some-empty-default.ensures.decimal (omega (arith, lengths, c.requires))

pub returns-in_ok-both_levels-in-Some-clause-value : goal.returns-in_ok-both_levels-in-Some-clause-value
returns-in_ok-both_levels-in-Some-clause-value c =
    let parts : List ℕ × List ℕ = (c.in-Some.first.now, c.in-Some.second.now) in
    let lengths = cut_lengths 95 c.args.text.now parts (sym c.in-Some.ensures) in
    let text = c.in_ok-both_levels-in-Some.ensures.text ∙ ap (λ v. levels_text (Some v) (Some c.as_str-in-Some-2.result.now)) c.as_str-in-Some.ensures.value ∙ ap (λ w. levels_text (Some (string_bytes c.in_ok-first-in-Some.first)) (Some w)) c.as_str-in-Some-2.ensures.value in
    both_are_value (string_bytes c.in_ok-first-in-Some.first) (string_bytes c.in_ok-second-in-Some.second) _ (length c.in-Some.first.now) (length c.in-Some.second.now) text
    c.in_ok-first-in-Some.ensures.decimal c.in_ok-second-in-Some.ensures.decimal (omega (arith, lengths, c.requires))
