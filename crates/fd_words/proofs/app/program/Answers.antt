use Rattle.std.proofs.Common.{rules, ◌≡◌, ◌∙◌, ap, map}
use Rattle.std.proofs.lemmas.Result.{IfOk-weaker}
use Rattle.clap.specs.Words.{app_of}
use Rattle.fd_words.specs.Grammar.{list_leaves, plain, removal_leaves, store_leaves, with_leaves}
use Rattle.fd_words.proofs.app.program.Goals as goal

pub returns : goal.returns
returns c =
    let lists : map plain c.as_slice.result.now ≡ list_leaves = search rules in
    let removals : map plain c.as_slice-2.result.now ≡ removal_leaves = search rules in
    IfOk-weaker c.with_plain-2.result _ _
    (λ r h. h ∙ ap (with_leaves (app_of c.in_ok-program-3.program)) removals
    ∙ ap (λ a. with_leaves a removal_leaves) (c.in_ok-program-3.ensures ∙ ap (with_leaves (app_of c.in_ok-program-2.program)) lists
    ∙ ap (λ a. with_leaves a list_leaves) (c.in_ok-program-2.ensures ∙ ap (λ a. with_leaves a store_leaves) c.in_ok-program.ensures)))
    c.with_plain-2.ensures
