use Rattle.std.proofs.Common.{◌++◌, List, length, sym, ap, ◌∙◌}
use Rattle.std.proofs.lemmas.Bool.{eqb-true}
use Rattle.std.proofs.lemmas.List.{append-nil}
use Rattle.fd_tokens.specs.Tokens.{Piece, views}
use Rattle.fd_tokens.proofs.Words.{no_tokens}
use Rattle.fd_tokens.proofs.tokens.tokens_of.Goals as goal

pub returns : goal.returns
returns c =
    let rest = c.loop-rest.rest.now in
    sym (ap (λ (ts : List Piece). views c.loop-rest.found.items ++ ts) (no_tokens c.args.marks.now c.loop-rest.at rest (eqb-true (length rest) 0 (sym c.is_empty.ensures ∙ c.loop-rest-test.false))) ∙ append-nil (views c.loop-rest.found.items)) ∙ c.loop-rest.invariant.0
