use Rattle.std.proofs.Common.{rules, ◌∙◌, ap, ◌≡◌, Some, option_copied}
use Rattle.fd_outcome.specs.Rows.{with_piece, with_pieces}
use Rattle.fd_key.specs.Reading.{pieces_if}
use Rattle.fd_inventory.proofs.Pieces.{turn, refused, done}
use Rattle.fd_inventory.proofs.stored_key.add_text.Goals as goal

pub returns-then-not-branch-clause-pairs : goal.returns-then-not-branch-clause-pairs
returns-then-not-branch-clause-pairs c =
    c.loop-rest.invariant.same ∙ ap (λ o. with_pieces c.loop-rest.pairs (pieces_if (option_copied o))) c.in-Some.is ∙ ap (with_pieces c.loop-rest.pairs) c.comma_piece.ensures.pieces
    ∙ refused c.loop-rest.pairs c.comma_piece.result.0.now (pieces_if (option_copied c.comma_piece.result.1)) (search rules)

pub returns-clause-pairs : goal.returns-clause-pairs
returns-clause-pairs c = c.loop-rest.invariant.same ∙ ap (λ o. with_pieces c.loop-rest.pairs (pieces_if (option_copied o))) c.in_default.is ∙ done c.loop-rest.pairs

pub loop-rest-preserved : goal.loop-rest-preserved
loop-rest-preserved c =
    let added : with_piece c.loop-rest.pairs c.comma_piece.result.0.now ≡ Some c.add_piece.new.pairs = search rules in
    let few = c.in_ok-add_piece.ensures.few in
    record {
      same = c.loop-rest.invariant.same ∙ ap (λ o. with_pieces c.loop-rest.pairs (pieces_if (option_copied o))) c.in-Some.is ∙ ap (with_pieces c.loop-rest.pairs) c.comma_piece.ensures.pieces
          ∙ turn c.loop-rest.pairs c.add_piece.new.pairs c.comma_piece.result.0.now (pieces_if (option_copied c.comma_piece.result.1)) added;
      few = search rules;
      room = c.loop-rest.invariant.room;
    }
