use Rattle.std.proofs.Common.{◌≡◌, ◌++◌, ◌∷◌, [], ◌∙◌, ap, sym, List, Some, false}
use Rattle.std.specs.Prelude.{string_bytes}
use Rattle.fd_spelling.specs.Pieces.{pieces}
use Rattle.fd_spelling.specs.Stats.{parts_spelled}
use Rattle.fd_spelling.proofs.StatLaws.{behind, before_part, goes, last, refuses_all}
use Rattle.fd_spelling.proofs.stats.joined_spelling.Goals as goal

pub returns-in-Err : goal.returns-in-Err
returns-in-Err c =
    rw (← c.parts.invariant, c.first_piece.ensures.pieces) (refuses_all c.in-Err.fault (string_bytes c.parts.out) c.parts.first c.first_piece.result.0.now _ c.in-Err.ensures)

pub returns-in-None : goal.returns-in-None
returns-in-None c =
    let piece = c.first_piece.result.0.now in
    let one : pieces 43 c.parts.rest.now ≡ piece ∷ [] = rw c.in-None.is at c.first_piece.ensures.pieces in
    let pushed : string_bytes c.push_part.new.out ≡ string_bytes c.parts.out ++ (before_part c.parts.first ++ string_bytes c.in-Ok.part) =
    c.in_ok-push_part-in-Ok.ensures.text ∙ ap (λ t. string_bytes c.parts.out ++ (before_part c.parts.first ++ t)) c.as_str.ensures.value in
    sym c.parts.invariant ∙ ap (λ ps. behind (string_bytes c.parts.out) c.parts.first (parts_spelled ps)) one
    ∙ last (string_bytes c.parts.out) c.parts.first piece (string_bytes c.in-Ok.part) c.in-Ok.ensures ∙ ap (λ (t : List _). Some t) (sym pushed)

pub parts-preserved : goal.parts-preserved
parts-preserved c =
    let piece = c.first_piece.result.0.now in
    let others = pieces 43 c.in-Some.others.now in
    let more : pieces 43 c.parts.rest.now ≡ piece ∷ others = rw c.in-Some.is at c.first_piece.ensures.pieces in
    let pushed : string_bytes c.push_part.new.out ≡ string_bytes c.parts.out ++ (before_part c.parts.first ++ string_bytes c.in-Ok.part) =
    c.in_ok-push_part-in-Ok.ensures.text ∙ ap (λ t. string_bytes c.parts.out ++ (before_part c.parts.first ++ t)) c.as_str.ensures.value in
    ap (λ t. behind t false (parts_spelled others)) pushed
    ∙ sym (goes (string_bytes c.parts.out) c.parts.first piece others (string_bytes c.in-Ok.part) c.in-Ok.ensures)
    ∙ ap (λ ps. behind (string_bytes c.parts.out) c.parts.first (parts_spelled ps)) (sym more) ∙ c.parts.invariant
