use Rattle.std.proofs.Common.{[], List, None, Some, Result, Ok, ap, subst, sym, ◌∙◌}
use Rattle.fd_tokens.specs.Tokens.{Part, parts_if, view, views}
use Rattle.fd_request.specs.declared.keyword.Keyword as code_keyword
use Rattle.fd_request.specs.Expansion as expansion
use Rattle.fd_request.specs.Grammar.{Fault, each_of, keyword_in}
use Rattle.fd_request.specs.Keywords.{seen_keywords}
use Rattle.fd_request.specs.Reading.{Gives}
use Rattle.fd_request.proofs.Turns.{verb_stops, verb_goes, ends}
use Rattle.fd_request.proofs.reading.request_in.Goals as goal

pub returns-in-Err-clause-gives : goal.returns-in-Err-clause-gives
returns-in-Err-clause-gives c =
    let p : Part = record { tokens = views c.part_from-next.result.0.now; stop = view c.part_from-next.result.1.now } in
    verb_stops c.args.verb.now p (parts_if 44 (view c.args.stop.now) c.args.tokens.now c.part_from-next.result.2) _ c.in-Err.refusal c.part_from-next.ensures.parts c.in-Err.ensures

pub returns-in-Some-clause-gives : goal.returns-in-Some-clause-gives
returns-in-Some-clause-gives c =
    let p : Part = record { tokens = views c.part_from-next.result.0.now; stop = view c.part_from-next.result.1.now } in
    verb_goes c.args.verb.now p (parts_if 44 (view c.args.stop.now) c.args.tokens.now c.part_from-next.result.2) _ (Some c.in-Some.place) c.part_from-next.ensures.parts (rw c.in-Some.is at c.in-Ok.ensures)

pub returns-in-Some-next-clause-gives : goal.returns-in-Some-next-clause-gives
returns-in-Some-next-clause-gives c =
    let p : Part = record { tokens = views c.part_from-next.result.0.now; stop = view c.part_from-next.result.1.now } in
    let goes = verb_goes c.args.verb.now p (parts_if 44 (view c.args.stop.now) c.args.tokens.now c.part_from-next.result.2) _ None c.part_from-next.ensures.parts (rw c.in-None.is at c.in-Ok.ensures) in
    let more = ap (λ next. each_of keyword_in [] (parts_if 44 (view c.args.stop.now) c.args.tokens.now next)) c.in-Some-next.is in
    subst (λ (r : Result (List expansion.Keyword) Fault). Gives (λ v. seen_keywords v.items) c.keywords.result r) (sym (goes ∙ more)) c.keywords.ensures.gives

pub returns-in-None-next-clause-gives : goal.returns-in-None-next-clause-gives
returns-in-None-next-clause-gives c =
    let p : Part = record { tokens = views c.part_from-next.result.0.now; stop = view c.part_from-next.result.1.now } in
    let goes = verb_goes c.args.verb.now p (parts_if 44 (view c.args.stop.now) c.args.tokens.now c.part_from-next.result.2) _ None c.part_from-next.ensures.parts (rw c.in-None.is at c.in-Ok.ensures) in
    let last = ap (λ next. each_of keyword_in [] (parts_if 44 (view c.args.stop.now) c.args.tokens.now next)) c.in-None-next.is in
    goes ∙ last ∙ ends keyword_in [] ∙ ap (λ (ks : List code_keyword.Keyword). Ok (seen_keywords ks)) (sym c.new.ensures.items)
