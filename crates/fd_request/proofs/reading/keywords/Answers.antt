use Rattle.std.proofs.Common.{◌≡◌, [], ap, sym, ◌∙◌, arith, drop}
use Rattle.fd_tokens.specs.Tokens.{Part, parts, parts_if, view, views}
use Rattle.fd_request.specs.Grammar.{each_of, keyword_in}
use Rattle.fd_request.specs.Keywords.{seen_keywords}
use Rattle.fd_request.proofs.Turns.{keyword_stops, keyword_goes, keywords_end, one_more_name}
use Rattle.fd_request.proofs.reading.keywords.Goals as goal

pub returns-in-Err-clause-gives : goal.returns-in-Err-clause-gives
returns-in-Err-clause-gives c =
    let p : Part = record { tokens = views c.part_from-next.result.0.now; stop = view c.part_from-next.result.1.now } in
    keyword_stops (seen_keywords c.parts.found.keywords.items) p (parts_if 44 (view c.args.stop.now) c.args.tokens.now c.part_from-next.result.2) _ c.in-Err.refusal _ c.part_from-next.ensures.parts c.parts.invariant.so_far
    c.in-Err.ensures.gives

pub returns-in-None-clause-gives : goal.returns-in-None-clause-gives
returns-in-None-clause-gives c =
    let p : Part = record { tokens = views c.part_from-next.result.0.now; stop = view c.part_from-next.result.1.now } in
    let ps = parts_if 44 (view c.args.stop.now) c.args.tokens.now c.part_from-next.result.2 in
    let total = each_of keyword_in [] (parts 44 (view c.args.stop.now) (views (drop c.args.first c.args.tokens.now))) in
    let goes = keyword_goes c.parts.found.keywords.items c.in_ok-found-in-Ok.found.keywords.items c.in-Ok.keyword p ps _ total c.in_ok-found-in-Ok.ensures.items c.part_from-next.ensures.parts c.parts.invariant.so_far
    c.in-Ok.ensures.gives in
    let last : ps ≡ [] = ap (parts_if 44 (view c.args.stop.now) c.args.tokens.now) c.in-None.is in
    keywords_end c.in_ok-found-in-Ok.found.keywords.items total (ap (each_of keyword_in (seen_keywords c.in_ok-found-in-Ok.found.keywords.items)) (sym last) ∙ goes)

pub returns-in-None-clause-differ : goal.returns-in-None-clause-differ
returns-in-None-clause-differ c =
    one_more_name c.parts.found.keywords.items c.in_ok-found-in-Ok.found.keywords.items c.in-Ok.keyword c.in_ok-found-in-Ok.ensures.items c.parts.invariant.differ c.in-Ok.ensures.new

pub parts-preserved : goal.parts-preserved
parts-preserved c =
    let p : Part = record { tokens = views c.part_from-next.result.0.now; stop = view c.part_from-next.result.1.now } in
    let ps = parts_if 44 (view c.args.stop.now) c.args.tokens.now c.part_from-next.result.2 in
    let total = each_of keyword_in [] (parts 44 (view c.args.stop.now) (views (drop c.args.first c.args.tokens.now))) in
    let goes = keyword_goes c.parts.found.keywords.items c.in_ok-found-in-Ok.found.keywords.items c.in-Ok.keyword p ps _ total c.in_ok-found-in-Ok.ensures.items c.part_from-next.ensures.parts c.parts.invariant.so_far
    c.in-Ok.ensures.gives in
    let more : ps ≡ parts 44 (view c.args.stop.now) (views (drop c.in-Some.place c.args.tokens.now)) = ap (parts_if 44 (view c.args.stop.now) c.args.tokens.now) c.in-Some.is in
    let forward = rw c.in-Some.is at c.part_from-next.ensures.forward in
    let within = rw c.in-Some.is at c.part_from-next.ensures.within in
    record {
      within = within;
      few = omega (arith, c.parts.invariant.few, c.in_ok-found-in-Ok.ensures.len, forward);
      differ = one_more_name c.parts.found.keywords.items c.in_ok-found-in-Ok.found.keywords.items c.in-Ok.keyword c.in_ok-found-in-Ok.ensures.items c.parts.invariant.differ c.in-Ok.ensures.new;
      so_far = ap (each_of keyword_in (seen_keywords c.in_ok-found-in-Ok.found.keywords.items)) (sym more) ∙ goes;
    }
