use Rattle.std.proofs.Common.{◌≡◌, ◌++◌, [], List, map, drop, ap, sym, ◌∙◌}
use Rattle.std.specs.Prelude.{option_map}
use Rattle.fd_tokens.specs.Tokens.{Part, parts, parts_if, view, views}
use Rattle.fd_request.specs.Grammar.{word_in, led, up_to_behind, words_of}
use Rattle.fd_request.specs.Seen.{seen_words}
use Rattle.fd_request.proofs.Cuts.{begun_first, word_goes, word_stops, words_end}
use Rattle.fd_request.proofs.word.words_of.Goals as goal

pub returns-then-is_last-clause-words : goal.returns-then-is_last-clause-words
returns-then-is_last-clause-words c =
    let left = option_map view c.parts.left in
    let ps = parts_if 47 (view c.args.stop.now) c.args.tokens.now c.part_from-next.result.2 in
    let p : Part = record { tokens = views c.part_from-next.result.0.now; stop = view c.part_from-next.result.1.now } in
    let q : Part = record { tokens = led left p.tokens; stop = p.stop } in
    word_stops c.parts.words.items c.push.new.self.items c.word_of-word.result q ps _ (words_of (view c.args.stop.now) (option_map view c.args.rest) (views c.args.tokens.now)) c.in_ok-push.ensures.items c.word_of-word.ensures
    (sym c.is_some-is_last.ensures ∙ c.if-is_last.true) (begun_first left p ps _ c.part_from-next.ensures.parts) c.parts.invariant.so_far

pub returns-in-None-clause-words : goal.returns-in-None-clause-words
returns-in-None-clause-words c =
    let left = option_map view c.parts.left in
    let ps = parts_if 47 (view c.args.stop.now) c.args.tokens.now c.part_from-next.result.2 in
    let p : Part = record { tokens = views c.part_from-next.result.0.now; stop = view c.part_from-next.result.1.now } in
    let q : Part = record { tokens = led left p.tokens; stop = p.stop } in
    let all = words_of (view c.args.stop.now) (option_map view c.args.rest) (views c.args.tokens.now) in
    let goes = word_goes c.parts.words.items c.push.new.self.items c.word_of-word.result q ps _ all c.in_ok-push.ensures.items c.word_of-word.ensures (sym c.is_some-is_last.ensures ∙ c.if-is_last.false)
    (begun_first left p ps _ c.part_from-next.ensures.parts) c.parts.invariant.so_far in
    let last : ps ≡ [] = ap (parts_if 47 (view c.args.stop.now) c.args.tokens.now) c.in-None.is in
    words_end c.push.new.self.items all (ap (λ (us : List Part). seen_words c.push.new.self.items ++ up_to_behind (map word_in us)) (sym last) ∙ goes)

pub parts-preserved : goal.parts-preserved
parts-preserved c =
    let left = option_map view c.parts.left in
    let ps = parts_if 47 (view c.args.stop.now) c.args.tokens.now c.part_from-next.result.2 in
    let p : Part = record { tokens = views c.part_from-next.result.0.now; stop = view c.part_from-next.result.1.now } in
    let q : Part = record { tokens = led left p.tokens; stop = p.stop } in
    let all = words_of (view c.args.stop.now) (option_map view c.args.rest) (views c.args.tokens.now) in
    let goes = word_goes c.parts.words.items c.push.new.self.items c.word_of-word.result q ps _ all c.in_ok-push.ensures.items c.word_of-word.ensures (sym c.is_some-is_last.ensures ∙ c.if-is_last.false)
    (begun_first left p ps _ c.part_from-next.ensures.parts) c.parts.invariant.so_far in
    let more : ps ≡ parts 47 (view c.args.stop.now) (views (drop c.in-Some.place c.args.tokens.now)) = ap (parts_if 47 (view c.args.stop.now) c.args.tokens.now) c.in-Some.is in
    let within = rw c.in-Some.is at c.part_from-next.ensures.within in
    record {
      within = within;
      so_far = ap (λ (us : List Part). seen_words c.push.new.self.items ++ up_to_behind (map word_in us)) (sym more) ∙ goes;
    }
