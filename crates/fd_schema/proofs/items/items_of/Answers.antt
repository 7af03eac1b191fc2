use Rattle.std.proofs.Common.{◌≡◌, ◌++◌, ◌∷◌, [], ◌∙◌, ap, sym, List, Ok, drop}
use Rattle.std.proofs.lemmas.List.{map_push}
use Rattle.fd_tokens.specs.Tokens.{Part, parts, parts_if, view, views}
use Rattle.fd_schema.specs.Rules.{Item}
use Rattle.fd_schema.specs.Grammar.{item_in, items_of, each_of}
use Rattle.fd_schema.specs.Seen.{seen_item, seen_items}
use Rattle.fd_schema.proofs.Turns.{part_goes, part_stops, parts_end}
use Rattle.fd_schema.proofs.items.items_of.Goals as goal

pub returns-in-Err : goal.returns-in-Err
returns-in-Err c =
    let p : Part = record { tokens = views c.part_from-next.result.0.now; stop = view c.part_from-next.result.1.now } in
    let ps = parts_if 44 (view c.args.stop.now) c.args.tokens.now c.part_from-next.result.2 in
    part_stops (item_in c.args.version c.args.level) (seen_items c.parts.items.items) p ps _ c.in-Err.refusal (items_of c.args.version c.args.level (seen_items c.args.before.items) (view c.args.stop.now) (views c.args.tokens.now)) c.part_from-next.ensures.parts c.parts.invariant.1 (rw c.deref.ensures.value at c.in-Err.ensures)

pub returns-in-None : goal.returns-in-None
returns-in-None c =
    let p : Part = record { tokens = views c.part_from-next.result.0.now; stop = view c.part_from-next.result.1.now } in
    let ps = parts_if 44 (view c.args.stop.now) c.args.tokens.now c.part_from-next.result.2 in
    let total = items_of c.args.version c.args.level (seen_items c.args.before.items) (view c.args.stop.now) (views c.args.tokens.now) in
    let pushed : seen_items c.push.new.self.items ≡ seen_items c.parts.items.items ++ seen_item c.in-Ok.item ∷ [] =
    ap seen_items c.in_ok-push-in-Ok.ensures.items ∙ map_push seen_item c.parts.items.items c.in-Ok.item in
    let goes = part_goes (item_in c.args.version c.args.level) (seen_items c.parts.items.items) p ps _ (seen_item c.in-Ok.item) total c.part_from-next.ensures.parts c.parts.invariant.1 (rw c.deref.ensures.value at c.in-Ok.ensures) in
    let last : ps ≡ [] = ap (parts_if 44 (view c.args.stop.now) c.args.tokens.now) c.in-None.is in
    parts_end (item_in c.args.version c.args.level) (seen_items c.parts.items.items ++ seen_item c.in-Ok.item ∷ []) ps total last goes ∙ ap (λ (xs : List Item). Ok xs) (sym pushed)

pub parts-preserved : goal.parts-preserved
parts-preserved c =
    let p : Part = record { tokens = views c.part_from-next.result.0.now; stop = view c.part_from-next.result.1.now } in
    let ps = parts_if 44 (view c.args.stop.now) c.args.tokens.now c.part_from-next.result.2 in
    let total = items_of c.args.version c.args.level (seen_items c.args.before.items) (view c.args.stop.now) (views c.args.tokens.now) in
    let pushed : seen_items c.push.new.self.items ≡ seen_items c.parts.items.items ++ seen_item c.in-Ok.item ∷ [] =
    ap seen_items c.in_ok-push-in-Ok.ensures.items ∙ map_push seen_item c.parts.items.items c.in-Ok.item in
    let goes = part_goes (item_in c.args.version c.args.level) (seen_items c.parts.items.items) p ps _ (seen_item c.in-Ok.item) total c.part_from-next.ensures.parts c.parts.invariant.1 (rw c.deref.ensures.value at c.in-Ok.ensures) in
    let more : ps ≡ parts 44 (view c.args.stop.now) (views (drop c.in-Some.place c.args.tokens.now)) = ap (parts_if 44 (view c.args.stop.now) c.args.tokens.now) c.in-Some.is in
    let within = rw c.in-Some.is at c.part_from-next.ensures.within in (
      within,
      ap (λ (us : List Part). each_of (item_in c.args.version c.args.level) (seen_items c.push.new.self.items) us) (sym more)
          ∙ ap (λ (xs : List Item). each_of (item_in c.args.version c.args.level) xs ps) pushed ∙ goes,
    )
