use Rattle.std.proofs.Common.{◌≡◌, ◌++◌, ◌∷◌, [], ◌∙◌, ap, sym, List, ℕ, Ok, drop, string_bytes}
use Rattle.std.proofs.lemmas.List.{map_push}
use Rattle.fd_tokens.specs.Tokens.{Part, parts, parts_if, view, views}
use Rattle.fd_schema.specs.Grammar.{value_in, values_of, each_of}
use Rattle.fd_spelling.specs.Texts.{texts}
use Rattle.fd_schema.proofs.Turns.{part_goes, part_stops, parts_end}
use Rattle.fd_schema.proofs.values.values.Goals as goal

pub returns-in-Err : goal.returns-in-Err
returns-in-Err c =
    let p : Part = record { tokens = views c.part_from-next.result.0.now; stop = view c.part_from-next.result.1.now } in
    let ps = parts_if 47 (view c.args.stop.now) c.args.tokens.now c.part_from-next.result.2 in
    part_stops (value_in c.args.version c.args.name.now) (texts c.parts.values.items) p ps _ c.in-Err.refusal (values_of c.args.version c.args.name.now (view c.args.stop.now) (views c.args.tokens.now)) c.part_from-next.ensures.parts c.parts.invariant.1 c.in-Err.ensures

pub returns-in-None : goal.returns-in-None
returns-in-None c =
    let p : Part = record { tokens = views c.part_from-next.result.0.now; stop = view c.part_from-next.result.1.now } in
    let ps = parts_if 47 (view c.args.stop.now) c.args.tokens.now c.part_from-next.result.2 in
    let total = values_of c.args.version c.args.name.now (view c.args.stop.now) (views c.args.tokens.now) in
    let pushed : texts c.push.new.self.items ≡ texts c.parts.values.items ++ string_bytes c.in-Ok.value ∷ [] =
    ap texts c.in_ok-push-in-Ok.ensures.items ∙ map_push string_bytes c.parts.values.items c.in-Ok.value in
    let goes = part_goes (value_in c.args.version c.args.name.now) (texts c.parts.values.items) p ps _ (string_bytes c.in-Ok.value) total c.part_from-next.ensures.parts c.parts.invariant.1 c.in-Ok.ensures in
    let last : ps ≡ [] = ap (parts_if 47 (view c.args.stop.now) c.args.tokens.now) c.in-None.is in
    parts_end (value_in c.args.version c.args.name.now) (texts c.parts.values.items ++ string_bytes c.in-Ok.value ∷ []) ps total last goes ∙ ap (λ (xs : List (List ℕ)). Ok xs) (sym pushed)

pub parts-preserved : goal.parts-preserved
parts-preserved c =
    let p : Part = record { tokens = views c.part_from-next.result.0.now; stop = view c.part_from-next.result.1.now } in
    let ps = parts_if 47 (view c.args.stop.now) c.args.tokens.now c.part_from-next.result.2 in
    let total = values_of c.args.version c.args.name.now (view c.args.stop.now) (views c.args.tokens.now) in
    let pushed : texts c.push.new.self.items ≡ texts c.parts.values.items ++ string_bytes c.in-Ok.value ∷ [] =
    ap texts c.in_ok-push-in-Ok.ensures.items ∙ map_push string_bytes c.parts.values.items c.in-Ok.value in
    let goes = part_goes (value_in c.args.version c.args.name.now) (texts c.parts.values.items) p ps _ (string_bytes c.in-Ok.value) total c.part_from-next.ensures.parts c.parts.invariant.1 c.in-Ok.ensures in
    let more : ps ≡ parts 47 (view c.args.stop.now) (views (drop c.in-Some.place c.args.tokens.now)) = ap (parts_if 47 (view c.args.stop.now) c.args.tokens.now) c.in-Some.is in
    let within = rw c.in-Some.is at c.part_from-next.ensures.within in (
      within,
      ap (λ (us : List Part). each_of (value_in c.args.version c.args.name.now) (texts c.push.new.self.items) us) (sym more)
          ∙ ap (λ (xs : List (List ℕ)). each_of (value_in c.args.version c.args.name.now) xs ps) pushed ∙ goes,
    )
