use Rattle.std.proofs.Common.{rules, ◌≡◌, ◌∙◌, ◌<◌, ◌+◌, ◌++◌, ◌∷◌, [], Ok, Err, IfOk, IfErr, length, map, slice_get, Some, subst, sym, ap, arith}
use mathlib.Core.List.{map-append}
use Rattle.std.proofs.lemmas.Iterator.Adapters.{YieldsList-from_vec}
use Rattle.std.proofs.lemmas.Iterator.Consumers.{YieldsList-end, YieldsList-turn}
use Rattle.std.proofs.lemmas.List.{length-append, length-map}
use Rattle.fd_request.specs.Expansion.{expand}
use Rattle.fd_schema.specs.Reading.{seen_place}
use Rattle.fd_answering.proofs.AnsweringLemmas.{there_is}
use Rattle.fd_telling.specs.declared.stop.Stop.TheVariants as stops
use Rattle.fd_retrieve.proofs.ReadyLemmas.{HavePlaces, all_placed, lacks_rule, place_more}
use Rattle.fd_retrieve.proofs.Sought.{found_place, found_refusal}
use Rattle.fd_retrieve.proofs.asking.places_of.Goals as goal

pub returns-in-Err-NoRule-clause-refused : goal.returns-in-Err-NoRule-clause-refused
returns-in-Err-NoRule-clause-refused g c =
    let ks = expand c.args.request.now in
    let seats = c.in-Ok.seats.items in
    let ps = map seen_place c.loop-seat.places.items in
    let t = YieldsList-turn (YieldsList-from_vec seats (search rules) (search rules)) c.loop-seat.yielded c.loop-seat.seat-iterator c.loop-seat.yielded_by c.next.result c.next.new.self c.in-Some.seat c.in-Some.is c.next.ensures.steps in
    let within : length c.loop-seat.yielded < length ks = omega (arith, t.0, c.in-Ok.ensures.long) in
    let long : length ps ≡ length c.loop-seat.yielded = length-map c.loop-seat.places.items seen_place ∙ c.loop-seat.invariant.long in
    lacks_rule {F = g.row.F.Denot} (stops.NoRule c.in-Err-NoRule.text) c.args.schema.now ks ps (length c.loop-seat.yielded) c.loop-seat.invariant.so_far long within
    (found_refusal c.args.schema.now ks seats (length c.loop-seat.yielded) c.in-Some.seat c.in-Err-NoRule.text c.in-Ok.ensures within t.1 (search rules))

pub loop-seat-preserved : goal.loop-seat-preserved
loop-seat-preserved g c =
    let ks = expand c.args.request.now in
    let seats = c.in-Ok.seats.items in
    let old = c.loop-seat.places.items in
    let ps = map seen_place old in
    let t = YieldsList-turn (YieldsList-from_vec seats (search rules) (search rules)) c.loop-seat.yielded c.loop-seat.seat-iterator c.loop-seat.yielded_by c.next.result c.next.new.self c.in-Some.seat c.in-Some.is c.next.ensures.steps in
    let within : length c.loop-seat.yielded < length ks = omega (arith, t.0, c.in-Ok.ensures.long) in
    let long : length ps ≡ length c.loop-seat.yielded = length-map old seen_place ∙ c.loop-seat.invariant.long in
    let is : c.push.new.self.items ≡ old ++ c.in-Ok-seat.place ∷ [] = search rules in
    let key = there_is ks (length c.loop-seat.yielded) within in
    let one : length (old ++ c.in-Ok-seat.place ∷ []) ≡ length old + 1 = length-append old (c.in-Ok-seat.place ∷ []) in
    let more : length (c.loop-seat.yielded ++ c.in-Some.seat ∷ []) ≡ length c.loop-seat.yielded + 1 = length-append c.loop-seat.yielded (c.in-Some.seat ∷ []) in
    record {
      next = search rules;
      ends = search rules;
      long = ap length is ∙ (one ∙ (ap (λ n. n + 1) c.loop-seat.invariant.long ∙ sym more));
      so_far = subst (HavePlaces c.args.schema.now ks) (sym (ap (map seen_place) is ∙ map-append seen_place old (c.in-Ok-seat.place ∷ [])))
          (place_more c.args.schema.now ks ps key.0 (seen_place c.in-Ok-seat.place) c.loop-seat.invariant.so_far (subst (λ k. slice_get ks k ≡ Some key.0) (sym long) key.1)
          (found_place c.args.schema.now ks seats (length c.loop-seat.yielded) c.in-Some.seat c.in-Ok-seat.place c.in-Ok.ensures within t.1 (search rules) key.0 key.1));
    }

pub returns-clause-count : goal.returns-clause-count
returns-clause-count g c =
    let seats = c.in-Ok.seats.items in
    let t = YieldsList-end (YieldsList-from_vec seats (search rules) (search rules)) c.loop-seat.yielded c.loop-seat.seat-iterator c.loop-seat.yielded_by c.next.result c.next.new.self c.in-None.is c.next.ensures.steps in
    c.loop-seat.invariant.long ∙ t.1 ∙ c.in-Ok.ensures.long

pub returns-clause-placed : goal.returns-clause-placed
returns-clause-placed g c =
    let ks = expand c.args.request.now in
    let seats = c.in-Ok.seats.items in
    let ps = map seen_place c.loop-seat.places.items in
    let t = YieldsList-end (YieldsList-from_vec seats (search rules) (search rules)) c.loop-seat.yielded c.loop-seat.seat-iterator c.loop-seat.yielded_by c.next.result c.next.new.self c.in-None.is c.next.ensures.steps in
    all_placed c.args.schema.now ks ps c.loop-seat.invariant.so_far
    (length-map c.loop-seat.places.items seen_place ∙ c.loop-seat.invariant.long ∙ t.1 ∙ c.in-Ok.ensures.long)
