use Rattle.std.proofs.Common.{◌≡◌, ◌∙◌, ◌≤◌, ◌<◌, ℕ, List, Option, Some, length, map, arith, refl, subst, sym}
use Rattle.std.specs.Prelude.{IfSome}
use Rattle.fd_disk.specs.Folders.{WhereTold}
use Rattle.std.proofs.lemmas.List.{length-map}
use Rattle.fd_schema.specs.Reading.{seen_place}
use Rattle.fd_stored.specs.Distinct.{count_distinct}
use Rattle.fd_stored.specs.Store.{Stays, table_at}
use Rattle.fd_outcome.specs.Trying.{tally_of}
use Rattle.fd_retrieve.specs.Counting.{IsBrokenAmong, IsTally, finds}
use Rattle.fd_retrieve.specs.Looking.{IsLookedThrough}
use Rattle.fd_retrieve.specs.Tables.{datasets_in}
use Rattle.fd_retrieve.proofs.Looking.{looked_told}
use Rattle.fd_telling.specs.Stops.{OnTooMany}
use Rattle.fd_telling.proofs.StopLemmas.{later_disk, on_many}
use Rattle.fd_trial.specs.Placed.{ArePlaced}
use Rattle.fd_trial.proofs.Stepping.{asked, begun, few_asked, grown, says}
use Rattle.fd_trial.proofs.Stopping.{asked_stop}
use Rattle.fd_trial.proofs.TrialExits.{counted_ran, starved_ran}
use Rattle.fd_trial.proofs.command.Plan.ask.Goals as goal

pub returns-in_default-clause-ran : goal.returns-in_default-clause-ran
returns-in_default-clause-ran g c = λ root start faults le begins.
    let left = g.W.Input.Source.left c.args.objects.now.input in
    let l = g.W.Input.Source.faults c.args.objects.now.input in
    let a = g.W.Output.Sink.taken c.args.objects.now.output in
    let k = g.W.Output.Sink.faults c.args.objects.now.output in
    let now = g.W.Store.Store.has c.args.objects.now.store in
    starved_ran root c.args.self.now.count c.args.self.now.workers start now _ _ left l a k _ c.tell_no_memory.result c.args.self.now.schema.now
    (grown c.args.self.now.count c.args.self.now.workers c.args.self.now.schema.now start now (begun c.args.self.now.count c.args.self.now.workers c.args.self.now.schema.now start now begins)) c.tell_no_memory.ensures

pub returns-in-Ok-count_found-clause-ran : goal.returns-in-Ok-count_found-clause-ran
returns-in-Ok-count_found-clause-ran g c = λ root start faults le begins.
    let left = g.W.Input.Source.left c.args.objects.now.input in
    let l = g.W.Input.Source.faults c.args.objects.now.input in
    let a = g.W.Output.Sink.taken c.args.objects.now.output in
    let k = g.W.Output.Sink.faults c.args.objects.now.output in
    let mid = g.W.Store.Store.has c.args.objects.now.store in
    let now = g.W.Store.Store.has c.count_found.new.store in
    let rules = c.args.self.now.schema.now in
    let places = c.in-Ok.places.items in
    let placed = subst (λ given. ArePlaced rules given 0 (map seen_place places)) c.requires.given c.in-Ok.ensures.placed in
    let long : length (map seen_place places) ≡ c.args.self.now.count = length-map places seen_place ∙ c.in-Ok.ensures.many in
    counted_ran root c.args.self.now.count c.args.self.now.workers start now _ _ left l a k _ c.tell_counted.result rules begins.none _
    (asked c.args.self.now.count c.args.self.now.workers rules start mid now begins c.count_found.ensures.stays)
    (says c.args.self.now.count c.args.self.now.workers rules (map seen_place places) c.requires.count placed long begins.none start mid now c.in-Ok-count_found.counted begins
    (subst (λ ps. IfSome mid (λ h. (xs : List (Option (List ℕ))) → finds (table_at h) (map seen_place ps) ≡ Some xs → IsTally c.in-Ok-count_found.counted (tally_of xs))) c.deref.ensures.value c.in-Ok-count_found.ensures.counted))
    c.tell_counted.ensures

pub returns-clause-ran : goal.returns-clause-ran
returns-clause-ran g c = λ root start faults le begins.
    let left = g.W.Input.Source.left c.args.objects.now.input in
    let l = g.W.Input.Source.faults c.args.objects.now.input in
    let a = g.W.Output.Sink.taken c.args.objects.now.output in
    let k = g.W.Output.Sink.faults c.args.objects.now.output in
    let mid = g.W.Store.Store.has c.args.objects.now.store in
    let now = g.W.Store.Store.has c.tell_stop.new.store in
    let places = c.in-Ok.places.items in
    let placed = subst (λ given. ArePlaced c.args.self.now.schema.now given 0 (map seen_place places)) c.requires.given c.in-Ok.ensures.placed in
    let long : length (map seen_place places) ≡ c.args.self.now.count = length-map places seen_place ∙ c.in-Ok.ensures.many in
    let stays = subst (λ n. WhereTold mid n Stays) (sym c.tell_stop.ensures.has) c.count_found.ensures.stays in
    let later : faults ≤ g.W.Store.Store.faults c.count_found.new.store = omega (arith, le, c.count_found.ensures.later) in
    let few = few_asked c.args.self.now.count c.args.self.now.workers c.args.self.now.schema.now (map seen_place places) c.requires.count placed long begins.none places refl in
    let many = subst (λ ps. OnTooMany c.in-Err.stop (2048 < count_distinct (datasets_in ps))) c.deref.ensures.value c.in-Err.ensures.many in
    let never = on_many c.in-Err.stop _ ⊥ (λ lt. omega (arith, lt, few)) many in
    asked_stop root c.args.self.now.count c.args.self.now.workers start mid now faults (g.W.Store.Store.faults c.tell_stop.new.store) left l a k _ c.tell_stop.result c.args.self.now.schema.now
    c.requires.count places placed long begins stays c.in-Err.stop c.tell_stop.ensures.told never c.in-Err.ensures.of
    (subst (λ ps. IfSome mid (λ h. IsBrokenAmong c.in-Err.stop h (datasets_in ps))) c.deref.ensures.value c.in-Err.ensures.broken)
    (later_disk c.in-Err.stop faults (g.W.Store.Store.faults c.count_found.new.store) (g.W.Store.Store.faults c.tell_stop.new.store) later c.tell_stop.ensures.noted)

pub returns-in_default-clause-looks : goal.returns-in_default-clause-looks
returns-in_default-clause-looks g c = looked_told (g.W.Store.Store.has c.args.objects.now.store)

pub returns-clause-looks : goal.returns-clause-looks
returns-clause-looks g c = subst (λ n. WhereTold (g.W.Store.Store.has c.args.objects.now.store) n IsLookedThrough) (sym c.tell_stop.ensures.has) c.count_found.ensures.looks
