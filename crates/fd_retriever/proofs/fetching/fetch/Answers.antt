use Rattle.std.proofs.lemmas.List.{length-map}
use Rattle.std.proofs.Common.{refl, map, length, ◌≤◌, ◌≡◌, ◌-◌, ◌+◌, ℕ, List, Option, None, arith, ap, ◌∙◌, sym, subst, drop}
use Rattle.fd_entries.specs.Batches.{newest}
use Rattle.fd_dataset.specs.Listed.{listing}
use Rattle.fd_schema.specs.Rules.{file_key}
use Rattle.fd_schema.specs.Reading.{seen_place}
use Rattle.fd_retriever.specs.declared.fault.Got.TheVariants.{Found}
use Rattle.fd_retriever.specs.Answers.{IsAnswer, TookFront}
use Rattle.fd_retriever.proofs.Keeping.{damaged_among, fits_at, still_fits, still_those, those_at, untold_among}
use Rattle.fd_retriever.proofs.Saying.{all_found, lack_at_end, lack_more}
use Rattle.fd_retriever.proofs.Newest.{found_here, none_at_end, missed_here, refused_here}
use Rattle.fd_retriever.proofs.fetching.fetch.Goals as goal

pub fetch_from-requires-clause-fits : goal.fetch_from-requires-clause-fits
fetch_from-requires-clause-fits g c κs within =
    fits_at c.loop-i.lenses c.args.snapshot.now (c.len-count.result - c.loop-i.i) c.segment-segment.result.now c.loop-i.invariant.fits (omega (arith, c.loop-i-test.true), c.segment-segment.ensures)

pub returns-in-Ok-Found-clause-fits : goal.returns-in-Ok-Found-clause-fits
returns-in-Ok-Found-clause-fits g c =
    still_fits c.loop-i.lenses c.fetch_from.new.lenses c.args.snapshot.now (c.len-count.result - c.loop-i.i) c.segment-segment.result.now c.loop-i.invariant.fits (omega (arith, c.loop-i-test.true), c.segment-segment.ensures) c.fetch_from.ensures.kept

pub returns-in-Ok-Found-clause-those : goal.returns-in-Ok-Found-clause-those
returns-in-Ok-Found-clause-those g c = λ those.
    still_those c.loop-i.lenses c.fetch_from.new.lenses c.args.snapshot.now (c.len-count.result - c.loop-i.i) c.segment-segment.result.now (c.loop-i.invariant.those those) (omega (arith, c.loop-i-test.true), c.segment-segment.ensures) c.fetch_from.ensures.kept

pub returns-in-Ok-Found-clause-answer : goal.returns-in-Ok-Found-clause-answer
returns-in-Ok-Found-clause-answer g c = λ t told.
    let number : ℕ = c.len-count.result - c.loop-i.i in
    let key : c.deref.result.now ≡ file_key (seen_place c.args.place.now) = c.deref.ensures.value ∙ c.in-Ok.ensures in
    let above : newest (drop number t) c.deref.result.now ≡ None = ap (newest (drop number t)) c.deref.ensures.value ∙ c.loop-i.invariant.none t told in
    let found = found_here c.args.snapshot.now t number c.segment-segment.result.now c.deref.result.now (g.K.Sink.taken c.loop-i.sink) (g.K.Sink.taken c.fetch_from.new.sink) c.in-Ok-Found.len told (omega (arith, c.loop-i-test.true), c.segment-segment.ensures) above
    (rw c.in-Ok-Found.field-0-is at c.in-Ok-Found.ensures.answer) in
    let begun = subst (λ (o : Option (List ℕ)). IsAnswer (newest t c.deref.result.now) o (g.K.Sink.taken c.fetch_from.new.sink) (Found c.in-Ok-Found.len)) c.loop-i.invariant.taken found in
    subst (λ (k : List ℕ). IsAnswer (newest t k) (g.K.Sink.taken c.args.sink.now) (g.K.Sink.taken c.fetch_from.new.sink) (Found c.in-Ok-Found.len)) key begun

pub returns-in-Err-clause-fits : goal.returns-in-Err-clause-fits
returns-in-Err-clause-fits g c =
    still_fits c.loop-i.lenses c.fetch_from.new.lenses c.args.snapshot.now (c.len-count.result - c.loop-i.i) c.segment-segment.result.now c.loop-i.invariant.fits (omega (arith, c.loop-i-test.true), c.segment-segment.ensures) c.fetch_from.ensures.kept

pub returns-in-Err-clause-those : goal.returns-in-Err-clause-those
returns-in-Err-clause-those g c = λ those.
    still_those c.loop-i.lenses c.fetch_from.new.lenses c.args.snapshot.now (c.len-count.result - c.loop-i.i) c.segment-segment.result.now (c.loop-i.invariant.those those) (omega (arith, c.loop-i-test.true), c.segment-segment.ensures) c.fetch_from.ensures.kept

pub returns-in-Err-clause-err : goal.returns-in-Err-clause-err
returns-in-Err-clause-err g c = λ t told.
    let number : ℕ = c.len-count.result - c.loop-i.i in
    let key : c.deref.result.now ≡ file_key (seen_place c.args.place.now) = c.deref.ensures.value ∙ c.in-Ok.ensures in
    let above : newest (drop number t) c.deref.result.now ≡ None = ap (newest (drop number t)) c.deref.ensures.value ∙ c.loop-i.invariant.none t told in
    let refused = refused_here c.args.snapshot.now t number c.segment-segment.result.now c.deref.result.now (g.K.Sink.taken c.loop-i.sink) (g.K.Sink.taken c.fetch_from.new.sink) told (omega (arith, c.loop-i-test.true), c.segment-segment.ensures) above c.in-Err.ensures.err in
    let begun = subst (λ (o : Option (List ℕ)). TookFront (newest t c.deref.result.now) o (g.K.Sink.taken c.fetch_from.new.sink)) c.loop-i.invariant.taken refused in
    subst (λ (k : List ℕ). TookFront (newest t k) (g.K.Sink.taken c.args.sink.now) (g.K.Sink.taken c.fetch_from.new.sink)) key begun

pub returns-in-Err-clause-damaged : goal.returns-in-Err-clause-damaged
returns-in-Err-clause-damaged g c =
    damaged_among c.in-Err.fault c.args.snapshot.now (c.len-count.result - c.loop-i.i) c.segment-segment.result.now c.deref.result.now (file_key (seen_place c.args.place.now)) (c.deref.ensures.value ∙ c.in-Ok.ensures)
    (omega (arith, c.loop-i-test.true), c.segment-segment.ensures) c.in-Err.ensures.damaged

pub returns-in-Err-clause-sound : goal.returns-in-Err-clause-sound
returns-in-Err-clause-sound g c =
    untold_among c.in-Err.fault c.args.snapshot.now (c.len-count.result - c.loop-i.i) c.segment-segment.result.now (omega (arith, c.loop-i-test.true), c.segment-segment.ensures) c.in-Err.ensures.sound

pub loop-i-preserved : goal.loop-i-preserved
loop-i-preserved g c = record {
  taken = rw c.in-Ok-Miss.field-0-is at c.in-Ok-Miss.ensures.took ∙ c.loop-i.invariant.taken;
  later = omega (arith, c.loop-i.invariant.later, c.fetch_from.ensures.cause.later);
  calm = c.in-Ok-Miss.ensures.cause.calm ∙ c.loop-i.invariant.calm;
  fits = still_fits c.loop-i.lenses c.fetch_from.new.lenses c.args.snapshot.now (c.len-count.result - c.loop-i.i) c.segment-segment.result.now c.loop-i.invariant.fits (omega (arith, c.loop-i-test.true), c.segment-segment.ensures) c.fetch_from.ensures.kept;
  those = λ those. still_those c.loop-i.lenses c.fetch_from.new.lenses c.args.snapshot.now (c.len-count.result - c.loop-i.i) c.segment-segment.result.now (c.loop-i.invariant.those those) (omega (arith, c.loop-i-test.true), c.segment-segment.ensures) c.fetch_from.ensures.kept;
  lack = λ those. lack_more c.args.snapshot.now c.deref.result.now c.in-Ok.key.items (c.len-count.result - c.loop-i.i) (c.len-count.result - (c.loop-i.i + 1)) c.segment-segment.result.now c.deref.ensures.value (omega arith) (omega (arith, c.loop-i-test.true), c.segment-segment.ensures)
      (rw c.in-Ok-Miss.field-0-is at c.in-Ok-Miss.ensures.says (those_at c.loop-i.lenses c.args.snapshot.now (c.len-count.result - c.loop-i.i) c.segment-segment.result.now (c.loop-i.invariant.those those) (omega (arith, c.loop-i-test.true), c.segment-segment.ensures))) (c.loop-i.invariant.lack those);
  none = λ t told.
      let number : ℕ = c.len-count.result - c.loop-i.i in
      let above : newest (drop number t) c.deref.result.now ≡ None = ap (newest (drop number t)) c.deref.ensures.value ∙ c.loop-i.invariant.none t told in
      let next : c.len-count.result - (c.loop-i.i + 1) ≡ number - 1 = omega arith in
      let missed = missed_here c.args.snapshot.now t number c.segment-segment.result.now c.deref.result.now (g.K.Sink.taken c.loop-i.sink) (g.K.Sink.taken c.fetch_from.new.sink) told (omega (arith, c.loop-i-test.true), c.segment-segment.ensures) above
      (rw c.in-Ok-Miss.field-0-is at c.in-Ok-Miss.ensures.answer) in
      ap (λ (n : ℕ). newest (drop n t) c.in-Ok.key.items) next ∙ (ap (newest (drop (number - 1) t)) (sym c.deref.ensures.value) ∙ missed);
}

pub returns-in-Ok-Found-clause-says : goal.returns-in-Ok-Found-clause-says
returns-in-Ok-Found-clause-says g c = λ those.
    all_found c.args.snapshot.now (c.len-count.result - c.loop-i.i) c.segment-segment.result.now c.deref.result.now c.in-Ok.key.items (file_key (seen_place c.args.place.now)) c.in-Ok-Found.len c.deref.ensures.value c.in-Ok.ensures (omega (arith, c.loop-i-test.true), c.segment-segment.ensures)
    (rw c.in-Ok-Found.field-0-is at c.in-Ok-Found.ensures.says (those_at c.loop-i.lenses c.args.snapshot.now (c.len-count.result - c.loop-i.i) c.segment-segment.result.now (c.loop-i.invariant.those those) (omega (arith, c.loop-i-test.true), c.segment-segment.ensures))) (c.loop-i.invariant.lack those)

pub loop-i-init : goal.loop-i-init
loop-i-init g c =
    let long : length c.args.snapshot.now ≤ c.len-count.result - 0 = omega (arith, c.len-count.ensures.count) in
    record {
      taken = refl;
      later = omega arith;
      calm = refl;
      fits = c.requires.fits;
      those = λ those. those;
      lack = λ those. lack_at_end c.args.snapshot.now c.in-Ok.key.items (c.len-count.result - 0) long;
      none = λ t told. none_at_end (map listing c.args.snapshot.now) t c.in-Ok.key.items (c.len-count.result - 0) told (omega (arith, long, length-map c.args.snapshot.now listing));
    }
