use Rattle.std.proofs.Common.{rules, ◌∙◌, ◌≤◌, ℕ, List, map, length, Option, ap, subst, arith}
use Rattle.std.specs.Prelude.{slice_set}
use Rattle.fd_entries.specs.declared.batch.Pair.{Pair}
use Rattle.fd_entries.specs.Batches.{newest}
use Rattle.fd_schema.specs.Rules.{file_key}
use Rattle.fd_schema.specs.Reading.{seen_place}
use Rattle.fd_segment.specs.Held.{Standing}
use Rattle.fd_dataset.specs.Listed.{listing}
use Rattle.fd_retriever.specs.declared.fault.Got.TheVariants.{Found, Miss}
use Rattle.fd_retriever.specs.Answers.{AllSay, IsAnswer, Tells, TookFront}
use Rattle.fd_overlay.proofs.Nearest.{Lacks, all_nearer, damaged_here, fetched_at, front_here, found_here, lacks_missed, missed_all, one_nearer, put_back, untold_here}
use Rattle.fd_overlay.proofs.over.Over.fetch.Goals as goal

pub returns-in-Ok-Found-clause-answer : goal.returns-in-Ok-Found-clause-answer
returns-in-Ok-Found-clause-answer g c =
    let key = file_key (seen_place c.args.place.now) in
    let at = fetched_at c.args.self.now c.loop-i.self-inside.layers.items c.loop-i.i c.index_mut.result.now c.loop-i.invariant.same (search rules) (search rules) in
    let begun = subst (λ (o : Option (List ℕ)). (t : List (List Pair)) → Tells (map listing c.index_mut.result.now) t → IsAnswer (newest t key) o (g.K.Sink.taken c.fetch.new.sink) (Found c.in-Ok-Found.len)) c.loop-i.invariant.taken (rw c.in-Ok-Found.field-0-is at c.in-Ok-Found.ensures.answer) in
    found_here c.args.self.now c.loop-i.i c.index_mut.result.now key (g.K.Sink.taken c.args.sink.now) (g.K.Sink.taken c.fetch.new.sink) c.in-Ok-Found.len at c.loop-i.invariant.lacks begun

pub returns-in-Ok-Found-clause-says : goal.returns-in-Ok-Found-clause-says
returns-in-Ok-Found-clause-says g c =
    let at = fetched_at c.args.self.now c.loop-i.self-inside.layers.items c.loop-i.i c.index_mut.result.now c.loop-i.invariant.same (search rules) (search rules) in
    (c.loop-i.i, c.index_mut.result.now, at, (rw c.in-Ok-Found.field-0-is at c.in-Ok-Found.ensures.says, c.loop-i.invariant.say))

pub returns-in-Err-clause-err : goal.returns-in-Err-clause-err
returns-in-Err-clause-err g c =
    let key = file_key (seen_place c.args.place.now) in
    let at = fetched_at c.args.self.now c.loop-i.self-inside.layers.items c.loop-i.i c.index_mut.result.now c.loop-i.invariant.same (search rules) (search rules) in
    let begun = subst (λ (o : Option (List ℕ)). (t : List (List Pair)) → Tells (map listing c.index_mut.result.now) t → TookFront (newest t key) o (g.K.Sink.taken c.fetch.new.sink)) c.loop-i.invariant.taken c.in-Err.ensures.err in
    front_here c.args.self.now c.loop-i.i c.index_mut.result.now key (g.K.Sink.taken c.args.sink.now) (g.K.Sink.taken c.fetch.new.sink) at c.loop-i.invariant.lacks begun

pub returns-in-Err-clause-damaged : goal.returns-in-Err-clause-damaged
returns-in-Err-clause-damaged g c =
    let at = fetched_at c.args.self.now c.loop-i.self-inside.layers.items c.loop-i.i c.index_mut.result.now c.loop-i.invariant.same (search rules) (search rules) in
    damaged_here c.in-Err.fault c.args.self.now c.loop-i.i c.index_mut.result.now (file_key (seen_place c.args.place.now)) at c.in-Err.ensures.damaged

pub returns-in-Err-clause-sound : goal.returns-in-Err-clause-sound
returns-in-Err-clause-sound g c =
    let at = fetched_at c.args.self.now c.loop-i.self-inside.layers.items c.loop-i.i c.index_mut.result.now c.loop-i.invariant.same (search rules) (search rules) in
    untold_here c.in-Err.fault c.args.self.now c.loop-i.i c.index_mut.result.now at c.in-Err.ensures.sound

pub loop-i-preserved : goal.loop-i-preserved
loop-i-preserved g c =
    let key = file_key (seen_place c.args.place.now) in
    let at = fetched_at c.args.self.now c.loop-i.self-inside.layers.items c.loop-i.i c.index_mut.result.now c.loop-i.invariant.same (search rules) (search rules) in
    record {
      same = ap (λ (x : List Standing). slice_set c.loop-i.self-inside.layers.items c.loop-i.i x) c.fetch.ensures.same ∙ (put_back c.loop-i.self-inside.layers.items c.loop-i.i c.index_mut.result.now (search rules) ∙ c.loop-i.invariant.same);
      taken = rw c.in-Ok-Miss.field-0-is at c.in-Ok-Miss.ensures.took ∙ c.loop-i.invariant.taken;
      calm = c.in-Ok-Miss.ensures.cause.calm ∙ c.loop-i.invariant.calm;
      lacks = one_nearer c.args.self.now c.loop-i.i c.index_mut.result.now (Lacks key) at
          (lacks_missed c.index_mut.result.now key (g.K.Sink.taken c.loop-i.sink) (g.K.Sink.taken c.fetch.new.sink) (rw c.in-Ok-Miss.field-0-is at c.in-Ok-Miss.ensures.answer)) c.loop-i.invariant.lacks;
      say = one_nearer c.args.self.now c.loop-i.i c.index_mut.result.now (λ ss. AllSay ss key Miss) at (rw c.in-Ok-Miss.field-0-is at c.in-Ok-Miss.ensures.says) c.loop-i.invariant.say;
    }

pub returns-clause-answer : goal.returns-clause-answer
returns-clause-answer g c =
    let key = file_key (seen_place c.args.place.now) in
    let all : length c.args.self.now ≤ c.loop-i.i = omega (arith, c.loop-i-test.false, c.len-i-end.ensures, ap length c.self.view_is) in
    missed_all c.args.self.now key (g.K.Sink.taken c.args.sink.now) (g.K.Sink.taken c.loop-i.sink) (all_nearer c.args.self.now c.loop-i.i (Lacks key) all c.loop-i.invariant.lacks) c.loop-i.invariant.taken

pub returns-clause-says : goal.returns-clause-says
returns-clause-says g c =
    let key = file_key (seen_place c.args.place.now) in
    let all : length c.args.self.now ≤ c.loop-i.i = omega (arith, c.loop-i-test.false, c.len-i-end.ensures, ap length c.self.view_is) in
    all_nearer c.args.self.now c.loop-i.i (λ ss. AllSay ss key Miss) all c.loop-i.invariant.say
