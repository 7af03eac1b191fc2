use Rattle.std.proofs.Common.{rules, arith, ◌≡◌, ◌∙◌, map, length}
use Rattle.std.specs.Prelude.{IfSome}
use Rattle.std.specs.Vec.{vec_capacity}
use Rattle.std.proofs.lemmas.List.{length-map}
use Rattle.std.proofs.lemmas.Slice.Zip.{AllZip-long}
use Rattle.fd_finding.specs.Spots.{AllSayOf, IsAnswer, IsWithin, place_key}
use Rattle.fd_finding.specs.Searching.{SoFar}
use Rattle.fd_finding.proofs.Jobs.{all_right, found_all, refused, room_for_all, zip_as}
use Rattle.fd_finding.proofs.Only.{the_only}
use Rattle.fd_finding.proofs.Spots.{all_say, is_answer, is_within}
use Rattle.fd_finding.proofs.finding.find_all.Goals as goal

pub spots_of-spots-requires-clause-room : goal.spots_of-spots-requires-clause-room
spots_of-spots-requires-clause-room g c =
    room_for_all c.args.snapshot.now c.in-Ok-deal.jobs.items c.as_mut_slice.result.now c.run_all.new.jobs c.deref.result.now c.in-Ok-deal.jobs.len (vec_capacity c.in-Ok.spots) (length c.args.places.now) (map place_key c.args.places.now) c.as_mut_slice.ensures.value (search rules) c.run_all.ensures.long c.run_all.ensures.ran c.in-Ok-deal.ensures.keys c.deref.ensures.value
    (length-map c.args.places.now place_key) c.in-Ok.ensures.capacity

pub returns-in-Some-clause-damaged : goal.returns-in-Some-clause-damaged
returns-in-Some-clause-damaged g c =
    (refused c.args.snapshot.now c.in-Ok-deal.jobs.items c.as_mut_slice.result.now c.run_all.new.jobs c.in-Ok-deal.jobs.len (map place_key c.args.places.now) c.in-Some.fault c.as_mut_slice.ensures.value (search rules) c.run_all.ensures.long c.run_all.ensures.ran c.in-Ok-deal.ensures.keys c.in-Some.ensures).0

pub returns-in-Some-clause-sound : goal.returns-in-Some-clause-sound
returns-in-Some-clause-sound g c =
    (refused c.args.snapshot.now c.in-Ok-deal.jobs.items c.as_mut_slice.result.now c.run_all.new.jobs c.in-Ok-deal.jobs.len (map place_key c.args.places.now) c.in-Some.fault c.as_mut_slice.ensures.value (search rules) c.run_all.ensures.long c.run_all.ensures.ran c.in-Ok-deal.ensures.keys c.in-Some.ensures).1

pub returns-in-None-clause-count : goal.returns-in-None-clause-count
returns-in-None-clause-count g c =
    let zip = found_all c.args.snapshot.now c.in-Ok-deal.jobs.items c.as_mut_slice.result.now c.run_all.new.jobs c.deref.result.now c.in-Ok-deal.jobs.len (map place_key c.args.places.now) c.spots_of-spots.result.items c.as_mut_slice.ensures.value (search rules) c.run_all.ensures.long c.run_all.ensures.ran c.in-Ok-deal.ensures.keys
    c.deref.ensures.value c.spots_of-spots.ensures c.in-None.ensures in
    AllZip-long (SoFar c.args.snapshot.now 0) (map place_key c.args.places.now) c.spots_of-spots.result.items zip ∙ length-map c.args.places.now place_key

pub returns-in-None-clause-answer : goal.returns-in-None-clause-answer
returns-in-None-clause-answer g c =
    let zip = found_all c.args.snapshot.now c.in-Ok-deal.jobs.items c.as_mut_slice.result.now c.run_all.new.jobs c.deref.result.now c.in-Ok-deal.jobs.len (map place_key c.args.places.now) c.spots_of-spots.result.items c.as_mut_slice.ensures.value (search rules) c.run_all.ensures.long c.run_all.ensures.ran c.in-Ok-deal.ensures.keys
    c.deref.ensures.value c.spots_of-spots.ensures c.in-None.ensures in
    λ t told. zip_as (SoFar c.args.snapshot.now 0) (IsAnswer c.args.snapshot.now t) (map place_key c.args.places.now) c.spots_of-spots.result.items (λ key o found. is_answer c.args.snapshot.now t key o told found) zip

pub returns-in-None-clause-says : goal.returns-in-None-clause-says
returns-in-None-clause-says g c =
    let zip = found_all c.args.snapshot.now c.in-Ok-deal.jobs.items c.as_mut_slice.result.now c.run_all.new.jobs c.deref.result.now c.in-Ok-deal.jobs.len (map place_key c.args.places.now) c.spots_of-spots.result.items c.as_mut_slice.ensures.value (search rules) c.run_all.ensures.long c.run_all.ensures.ran c.in-Ok-deal.ensures.keys
    c.deref.ensures.value c.spots_of-spots.ensures c.in-None.ensures in
    zip_as (SoFar c.args.snapshot.now 0) (AllSayOf c.args.snapshot.now) (map place_key c.args.places.now) c.spots_of-spots.result.items (all_say c.args.snapshot.now) zip

pub returns-in-None-clause-only : goal.returns-in-None-clause-only
returns-in-None-clause-only g c =
    let zip = found_all c.args.snapshot.now c.in-Ok-deal.jobs.items c.as_mut_slice.result.now c.run_all.new.jobs c.deref.result.now c.in-Ok-deal.jobs.len (map place_key c.args.places.now) c.spots_of-spots.result.items c.as_mut_slice.ensures.value (search rules) c.run_all.ensures.long c.run_all.ensures.ran c.in-Ok-deal.ensures.keys
    c.deref.ensures.value c.spots_of-spots.ensures c.in-None.ensures in
    the_only c.args.snapshot.now (map place_key c.args.places.now) c.spots_of-spots.result.items (zip_as (SoFar c.args.snapshot.now 0) (AllSayOf c.args.snapshot.now) (map place_key c.args.places.now) c.spots_of-spots.result.items (all_say c.args.snapshot.now) zip)

pub returns-in-None-clause-within : goal.returns-in-None-clause-within
returns-in-None-clause-within g c =
    let zip = found_all c.args.snapshot.now c.in-Ok-deal.jobs.items c.as_mut_slice.result.now c.run_all.new.jobs c.deref.result.now c.in-Ok-deal.jobs.len (map place_key c.args.places.now) c.spots_of-spots.result.items c.as_mut_slice.ensures.value (search rules) c.run_all.ensures.long c.run_all.ensures.ran c.in-Ok-deal.ensures.keys
    c.deref.ensures.value c.spots_of-spots.ensures c.in-None.ensures in
    all_right (SoFar c.args.snapshot.now 0) (λ o. IfSome o (IsWithin c.args.snapshot.now)) (map place_key c.args.places.now) c.spots_of-spots.result.items (is_within c.args.snapshot.now) zip
