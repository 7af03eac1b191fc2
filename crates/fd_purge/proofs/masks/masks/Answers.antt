use Rattle.std.proofs.Common.{rules, ◌≡◌, ◌∙◌, ◌-◌, ◌<◌, ◌≤◌, Some, option_map, length, slice_get, arith, ap, refl, sym, List, ℕ}
use Rattle.std.specs.Arc.{arc_value}
use Rattle.std.specs.List.{list_any}
use Rattle.std.proofs.lemmas.List.{length-map}
use Rattle.std.proofs.lemmas.Option.{slice_get-map, slice_get_read}
use Rattle.fd_segment.specs.Shared.{standings}
use Rattle.fd_purge.specs.Kept.{masks, occurs}
use Rattle.fd_purge.specs.Reads.{AreRead}
use Rattle.fd_purge.proofs.DivideLemmas.{among_bad, known_next, masks_next, read_length}
use Rattle.fd_purge.proofs.KeyLemmas.{at_key, none_left}
use Rattle.fd_purge.proofs.masks.masks.Goals as goal

pub loop-left-init : goal.loop-left-init
loop-left-init g c =
    let arcs = c.args.segments.now in
    let few : (kss : List (List (List ℕ))) → AreRead (standings arcs) kss → length kss ≤ length arcs = λ kss read. omega (arith, read_length (standings arcs) kss read, length-map arcs arc_value) in
    let long : length c.in-Ok.masked.items ≡ length arcs = search rules in
    record {
      few = omega arith;
      long = long;
      known = λ kss read key. ap (list_any (at_key key)) c.new-known.ensures.empty ∙ sym (ap (λ x. occurs x key) (none_left kss (length arcs) (few kss read)));
      masks = λ kss read. none_left c.in-Ok.masked.items (length arcs) (omega (arith, long)) ∙ sym (ap masks (none_left kss (length arcs) (few kss read)));
    }

pub returns-in_err-masked-clause-damaged : goal.returns-in_err-masked-clause-damaged
returns-in_err-masked-clause-damaged g c =
    let n = c.loop-left.left - 1 in
    let arcs = c.args.segments.now in
    let arc = c.index-segments-left.result in
    let at : slice_get arcs n ≡ Some arc = slice_get_read arcs (length arcs) n arc refl (omega (arith, c.loop-left.invariant.few, c.loop-left-test.true)) c.index-segments-left.is in
    let seg : arc_value arc ≡ c.deref.result.now = search rules in
    let listed : slice_get (standings arcs) n ≡ Some c.deref.result.now = slice_get-map arc_value arcs n ∙ ap (option_map arc_value) at ∙ ap Some seg in
    let bad = among_bad _ (standings arcs) n c.deref.result.now listed c.in_err-masked.ensures.damaged in
    search rules

pub loop-left-preserved : goal.loop-left-preserved
loop-left-preserved g c =
    let n = c.loop-left.left - 1 in
    let arcs = c.args.segments.now in
    let arc = c.index-segments-left.result in
    let lt : n < length arcs = omega (arith, c.loop-left.invariant.few, c.loop-left-test.true) in
    let at : slice_get arcs n ≡ Some arc = slice_get_read arcs (length arcs) n arc refl lt c.index-segments-left.is in
    let seg : arc_value arc ≡ c.deref.result.now = search rules in
    let listed : slice_get (standings arcs) n ≡ Some c.deref.result.now = slice_get-map arc_value arcs n ∙ ap (option_map arc_value) at ∙ ap Some seg in
    record {
      few = omega (arith, c.loop-left.invariant.few);
      long = search rules;
      known = λ kss read. known_next (standings arcs) kss n c.loop-left.left c.deref.result.now c.loop-left.known c.is_masked.new.known read (omega (arith, c.loop-left-test.true)) listed c.in_ok-masked.ensures.known (c.loop-left.invariant.known kss read);
      masks = λ kss read.
          masks_next (standings arcs) kss n c.loop-left.left c.deref.result.now c.loop-left.known c.loop-left.masked.items c.in_ok-masked.field-0 read (omega (arith, c.loop-left-test.true)) listed (omega (arith, c.loop-left.invariant.long, lt))
          c.in_ok-masked.ensures.masked (c.loop-left.invariant.known kss read) (c.loop-left.invariant.masks kss read);
    }
