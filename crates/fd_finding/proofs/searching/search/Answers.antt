use Rattle.std.proofs.Common.{◌≡◌, ◌-◌, ◌+◌, ℕ, All, refl, subst, arith, ◌∙◌}
use Rattle.fd_finding.specs.Searching.{IsSoFar}
use Rattle.fd_finding.proofs.Keys.{all_more, same_keys, so_far_first, untold_among}
use Rattle.fd_finding.proofs.searching.search.Goals as goal

pub loop-i-init : goal.loop-i-init
loop-i-init g c = record {
  long = refl;
  keys = refl;
  so_far = so_far_first c.args.snapshot.now (c.len-count.result - 0) c.args.sought.now (omega (arith, c.len-count.ensures.count)) c.requires.fresh;
}

pub returns-in-Err-clause-sound : goal.returns-in-Err-clause-sound
returns-in-Err-clause-sound g c = untold_among c.in-Err.fault c.args.snapshot.now (c.len-count.result - c.loop-i.i) c.segment.result.now (omega (arith, c.loop-i-test.true), c.segment.ensures) c.in-Err.ensures.sound

pub loop-i-preserved : goal.loop-i-preserved
loop-i-preserved g c =
    let number : ℕ = c.len-count.result - c.loop-i.i in
    let looked = c.in-Ok.ensures.looked in
    let next : number - 1 ≡ c.len-count.result - (c.loop-i.i + 1) = omega arith in
    let more = all_more c.args.snapshot.now number c.segment.result.now c.loop-i.sought c.find_in.new.sought (omega (arith, c.loop-i-test.true), c.segment.ensures) looked c.loop-i.invariant.so_far in
    record {
      long = looked.long ∙ c.loop-i.invariant.long;
      keys = same_keys c.segment.result.now.files number c.loop-i.sought c.find_in.new.sought looked ∙ c.loop-i.invariant.keys;
      so_far = subst (λ (n : ℕ). All (IsSoFar c.args.snapshot.now n) c.find_in.new.sought) next more;
    }
