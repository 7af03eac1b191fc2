use Rattle.std.proofs.Common.{◌≡◌, ◌+◌, ◌-◌, ◌<◌, ◌&&◌, Bool, false, true, ℕ, nat_le, length, drop, sym, ◌∙◌, ap, arith}
use Rattle.fd_machine.specs.Machine.{has_image, have_images}
use Rattle.fd_core.proofs.CrashSteps.{images_end, images_short, images_step, shorter}
use Rattle.fd_machine.proofs.PutSteps.{something}
use Rattle.fd_core.proofs.crash_steps.have_images.Goals as goal

pub returns-then-i-len : goal.returns-then-i-len
returns-then-i-len c =
    let lt : c.loop-i.i < length c.args.files.now = omega (arith, c.loop-i.invariant.end, c.loop-i-test.true) in
    let found = something c.args.files.now c.loop-i.i lt in
    sym (images_short c.args.files.now c.args.left.now c.loop-i.i found.0 found.1 (omega (arith, c.if-i-len.true, c.len.ensures))) ∙ c.loop-i.invariant.so_far

pub returns-then-not-has_image : goal.returns-then-not-has_image
returns-then-not-has_image c =
    let rest = have_images (drop (c.loop-i.i + 1) c.args.files.now) (drop (c.loop-i.i + 1 + 1) c.args.left.now) in
    let test : has_image c.at.result.now.file c.at-in-loop-i.result.now ≡ false = ap (has_image c.at.result.now.file) (sym c.as_slice.ensures) ∙ sym c.has_image.ensures ∙ c.if-not-has_image.true in
    sym (ap (λ (b : Bool). b && rest) test) ∙ sym (images_step c.args.files.now c.args.left.now c.loop-i.i c.at.result.now c.at-in-loop-i.result.now c.at.ensures c.at-in-loop-i.ensures) ∙ c.loop-i.invariant.so_far

pub loop-i-preserved : goal.loop-i-preserved
loop-i-preserved c =
    let rest = have_images (drop (c.loop-i.i + 1) c.args.files.now) (drop (c.loop-i.i + 1 + 1) c.args.left.now) in
    let test : has_image c.at.result.now.file c.at-in-loop-i.result.now ≡ true = ap (has_image c.at.result.now.file) (sym c.as_slice.ensures) ∙ sym c.has_image.ensures ∙ c.if-not-has_image.false in
    record {
      end = c.loop-i.invariant.end;
      so_far = sym (ap (λ (b : Bool). b && rest) test) ∙ sym (images_step c.args.files.now c.args.left.now c.loop-i.i c.at.result.now c.at-in-loop-i.result.now c.at.ensures c.at-in-loop-i.ensures) ∙ c.loop-i.invariant.so_far;
    }

pub returns : goal.returns
returns c =
    let end = images_end c.args.files.now c.args.left.now c.loop-i.i (omega (arith, c.loop-i-test.false, c.loop-i.invariant.end)) in
    let at_end : c.loop-i.i ≡ c.len-3.result = omega (arith, c.loop-i-test.false, c.loop-i.auto.i-end, c.loop-i.invariant.end, c.len-3.ensures) in
    ap (λ (n : ℕ). nat_le (n - 1) c.len-3.result) c.len-2.ensures ∙ ap (nat_le (length c.args.left.now - 1)) (sym at_end)
    ∙ sym (shorter (length c.args.left.now) c.loop-i.i c.requires) ∙ sym end ∙ c.loop-i.invariant.so_far
