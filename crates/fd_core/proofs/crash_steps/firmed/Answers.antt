use Rattle.std.proofs.Common.{◌≡◌, ◌+◌, ◌++◌, [], ◌∷◌, ◌&&◌, true, List, drop, sym, ◌∙◌, ap, arith, append_assoc}
use Rattle.fd_disk.specs.declared.file.File.{File}
use Rattle.fd_disk.specs.Images.{firm_file}
use Rattle.fd_machine.specs.declared.machine.NamedFile.{NamedFile}
use Rattle.fd_machine.specs.Machine.{firmed, has_image, have_images}
use Rattle.fd_core.proofs.CrashSteps.{firmed_step, images_step, left_for}
use Rattle.fd_entries.proofs.BatchSums.{both}
use Rattle.fd_core.proofs.crash_steps.firmed.Goals as goal

pub at-requires : goal.at-requires
at-requires c = left_for c.args.files.now c.args.left.now c.loop-i.i (omega (arith, c.loop-i.invariant.end, c.loop-i-test.true)) c.loop-i.invariant.left

pub loop-i-preserved : goal.loop-i-preserved
loop-i-preserved c =
    let rest = have_images (drop (c.loop-i.i + 1) c.args.files.now) (drop (c.loop-i.i + 1 + 1) c.args.left.now) in
    let more = firmed (drop (c.loop-i.i + 1) c.args.files.now) (drop (c.loop-i.i + 1 + 1) c.args.left.now) in
    let f = c.at-in-loop-i.result.now in
    let x = c.at.result.now in
    let have : (has_image f.file x && rest) ≡ true = sym (images_step c.args.files.now c.args.left.now c.loop-i.i f x c.at-in-loop-i.ensures c.at.ensures) ∙ c.loop-i.invariant.left in
    let one : NamedFile = record { name = f.name; file = firm_file x } in
    record {
      end = c.loop-i.invariant.end;
      left = (both (has_image f.file x) rest have).1;
      so_far = ap (λ (l : List NamedFile). l ++ more) (c.in_ok-push.ensures.ok ∙ ap (λ (g : File). c.loop-i.firm ++ record { name = f.name; file = g } ∷ []) c.in_ok-file.ensures)
          ∙ append_assoc c.loop-i.firm (one ∷ []) more
          ∙ ap (λ (l : List NamedFile). c.loop-i.firm ++ l) (sym (firmed_step c.args.files.now c.args.left.now c.loop-i.i f x c.at-in-loop-i.ensures c.at.ensures))
          ∙ c.loop-i.invariant.so_far;
    }
