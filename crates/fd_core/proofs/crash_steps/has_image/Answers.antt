use Rattle.std.proofs.Common.{◌≡◌, length, sym, ◌∙◌, ap}
use Rattle.std.proofs.lemmas.Bool.{eqb-true}
use Rattle.fd_entries.specs.Batches.{same_bytes}
use Rattle.fd_entries.proofs.BatchSums.{same_as_eq}
use Rattle.fd_core.proofs.CrashSteps.{settled_test}
use Rattle.fd_core.proofs.crash_steps.has_image.Goals as goal

pub returns-then-is_empty : goal.returns-then-is_empty
returns-then-is_empty c =
    let none : length c.args.file.now.loose ≡ 0 = sym (ap length c.as_slice.ensures) ∙ eqb-true (length c.as_slice.result.now) 0 (sym c.is_empty.ensures ∙ c.if-is_empty.true) in
    c.eq.ensures ∙ sym (same_as_eq c.args.bytes.now c.as_slice-then-is_empty.result.now) ∙ ap (same_bytes c.args.bytes.now) c.as_slice-then-is_empty.ensures
    ∙ sym (settled_test c.args.file.now c.args.bytes.now none)
