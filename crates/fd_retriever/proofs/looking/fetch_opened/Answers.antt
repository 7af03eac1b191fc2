use Rattle.std.proofs.Common.{inr}
use Rattle.fd_retriever.proofs.Copying.{bad_index}
use Rattle.fd_retriever.proofs.Keeping.{kept_again}
use Rattle.fd_retriever.proofs.looking.fetch_opened.Goals as goal

pub returns-in-Err-Damaged-clause-sound : goal.returns-in-Err-Damaged-clause-sound
returns-in-Err-Damaged-clause-sound g c = bad_index c.args.segment.now.files c.in-Err-Damaged.damage (rw c.in-Err-Damaged.field-0-is at c.in-Err-Damaged.ensures.damaged)

pub returns-in-Ok-Ok-clause-kept : goal.returns-in-Ok-Ok-clause-kept
returns-in-Ok-Ok-clause-kept g c =
    kept_again c.args.lenses.now c.args.lenses.now c.keep.new.self c.args.number c.copied-answer.new.lens.files c.in-Ok.lens.files c.args.segment.now.files c.copied-answer.ensures.files (inr c.in-Ok.ensures.files) (λ k has. has) c.keep.ensures

pub returns-in-Ok-Err-clause-kept : goal.returns-in-Ok-Err-clause-kept
returns-in-Ok-Err-clause-kept g c =
    kept_again c.args.lenses.now c.args.lenses.now c.keep.new.self c.args.number c.copied-answer.new.lens.files c.in-Ok.lens.files c.args.segment.now.files c.copied-answer.ensures.files (inr c.in-Ok.ensures.files) (λ k has. has) c.keep.ensures

pub returns-in-Err-clause-kept : goal.returns-in-Err-clause-kept
returns-in-Err-clause-kept g c =
    kept_again c.args.lenses.now c.args.lenses.now c.keep.new.self c.args.number c.copied-answer.new.lens.files c.in-Ok.lens.files c.args.segment.now.files c.copied-answer.ensures.files (inr c.in-Ok.ensures.files) (λ k has. has) c.keep.ensures
