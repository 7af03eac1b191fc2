use Rattle.std.proofs.Common.{inl, subst}
use Rattle.fd_segment.specs.Held.{Files}
use Rattle.fd_retriever.specs.Answers.{Says}
use Rattle.fd_retriever.proofs.Keeping.{kept_again, kept_more}
use Rattle.fd_retriever.proofs.looking.fetch_from.Goals as goal

pub returns-clause-kept : goal.returns-clause-kept
returns-clause-kept g c = kept_more c.args.lenses.now c.take.new.self c.fetch_opened.new.lenses c.args.number c.args.segment.now.files c.take.ensures.kept c.fetch_opened.ensures.kept

pub returns-in-Ok-Ok-clause-kept : goal.returns-in-Ok-Ok-clause-kept
returns-in-Ok-Ok-clause-kept g c =
    kept_again c.args.lenses.now c.take.new.self c.keep.new.self c.args.number c.copied.new.lens.files c.in-Some.lens.files c.args.segment.now.files c.copied.ensures.files (inl c.in-Some.ensures.files) c.take.ensures.kept c.keep.ensures

pub returns-in-Err-clause-kept : goal.returns-in-Err-clause-kept
returns-in-Err-clause-kept g c =
    kept_again c.args.lenses.now c.take.new.self c.keep-in-Err.new.self c.args.number c.copied.new.lens.files c.in-Some.lens.files c.args.segment.now.files c.copied.ensures.files (inl c.in-Some.ensures.files) c.take.ensures.kept c.keep-in-Err.ensures

pub returns-in-Ok-Ok-clause-says : goal.returns-in-Ok-Ok-clause-says
returns-in-Ok-Ok-clause-says g c = λ those.
    subst (λ (f : Files). Says f c.args.key.now c.in-Ok-Ok.got) (those c.in-Some.lens.files c.in-Some.ensures.files) (rw c.in-Ok-Ok.field-0-is at c.in-Ok-Ok.ensures.says)
