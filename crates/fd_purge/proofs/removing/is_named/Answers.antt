use Rattle.std.proofs.Common.{◌∙◌, sym, arith}
use Rattle.fd_disk.specs.Names.{name_of}
use Rattle.fd_purge.proofs.CarryLemmas.{named_at, unnamed_all, unnamed_next}
use Rattle.fd_purge.proofs.removing.is_named.Goals as goal

pub returns-then-has_files_of : goal.returns-then-has_files_of
returns-then-has_files_of c = λ kind.
    sym (named_at c.args.entries.now c.loop-i.i _ (name_of c.args.entry.now.writer c.args.entry.now.seq kind) (omega arith) (sym (c.has_files_of.ensures kind) ∙ c.if-has_files_of.true))

pub loop-i-preserved : goal.loop-i-preserved
loop-i-preserved c = record {
  none = λ kind. unnamed_next c.args.entries.now c.loop-i.i _ (name_of c.args.entry.now.writer c.args.entry.now.seq kind) (omega arith) (c.loop-i.invariant.none kind) (sym (c.has_files_of.ensures kind) ∙ c.if-has_files_of.false);
}

pub returns : goal.returns
returns c = λ kind. sym (unnamed_all c.args.entries.now c.loop-i.i (name_of c.args.entry.now.writer c.args.entry.now.seq kind) (omega arith) (c.loop-i.invariant.none kind))
