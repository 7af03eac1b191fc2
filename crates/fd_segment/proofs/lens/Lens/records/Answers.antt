use Rattle.std.proofs.Common.{refl, rules}
use Rattle.std.specs.Prelude.{IfOk}
use Rattle.fd_segment.specs.Held.{IsIndexOf}
use Rattle.fd_segment.proofs.Looking.{all_of_ok, batch_index_ok}
use Rattle.fd_segment.proofs.lens.Lens.records.Goals as goal

pub returns-clause-batch : goal.returns-clause-batch
returns-clause-batch g c =
    let read : IfOk c.read_index.result (IsIndexOf c.args.self.now.files.entry c.args.self.now.files.index) = search rules in
    batch_index_ok _ c.read_index.result c.args.self.now c.args.self.now refl read

pub returns-clause-all : goal.returns-clause-all
returns-clause-all g c =
    let read : IfOk c.read_index.result (IsIndexOf c.args.self.now.files.entry c.args.self.now.files.index) = search rules in
    all_of_ok _ c.read_index.result _ c.args.self.now c.self.inside.index.len c.self.view_is c.self.invariant.0 read c.read_all.ensures.whole
