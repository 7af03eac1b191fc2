use Rattle.std.proofs.Common.{◌∙◌, ◌++◌, ◌∷◌, [], List, take, arith, ap, sym}
use Rattle.std.proofs.lemmas.List.{take_more}
use Rattle.fd_entries.specs.declared.table.Entry.{Entry}
use Rattle.fd_entries.specs.Table.{header, slots_of}
use Rattle.fd_purge.proofs.table.table_bytes.Goals as goal

pub loop-i-preserved : goal.loop-i-preserved
loop-i-preserved g c = record {
  bytes = c.in_ok-add_entry.ensures (header c.args.dataset.now) (take c.loop-i.i c.args.entries.now) c.loop-i.invariant.bytes
      ∙ sym (ap (λ (l : List Entry). header c.args.dataset.now ++ slots_of l ++ 0 ∷ []) (take_more c.args.entries.now c.loop-i.i _ (omega arith)));
}
