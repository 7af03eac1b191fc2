use Rattle.std.proofs.Common.{◌≡◌, ◌++◌, length, take, drop}
use Rattle.fd_machine.specs.Machine.{writer_in, put_writer}
use Rattle.fd_machine.specs.declared.machine.Writer.{Writer}
use Rattle.fd_machine.proofs.writers.place.Given as goal

abbrev pub invariant-loop-i : goal.invariant-loop-i
invariant-loop-i l = record {
  same : l.writers ≡ l.fn.writers;
  end : l.i-end ≡ length l.writers;
  passed : (o : Writer) → writer_in (drop l.i l.writers) l.w o ≡ writer_in l.writers l.w o;
  put : (y : Writer) → y.id ≡ l.w → take l.i l.writers ++ put_writer (drop l.i l.writers) y ≡ put_writer l.writers y;
}
