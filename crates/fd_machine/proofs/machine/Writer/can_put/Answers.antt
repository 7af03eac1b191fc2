use Rattle.std.proofs.Common.{◌+◌, ◌-◌, ◌^◌, ℕ, nat_lt, length, sym, ◌∙◌, ap, arith}
use Rattle.fd_entries.specs.declared.batch.Pair.{Pair}
use Rattle.fd_machine.specs.declared.machine.Phase.TheVariants.{Filling}
use Rattle.fd_entries.specs.Batches.{distinct, rows, total}
use Rattle.fd_machine.specs.Machine.{is_in_phase}
use Rattle.fd_entries.specs.Batches.{with_pair}
use Rattle.fd_entries.proofs.BatchSums.{rows_length_push, total_push}
use Rattle.fd_machine.proofs.PutSteps.{last_test, many_bytes, rows_test}
use Rattle.fd_machine.proofs.machine.Writer.can_put.Goals as goal

pub returns-then-bytes-total_of : goal.returns-then-bytes-total_of
returns-then-bytes-total_of c =
    let pair : Pair = record { key = c.args.key.now; bytes = c.args.bytes.now } in
    let more = with_pair c.args.self.now.pairs c.args.key.now c.args.bytes.now in
    let sum = total_push c.args.self.now.pairs pair in
    many_bytes (is_in_phase c.args.self.now Filling) c.args.self.now.id (length c.args.key.now) (distinct more) (total more) (length (rows more)) (omega (arith, sum, c.total_of.ensures, c.if-bytes-total_of.true))

pub returns : goal.returns
returns c =
    let pair : Pair = record { key = c.args.key.now; bytes = c.args.bytes.now } in
    let more = with_pair c.args.self.now.pairs c.args.key.now c.args.bytes.now in
    let sum = total_push c.args.self.now.pairs pair in
    let count = c.distinct_with.ensures c.args.bytes.now in
    ap (λ (n : ℕ). nat_lt (18 + length c.args.key.now) (2 ^ 63 - n)) c.rows_len.ensures
    ∙ rows_test (length (rows c.args.self.now.pairs)) (length c.args.key.now) (length (rows more)) c.requires.index (rows_length_push c.args.self.now.pairs pair)
    ∙ last_test (is_in_phase c.args.self.now Filling) c.args.self.now.id (length c.args.key.now) (distinct more) (total more) (length (rows more)) (sym c.is_in.ensures ∙ c.if-not-is_in.false)
    (omega arith) (omega arith) (omega arith) (omega (arith, count, c.if-distinct_with-gt65536.false)) (omega (arith, sum, c.total_of.ensures, c.if-bytes-total_of.false, c.requires.sum))
