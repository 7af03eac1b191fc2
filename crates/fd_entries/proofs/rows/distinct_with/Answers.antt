use Rattle.std.proofs.Common.{◌+◌, if◌then◌else◌, Bool, sym, ◌∙◌, ap}
use Rattle.fd_entries.specs.Batches.{distinct}
use Rattle.fd_entries.proofs.BatchSums.{distinct_push}
use Rattle.fd_entries.proofs.rows.distinct_with.Goals as goal

pub returns-then-has_key_from : goal.returns-then-has_key_from
returns-then-has_key_from c = λ bytes.
    let push = distinct_push c.args.batch.now (record { key = c.args.key.now; bytes = bytes }) in
    let test = sym c.has_key_from.ensures ∙ c.if-has_key_from.true in
    c.distinct_of-count.ensures ∙ sym (push ∙ ap (λ (b : Bool). if b then distinct c.args.batch.now else distinct c.args.batch.now + 1) test)

pub returns-else-has_key_from : goal.returns-else-has_key_from
returns-else-has_key_from c = λ bytes.
    let push = distinct_push c.args.batch.now (record { key = c.args.key.now; bytes = bytes }) in
    let test = sym c.has_key_from.ensures ∙ c.if-has_key_from.false in
    ap (λ n. n + 1) c.distinct_of-count.ensures ∙ sym (push ∙ ap (λ (b : Bool). if b then distinct c.args.batch.now else distinct c.args.batch.now + 1) test)
