use Rattle.std.proofs.Common.{Some, None, arith}
use Rattle.fd_disk_mem.proofs.NamingLemmas.{number_split}
use Rattle.fd_disk_mem.proofs.naming.likely_end.Goals as goal

pub returns-in_err-writer : goal.returns-in_err-writer
returns-in_err-writer c = λ n w q is. absurd (number_split 45 n.writer _ _ None (omega arith) w c.in_err-writer.ensures.cases is)

pub returns-in_err-seq : goal.returns-in_err-seq
returns-in_err-seq c = λ n w q is.
    let a = number_split 45 n.writer _ _ (Some (c.in_ok-writer.writer, c.in_ok-writer.rest)) (omega arith) w c.in_ok-writer.ensures.cases is in
    absurd (number_split 46 n.seq _ _ None (omega arith) q c.in_err-seq.ensures.cases a.1)

pub returns-in_err-writer-2 : goal.returns-in_err-writer-2
returns-in_err-writer-2 c = λ n w q is.
    let a = number_split 45 n.writer _ _ (Some (c.in_ok-writer.writer, c.in_ok-writer.rest)) (omega arith) w c.in_ok-writer.ensures.cases is in
    absurd (c.in_err-writer-2.ensures n.writer w a.0)

pub returns-in_err-seq-2 : goal.returns-in_err-seq-2
returns-in_err-seq-2 c = λ n w q is.
    let a = number_split 45 n.writer _ _ (Some (c.in_ok-writer.writer, c.in_ok-writer.rest)) (omega arith) w c.in_ok-writer.ensures.cases is in
    let b = number_split 46 n.seq _ _ (Some (c.in_ok-seq.seq, c.in_ok-seq.ending)) (omega arith) q c.in_ok-seq.ensures.cases a.1 in
    absurd (c.in_err-seq-2.ensures n.seq q b.0)

pub returns-in_err-kind : goal.returns-in_err-kind
returns-in_err-kind c = λ n w q is.
    let a = number_split 45 n.writer _ _ (Some (c.in_ok-writer.writer, c.in_ok-writer.rest)) (omega arith) w c.in_ok-writer.ensures.cases is in
    let b = number_split 46 n.seq _ _ (Some (c.in_ok-seq.seq, c.in_ok-seq.ending)) (omega arith) q c.in_ok-seq.ensures.cases a.1 in
    absurd (c.in_err-kind.ensures n.kind b.1)

pub returns : goal.returns
returns c = λ n w q is.
    let a = number_split 45 n.writer _ _ (Some (c.in_ok-writer.writer, c.in_ok-writer.rest)) (omega arith) w c.in_ok-writer.ensures.cases is in
    let b = number_split 46 n.seq _ _ (Some (c.in_ok-seq.seq, c.in_ok-seq.ending)) (omega arith) q c.in_ok-seq.ensures.cases a.1 in
    let writer = c.in_ok-writer-2.ensures n.writer w a.0 in
    let seq = c.in_ok-seq-2.ensures n.seq q b.0 in
    let kind = c.in_ok-kind.ensures n.kind b.1 in
    λ j. record { writer = writer j; seq = seq j; kind = kind j }
