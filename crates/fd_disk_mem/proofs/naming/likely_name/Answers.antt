use Rattle.std.proofs.Common.{Some, None, ◌∙◌, arith}
use Rattle.fd_disk_mem.specs.Naming.{end_text}
use Rattle.fd_disk_mem.proofs.NamingLemmas.{file_text_is, lacks_slash, last_split}
use Rattle.fd_disk_mem.proofs.naming.likely_name.Goals as goal

pub returns-in_err-dataset : goal.returns-in_err-dataset
returns-in_err-dataset c = λ dataset n w q is. absurd (last_split 47 c.args.file.now dataset (end_text n) (omega arith) (is ∙ file_text_is dataset n) (lacks_slash n w q) None c.in_err-dataset.ensures.cases)

pub returns-in_err-name : goal.returns-in_err-name
returns-in_err-name c = λ dataset n w q is.
    let a = last_split 47 c.args.file.now dataset (end_text n) (omega arith) (is ∙ file_text_is dataset n) (lacks_slash n w q) (Some (c.in_ok-dataset.dataset, c.in_ok-dataset.rest)) c.in_ok-dataset.ensures.cases in
    absurd (c.in_err-name.ensures n w q a.1)

pub returns : goal.returns
returns c = λ dataset n w q is.
    let a = last_split 47 c.args.file.now dataset (end_text n) (omega arith) (is ∙ file_text_is dataset n) (lacks_slash n w q) (Some (c.in_ok-dataset.dataset, c.in_ok-dataset.rest)) c.in_ok-dataset.ensures.cases in
    (a.0, c.in_ok-name.ensures n w q a.1)
