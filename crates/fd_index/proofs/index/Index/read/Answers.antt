use Rattle.std.proofs.Common.{◌<◌, ◌^◌, subst}
use Rattle.std.proofs.lemmas.List.{length-map}
use Rattle.fd_index.specs.Pages.{IsIndex}
use Rattle.fd_index.specs.StoredRecords.{record_of, records_of}
use Rattle.fd_index.proofs.FirstFault.{refuses_at_first}
use Rattle.fd_index.proofs.Spelled.{one_index, refuses, spelled}
use Rattle.fd_index.proofs.index.Index.read.Goals as goal

pub invariant_of-result : goal.invariant_of-result
invariant_of-result c =
    let rs = records_of c.in-Ok.records.items in
    let index : IsIndex rs c.args.bytes.now = spelled rs c.args.bytes.now (record { each = λ i. (c.type_inv.bytes i).fits }) c.in-Ok.ensures in
    record { rising = index.rising; few = subst (λ n. n < 2 ^ 32) (length-map c.in-Ok.records.items record_of) index.few }

pub returns-in-Ok-clause-index : goal.returns-in-Ok-clause-index
returns-in-Ok-clause-index c = spelled (records_of c.in-Ok.records.items) c.args.bytes.now (record { each = λ i. (c.type_inv.bytes i).fits }) c.in-Ok.ensures

pub returns-in-Ok-clause-same : goal.returns-in-Ok-clause-same
returns-in-Ok-clause-same c = λ ss index. one_index (records_of c.in-Ok.records.items) ss c.args.bytes.now c.in-Ok.ensures index

pub returns-in-Err-clause-refused : goal.returns-in-Err-clause-refused
returns-in-Err-clause-refused c = refuses c.in-Err.fault c.args.bytes.now c.in-Err.ensures

pub returns-in-Err-clause-place : goal.returns-in-Err-clause-place
returns-in-Err-clause-place c = refuses_at_first c.in-Err.fault c.args.bytes.now (record { each = λ i. (c.type_inv.bytes i).fits }) c.in-Err.ensures
