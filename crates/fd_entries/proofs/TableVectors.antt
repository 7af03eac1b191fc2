-- The worked tables, by computation.
use Rattle.std.proofs.Common.{refl}
use Rattle.fd_entries.specs.Examples.{TableExamples}
use Rattle.fd_entries.specs.Table.{listed}

pub examples : TableExamples
unfolding listed
examples = record { bytes = refl; long = refl; lists = refl; founded = refl; torn = refl; other_name = refl; mark = refl; kind = refl; filler = refl; great_writer = refl; no_gate = refl; cut_number = refl; no_body = refl; mixed = refl; lists_mixed = refl; digested_filler = refl; cut_digest = refl; as_kind_1 = refl }
