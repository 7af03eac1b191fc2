use Rattle.std.proofs.Common.{◌-◌, refl, ap, sym, ◌∙◌, length, slice_get, option_map}
use Rattle.std.specs.Ordering.{nat_cmp, is_lt, is_some_and}
use Rattle.std.specs.Cmp.Lexicographic.{slice_cmp, lists_agrees}
use Rattle.std.proofs.lemmas.List.{length-map}
use Rattle.std.proofs.lemmas.Option.{slice_get-map}
use Rattle.fd_index.specs.StoredRecords.{record_of, records_of}
use Rattle.fd_index.proofs.ReadTurns.{above_last}
use Rattle.fd_index.proofs.reader.is_above.Goals as goal

pub returns-in-Some : goal.returns-in-Some
returns-in-Some c =
    let ss = c.args.records.now in
    let last = c.in-Some.last.now in
    c.lt.ensures ∙ ap (is_some_and is_lt) (lists_agrees (λ x y. refl) c.as_slice.result.now c.args.key.now) ∙ ap (λ k. is_lt (slice_cmp nat_cmp k c.args.key.now)) c.as_slice.ensures.value
    ∙ sym (above_last (records_of ss) (record_of last) c.args.key.now
    (ap (λ n. slice_get (records_of ss) (n - 1)) (length-map ss record_of) ∙ slice_get-map record_of ss (length ss - 1) ∙ ap (option_map record_of) (sym c.in-Some.ensures.value)))
