use Rattle.std.proofs.Common.{◌≡◌, ◌<◌, ◌^◌, List, [], Ok, length, subst}
use Rattle.std.proofs.lemmas.List.{length-map}
use Rattle.fd_index.specs.declared.stored.Stored.{Stored}
use Rattle.fd_index.specs.StoredRecords.{record_of, records_of}
use Rattle.fd_index.specs.Reading.{page_at}
use Rattle.fd_index.proofs.Alone.{IsRisingPage, page_rises}
use Rattle.fd_index.proofs.index.Index.read_page.Goals as goal

page : (c : goal.In-Ok) → IsRisingPage (records_of c.push_page.new.records.items)
page c =
    let rs = records_of c.push_page.new.records.items in
    let read : page_at c.args.end 0 [] c.args.page.now ≡ Ok (rs, c.in-Ok.field-0)
    = subst (λ (b : List Stored). page_at c.args.end 0 (records_of b) c.args.page.now ≡ Ok (rs, c.in-Ok.field-0)) c.new-records.ensures.items c.in-Ok.ensures in
    page_rises c.args.end c.in-Ok.field-0 rs c.args.page.now (record { each = λ i. (c.type_inv.page i).fits }) c.requires.whole read

pub invariant_of-result : goal.invariant_of-result
invariant_of-result c =
    let good = page c in
    record { rising = good.rising; few = subst (λ n. n < 2 ^ 32) (length-map c.push_page.new.records.items record_of) good.few }

pub returns-in-Ok-clause-some : goal.returns-in-Ok-clause-some
returns-in-Ok-clause-some c = (page c).some
