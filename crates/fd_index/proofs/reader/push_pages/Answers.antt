use Rattle.std.proofs.Common.{◌≡◌, ◌+◌, ◌-◌, ℕ, suc, List, Ok, take, drop, length, ap, sym, ◌∙◌, subst₂, arith}
use Rattle.fd_index.specs.StoredRecords.{records_of}
use Rattle.fd_index.specs.Index.{Fails}
use Rattle.fd_index.specs.Reading.{page_at, pages_at}
use Rattle.fd_index.proofs.ReadTurns.{page_more, page_fails, no_page}
use Rattle.fd_index.proofs.reader.push_pages.Goals as goal

pub loop-preserved : goal.loop-preserved
loop-preserved c =
    let n = c.args.count - c.loop.counter in
    let k = c.args.count - (c.loop.counter + 1) in
    let is : n ≡ suc k = omega (arith, c.loop-test.true) in
    let left = c.loop.left.now in
    let all = records_of c.push_page.new.records.items in
    let before = records_of c.loop.records.items in
    let read : page_at (c.args.end - length (drop 4096 left)) c.loop.room before (take 4096 left) ≡ Ok (all, c.in-Ok.after)
    = subst₂ (λ (a b : List ℕ). page_at (c.args.end - length b) c.loop.room before a ≡ Ok (all, c.in-Ok.after)) c.split_at.ensures.front c.split_at.ensures.back c.in-Ok.ensures in
    record {
      same = c.loop.invariant.same ∙ page_more n k c.args.end c.loop.room c.in-Ok.after before all left is read ∙ ap (λ (t : List ℕ). pages_at k c.args.end c.in-Ok.after all t) (sym c.split_at.ensures.back);
      whole = omega (arith, c.split_at.ensures.back_len, c.loop.invariant.whole, c.loop-test.true);
      place = omega (arith, c.split_at.ensures.back_len, c.loop.invariant.place);
    }

pub returns-in-Err : goal.returns-in-Err
returns-in-Err c =
    let n = c.args.count - c.loop.counter in
    let k = c.args.count - (c.loop.counter + 1) in
    let is : n ≡ suc k = omega (arith, c.loop-test.true) in
    let left = c.loop.left.now in
    let before = records_of c.loop.records.items in
    page_fails c.in-Err.fault _ n k c.args.end c.loop.room before left is c.loop.invariant.same
    (subst₂ (λ (a b : List ℕ). Fails c.in-Err.fault (page_at (c.args.end - length b) c.loop.room before a)) c.split_at.ensures.front c.split_at.ensures.back c.in-Err.ensures)

pub returns : goal.returns
returns c =
    c.loop.invariant.same ∙ no_page (c.args.count - c.loop.counter) c.args.end c.loop.room (records_of c.loop.records.items) c.loop.left.now (omega (arith, c.loop-test.false))
