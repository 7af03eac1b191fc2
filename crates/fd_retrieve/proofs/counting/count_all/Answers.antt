use Rattle.std.proofs.Common.{◌<◌, ◌≤◌, refl, length, map, arith}
use Rattle.fd_entries.specs.Batches.{newest}
use Rattle.fd_schema.specs.Reading.{seen_place}
use Rattle.fd_schema.specs.Rules.{file_key}
use Rattle.fd_retrieve.specs.Open.{table_in}
use Rattle.fd_answering.proofs.AnsweringLemmas.{as_long}
use Rattle.fd_retrieve.proofs.CountingLemmas.{as_many_found, counted_more, counted_whole, found_at}
use Rattle.fd_retrieve.proofs.LocatingLemmas.{bytes_at, place_at}
use Rattle.fd_retrieve.proofs.counting.count_all.Goals as goal

pub loop-i-init : goal.loop-i-init
loop-i-init g c = record {
  counted = λ places xs there e. record { found = refl; bytes = refl; missed = refl };
  stock = c.new-stock.ensures c.args.opened.now;
}

pub loop-i-preserved : goal.loop-i-preserved
loop-i-preserved g c = record {
  counted = λ places xs there e.
      let i = c.loop-i.i in
      let long = there.long in
      let lt : i < length places = omega (arith, long) in
      let p = place_at c.args.opened.now c.args.opened.now places c.args.located.now i refl there lt in
      let f = found_at (table_in c.args.opened.now) (map seen_place places) xs e i p.0 p.1 in
      let len = c.in-Ok.ensures.one (newest f.table (file_key p.0)) (bytes_at c.args.opened.now p.0 _ f.table (p.2 _) f.told) in
      counted_more xs i _ c.loop-i.so_far c.in-Some.more c.in-Ok.len f.there len c.in-Some.ensures (c.loop-i.invariant.counted places xs there e);
  stock = c.in-Ok.ensures.stock;
}

pub returns-clause-counted : goal.returns-clause-counted
returns-clause-counted g c = λ places xs there e.
    let long = there.long in
    let many = as_many_found (table_in c.args.opened.now) (map seen_place places) xs e in
    let same = as_long places in
    let le : length xs ≤ c.loop-i.i = omega (arith, long, many, same) in
    counted_whole xs c.loop-i.i c.loop-i.so_far le (c.loop-i.invariant.counted places xs there e)
