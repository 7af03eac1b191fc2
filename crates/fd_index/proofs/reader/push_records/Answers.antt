use Rattle.std.proofs.Common.{◌≡◌, ◌+◌, ◌-◌, suc, ◌∙◌, arith}
use Rattle.fd_index.specs.StoredRecords.{records_of}
use Rattle.fd_index.specs.Reading.{records_at}
use Rattle.fd_index.proofs.ReadTurns.{one_more, fails, none_left}
use Rattle.fd_index.proofs.reader.push_records.Goals as goal

pub loop-preserved : goal.loop-preserved
loop-preserved c =
    let n = c.args.count - c.loop.counter in
    let k = c.args.count - (c.loop.counter + 1) in
    let is : n ≡ suc k = omega (arith, c.loop-test.true) in
    record {
      same = c.loop.invariant.same ∙ one_more n k c.args.end (records_of c.loop.records.items) _ c.loop.left.now _ is c.in-Ok.ensures.one;
      within = omega (arith, c.in-Ok.ensures.less, c.loop.invariant.within);
    }

pub returns-in-Err-clause-all : goal.returns-in-Err-clause-all
returns-in-Err-clause-all c =
    let n = c.args.count - c.loop.counter in
    let k = c.args.count - (c.loop.counter + 1) in
    let is : n ≡ suc k = omega (arith, c.loop-test.true) in
    fails c.in-Err.fault (records_at c.args.count c.args.end (records_of c.args.records.now.items) c.args.bytes.now) n k c.args.end (records_of c.loop.records.items) c.loop.left.now is c.loop.invariant.same c.in-Err.ensures.one

pub returns-clause-all : goal.returns-clause-all
returns-clause-all c =
    c.loop.invariant.same ∙ none_left (c.args.count - c.loop.counter) c.args.end (records_of c.loop.records.items) c.loop.left.now (omega (arith, c.loop-test.false))

pub returns-clause-less : goal.returns-clause-less
returns-clause-less c = c.loop.invariant.within
