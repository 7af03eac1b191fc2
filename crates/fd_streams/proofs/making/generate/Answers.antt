use Rattle.fd_streams.proofs.GenerateExits.{done, unwritten, starved}
use Rattle.fd_streams.proofs.making.generate.Goals as goal

pub returns-in-Ok-clause-ran : goal.returns-in-Ok-clause-ran
returns-in-Ok-clause-ran g c =
    let has = g.W.Store.Store.has c.args.objects.now.store in
    let m = g.W.Store.Store.faults c.args.objects.now.store in
    let left = g.W.Input.Source.left c.args.objects.now.input in
    let k = g.W.Input.Source.faults c.args.objects.now.input in
    done c.args.count has m left k _ _ _ _ _ _ c.in-Ok.ensures.whole c.in-Ok.ensures.calm

pub returns-clause-ran : goal.returns-clause-ran
returns-clause-ran g c =
    let has = g.W.Store.Store.has c.args.objects.now.store in
    let m = g.W.Store.Store.faults c.args.objects.now.store in
    let left = g.W.Input.Source.left c.args.objects.now.input in
    let k = g.W.Input.Source.faults c.args.objects.now.input in
    starved c.args.count has m left k _ _ _ _ _ _ _ _ _ c.in-Err-NoMemory.ensures.front c.tell_no_memory.ensures
