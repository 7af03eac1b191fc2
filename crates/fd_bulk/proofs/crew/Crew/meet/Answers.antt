use Rattle.std.proofs.Common.{rules, ◌≡◌, length, subst, sym}
use Rattle.fd_bulk.specs.Halting.{Each, HasOneMore, HaveRoom}
use Rattle.fd_bulk.proofs.Turns.{written}
use Rattle.fd_bulk.proofs.crew.Crew.meet.Goals as goal

pub add_dataset-requires : goal.add_dataset-requires
add_dataset-requires g c = record { room = subst (λ xs. HaveRoom xs) (sym c.as_mut_slice.ensures.value) c.requires.jobs_room }

pub returns-clause-meets : goal.returns-clause-meets
returns-clause-meets g c =
    let js = c.args.self.now.jobs.items in
    let ks = c.add_dataset.new.jobs in
    let is : c.args.self.now.jobs.len ≡ length c.args.self.now.jobs.items = search rules in
    let more = subst (λ xs. Each (λ i. HasOneMore) xs c.add_dataset.new.jobs) c.as_mut_slice.ensures.value c.add_dataset.ensures.added in
    record {
      pass = c.seat-pass.result;
      own = c.seat-pass.ensures.own;
      seats = c.seat-pass.ensures.change;
      passes = c.push_reserved.ensures.items;
      jobs = subst (λ xs. Each (λ i. HasOneMore) c.args.self.now.jobs.items xs) (sym (written js ks c.args.self.now.jobs.len is more.long)) more;
    }
