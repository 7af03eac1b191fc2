use Rattle.std.proofs.Common.{rules, ◌≡◌, OnOk, length, refl, subst, sym}
use Rattle.fd_bulk.specs.Halting.{Each, HaveRoom, IsSameJob}
use Rattle.fd_bulk.proofs.Turns.{each_begins, written}
use Rattle.fd_bulk.proofs.crew.Crew.reserve.Goals as goal

pub returns-in_default-clause-jobs : goal.returns-in_default-clause-jobs
returns-in_default-clause-jobs g c = each_begins (λ i. IsSameJob) c.args.self.now.jobs.items (λ i x at. record { desks = refl; halt = refl })

pub returns-clause-jobs : goal.returns-clause-jobs
returns-clause-jobs g c =
    let js = c.args.self.now.jobs.items in
    let ks = c.make_room.new.jobs in
    let is : c.args.self.now.jobs.len ≡ length c.args.self.now.jobs.items = search rules in
    let each = subst (λ xs. Each (λ i. IsSameJob) xs c.make_room.new.jobs) c.as_mut_slice.ensures.value c.make_room.ensures.same in
    subst (λ xs. Each (λ i. IsSameJob) c.args.self.now.jobs.items xs) (sym (written js ks c.args.self.now.jobs.len is each.long)) each

pub returns-clause-jobs_room : goal.returns-clause-jobs_room
returns-clause-jobs_room g c =
    let js = c.args.self.now.jobs.items in
    let ks = c.make_room.new.jobs in
    let is : c.args.self.now.jobs.len ≡ length c.args.self.now.jobs.items = search rules in
    let each = subst (λ xs. Each (λ i. IsSameJob) xs c.make_room.new.jobs) c.as_mut_slice.ensures.value c.make_room.ensures.same in
    subst (λ xs. OnOk c.make_room.result (HaveRoom xs)) (sym (written js ks c.args.self.now.jobs.len is each.long)) c.make_room.ensures.room
