use Rattle.std.proofs.Common.{rules, arith, ◌≡◌, ℕ, sym, subst, length}
use Rattle.fd_turn.specs.Passes.{view}
use Rattle.fd_library.specs.Calls.{Changes}
use Rattle.fd_bulk.specs.Ending.{CanEndOne, EndedAs, Ends, IsShorter, column}
use Rattle.fd_bulk.specs.Halting.{Each}
use Rattle.fd_bulk.proofs.Closing.{can_end, ends_first, ends_next, finished_grows, full, grows, rest_few}
use Rattle.fd_bulk.proofs.Turns.{no_elements}
use Rattle.fd_bulk.proofs.crew.Crew.end.Goals as goal

pub loop-pass-init : goal.loop-pass-init
loop-pass-init g c =
    let r = c.requires.can in
    record {
      sound = r.crewed.opened;
      ends = ends_first g.S.Folder.Folder.has g.S.Folder.Folder.faults g.S.Folder.Shelf.Shelf.kept r.start r.now r.lost r.all c.args.library.now c.args.self.now.passes.items c.args.self.now.jobs.items r.crewed;
    }

pub overflow_cast-number : goal.overflow_cast-number
overflow_cast-number g c =
    let r = c.requires.can in
    let l = c.args.library.now in
    let s = c.args.self.now in
    let m = c.loop-pass.library in
    let qs = c.loop-pass.self.passes.items in
    let rs = c.pop.new.self.items in
    let ks = c.loop-pass.self.jobs.items in
    let p = c.in-Some.pass in
    let ends = c.loop-pass.invariant.ends in
    let popped = c.in-Some.ensures.items in
    let is : c.len-number.result ≡ length c.pop.new.self.items = omega (arith, c.len-number.ensures, c.pop.new.self.ok.0) in
    let few = rest_few g.S.Folder.Folder.has g.S.Folder.Folder.faults g.S.Folder.Shelf.Shelf.kept r.start r.now r.lost r.all l s.passes.items s.jobs.items r.crewed m qs rs ks p ends popped in
    search (rules, few, is)

pub end_one-requires-clause-can : goal.end_one-requires-clause-can
end_one-requires-clause-can g c κs within =
    let r = c.requires.can in
    let l = c.args.library.now in
    let s = c.args.self.now in
    let m = c.loop-pass.library in
    let qs = c.loop-pass.self.passes.items in
    let rs = c.pop.new.self.items in
    let ks = c.loop-pass.self.jobs.items in
    let p = c.in-Some.pass in
    let ends = c.loop-pass.invariant.ends in
    let popped = c.in-Some.ensures.items in
    let is : c.len-number.result ≡ length c.pop.new.self.items = omega (arith, c.len-number.ensures, c.pop.new.self.ok.0) in
    subst (λ (n : ℕ). CanEndOne n m p ks) (sym is) (can_end g.S.Folder.Folder.has g.S.Folder.Folder.faults g.S.Folder.Shelf.Shelf.kept r.start r.now r.lost r.all l s.passes.items s.jobs.items r.crewed m qs rs ks p ends popped)

pub loop-pass-preserved : goal.loop-pass-preserved
loop-pass-preserved g c =
    let r = c.requires.can in
    let l = c.args.library.now in
    let s = c.args.self.now in
    let m = c.loop-pass.library in
    let qs = c.loop-pass.self.passes.items in
    let rs = c.pop.new.self.items in
    let ks = c.loop-pass.self.jobs.items in
    let p = c.in-Some.pass in
    let ends = c.loop-pass.invariant.ends in
    let popped = c.in-Some.ensures.items in
    let is : c.len-number.result ≡ length c.pop.new.self.items = omega (arith, c.len-number.ensures, c.pop.new.self.ok.0) in
    let next = c.end_one.new.library in
    let ks2 = c.end_one.new.self.jobs.items in
    let ch = subst (λ (n : ℕ). Changes n c.loop-pass.library c.end_one.new.library (EndedAs g.S.Folder.Folder.has g.S.Folder.Folder.faults g.S.Folder.Shelf.Shelf.kept (view c.in-Some.pass) (column n c.loop-pass.self.jobs.items))) is c.end_one.ensures.ended in
    let shorter = subst (λ (n : ℕ). Each (λ i. IsShorter n) c.loop-pass.self.jobs.items c.end_one.new.self.jobs.items) is c.end_one.ensures.shorter in
    record {
      sound = c.end_one.ensures.sound;
      ends = subst (λ qs. Ends g.S.Folder.Folder.has g.S.Folder.Folder.faults g.S.Folder.Shelf.Shelf.kept l next s.passes.items qs s.jobs.items ks2) (sym c.end_one.ensures.passes) (ends_next g.S.Folder.Folder.has g.S.Folder.Folder.faults g.S.Folder.Shelf.Shelf.kept r.start r.now r.lost r.all l s.passes.items s.jobs.items r.crewed m qs rs ks p ends popped next ks2 ch shorter);
    }

pub returns-clause-names : goal.returns-clause-names
returns-clause-names g c = c.loop-pass.invariant.ends.names

pub returns-clause-grows : goal.returns-clause-grows
returns-clause-grows g c =
    let l = c.args.library.now in
    let s = c.args.self.now in
    let m = c.loop-pass.library in
    let ks = c.loop-pass.self.jobs.items in
    let zero : length c.loop-pass.self.passes.items ≡ 0 = search rules in
    λ start now lost all crewed. grows g.S.Folder.Folder.has g.S.Folder.Folder.faults g.S.Folder.Shelf.Shelf.kept start now lost all l s.passes.items s.jobs.items crewed m ks (subst (λ qs. Ends g.S.Folder.Folder.has g.S.Folder.Folder.faults g.S.Folder.Shelf.Shelf.kept l m s.passes.items qs s.jobs.items ks) (no_elements c.loop-pass.self.passes.items zero) c.loop-pass.invariant.ends)

pub returns-clause-all : goal.returns-clause-all
returns-clause-all g c =
    let l = c.args.library.now in
    let s = c.args.self.now in
    let m = c.loop-pass.library in
    let ks = c.loop-pass.self.jobs.items in
    let zero : length c.loop-pass.self.passes.items ≡ 0 = search rules in
    λ start now lost all crewed. finished_grows g.S.Folder.Folder.has g.S.Folder.Folder.faults g.S.Folder.Shelf.Shelf.kept start now lost all l m s.passes.items s.jobs.items ks crewed (subst (λ qs. Ends g.S.Folder.Folder.has g.S.Folder.Folder.faults g.S.Folder.Shelf.Shelf.kept l m s.passes.items qs s.jobs.items ks) (no_elements c.loop-pass.self.passes.items zero) c.loop-pass.invariant.ends)

pub returns-clause-full : goal.returns-clause-full
returns-clause-full g c =
    let l = c.args.library.now in
    let s = c.args.self.now in
    let m = c.loop-pass.library in
    let ks = c.loop-pass.self.jobs.items in
    let zero : length c.loop-pass.self.passes.items ≡ 0 = search rules in
    λ start now lost all crewed see. full g.S.Folder.Folder.has g.S.Folder.Folder.faults g.S.Folder.Shelf.Shelf.kept start now lost all l s.passes.items s.jobs.items crewed m ks (subst (λ qs. Ends g.S.Folder.Folder.has g.S.Folder.Folder.faults g.S.Folder.Shelf.Shelf.kept l m s.passes.items qs s.jobs.items ks) (no_elements c.loop-pass.self.passes.items zero) c.loop-pass.invariant.ends) see.0 see.1.0 see.1.1 see.1.2.0 see.1.2.1.0 see.1.2.1.1 see.1.2.1.2 see.1.2.1.3
