use Rattle.std.proofs.Common.{◌∙◌, ◌<◌, [], List, length, string_bytes, sym, ap, subst, arith, rules}
use Rattle.fd_cubes.specs.declared.axis.Axis as code_axis
use Rattle.fd_cubes.specs.declared.grid.Grid as code_grid
use Rattle.fd_cubes.specs.Axes.{code, seen_axes, with_values}
use Rattle.fd_cubes.specs.Grids.{IsNoting, NoneTakes, Puts, Takes}
use Rattle.fd_cubes.proofs.Taking.{found_takes, noting_push, noting_set, put_joined, put_pushed}
use Rattle.fd_cubes.proofs.passing.put.Goals as goal

pub returns-in_ok-join-in-Some-clause-puts : goal.returns-in_ok-join-in-Some-clause-puts
returns-in_ok-join-in-Some-clause-puts c =
    let lt : c.in-Some.at < length c.args.grids.now.items = omega (arith, c.in-Some.ensures.within, ap (λ (l : List code_grid.Grid). length l) c.deref-2.ensures.value) in
    let takes : Takes c.args.place c.index_mut.result.now c.args.grid = found_takes c.args.place c.args.grids.now.items c.deref-2.result.now c.in-Some.at c.index_mut.result.now c.args.grid c.deref-2.ensures.value lt c.index_mut.ensures.value c.in-Some.ensures.takes in
    put_joined c.args.place c.args.grids.now.items c.in-Some.at c.index_mut.result.now c.args.grid c.join.new.self lt c.index_mut.ensures.value c.requires.each c.requires.grid c.requires.settled takes c.in_ok-join-in-Some.ensures

pub returns-in_ok-join-in-Some-clause-noting : goal.returns-in_ok-join-in-Some-clause-noting
returns-in_ok-join-in-Some-clause-noting c =
    let lt : c.in-Some.at < length c.args.grids.now.items = omega (arith, c.in-Some.ensures.within, ap (λ (l : List code_grid.Grid). length l) c.deref-2.ensures.value) in
    noting_set c.args.place c.args.alike.now c.args.grids.now.items c.in-Some.at c.index_mut.result.now c.args.grid c.join.new.self lt c.index_mut.ensures.value c.in_ok-join-in-Some.ensures c.requires.noting

pub returns-in_ok-push-in-None-clause-puts : goal.returns-in_ok-push-in-None-clause-puts
returns-in_ok-push-in-None-clause-puts c =
    let none : NoneTakes c.args.place c.args.grids.now.items c.args.grid = search rules in
    subst (λ (l : List code_grid.Grid). Puts c.args.place c.args.grids.now.items c.args.grid l) (sym c.in_ok-push-in-None.ensures.items)
    (put_pushed c.args.place c.args.grids.now.items c.args.grid c.requires.each c.requires.grid c.requires.settled none)

pub returns-in_ok-push-in-None-clause-noting : goal.returns-in_ok-push-in-None-clause-noting
returns-in_ok-push-in-None-clause-noting c =
    subst (λ (l : List code_grid.Grid). IsNoting c.args.place c.note.new.alike l) (sym c.in_ok-push-in-None.ensures.items)
    (noting_push c.args.place c.args.alike.now c.note.new.alike c.args.grids.now.items c.args.grid (string_bytes c.in_ok-text.text) c.len.result
    (c.in_ok-text.ensures ∙ ap (λ (l : List code_axis.Axis). code (with_values c.args.place [] (seen_axes l))) c.deref.ensures.value) (c.len.ensures ∙ c.args.grids.now.ok.0) c.in_ok-note-in-None.ensures c.requires.noting)

pub taker-requires-clause-noting : goal.taker-requires-clause-noting
taker-requires-clause-noting c = subst (λ (l : List code_grid.Grid). IsNoting c.args.place c.args.alike.now l) (sym c.deref-2.ensures.value) c.requires.noting

pub join-requires : goal.join-requires
join-requires c =
    let lt : c.in-Some.at < length c.args.grids.now.items = omega (arith, c.in-Some.ensures.within, ap (λ (l : List code_grid.Grid). length l) c.deref-2.ensures.value) in
    record { takes = found_takes c.args.place c.args.grids.now.items c.deref-2.result.now c.in-Some.at c.index_mut.result.now c.args.grid c.deref-2.ensures.value lt c.index_mut.ensures.value c.in-Some.ensures.takes }
