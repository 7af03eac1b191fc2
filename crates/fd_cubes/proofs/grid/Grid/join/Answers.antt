use Rattle.std.proofs.Common.{◌≡◌, ap, refl, ◌∙◌, arith}
use Rattle.fd_spelling.specs.Texts.{texts}
use Rattle.fd_cubes.specs.Axes.{values_at, width}
use Rattle.fd_cubes.specs.Grids.{seen_grid}
use Rattle.fd_cubes.proofs.Seen.{at_place, size_is}
use Rattle.fd_cubes.proofs.Grids.{own_within, other_within, joins_is}
use Rattle.fd_cubes.proofs.grid.Grid.join.Goals as goal

pub swap_remove-values-requires : goal.swap_remove-values-requires
swap_remove-values-requires c = omega (arith, other_within c.args.place c.args.self.now c.args.other c.requires.takes, c.args.other.axes.ok.0)

pub overflow_add-self : goal.overflow_add-self
overflow_add-self c =
    let e : texts c.deref.result.now ≡ values_at c.args.place (seen_grid c.args.other) =
    ap texts c.deref.ensures.value ∙ at_place c.args.place c.args.other.axes.items c.swap_remove-values.result (other_within c.args.place c.args.self.now c.args.other c.requires.takes) c.swap_remove-values.ensures.value in
    let w : width (texts c.deref.result.now) ≡ width (values_at c.args.place (seen_grid c.args.other)) = ap width e in
    omega (arith, w, c.width.ensures, c.requires.takes.room)

pub returns : goal.returns
returns c =
    let lt = own_within c.args.place c.args.self.now c.args.other c.requires.takes in
    let less = other_within c.args.place c.args.self.now c.args.other c.requires.takes in
    let moved : texts c.deref.result.now ≡ values_at c.args.place (seen_grid c.args.other) =
    ap texts c.deref.ensures.value ∙ at_place c.args.place c.args.other.axes.items c.swap_remove-values.result less c.swap_remove-values.ensures.value in
    joins_is c.args.place c.args.self.now c.args.other _ (record { name = c.index_mut.result.now.name; values = c.add_values.new.values }) c.index_mut.result.now c.swap_remove-values.result
    lt less c.index_mut.ensures.value c.swap_remove-values.ensures.value refl c.in_ok-add_values.ensures.same c.in_ok-add_values.ensures.sorted refl
    (size_is c.args.self.now.size c.width.result (texts c.deref.result.now) (values_at c.args.place (seen_grid c.args.other)) c.width.ensures moved c.requires.takes.room)
