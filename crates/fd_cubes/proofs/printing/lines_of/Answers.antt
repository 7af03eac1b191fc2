use Rattle.std.proofs.Common.{◌∙◌, List, map, ap, sym}
use Rattle.std.proofs.lemmas.List.{take_all}
use Rattle.fd_request.specs.Expansion.{Keyword}
use Rattle.fd_cubes.specs.Cubes.{cube_text}
use Rattle.fd_cubes.proofs.Sorted.{texts_moved, texts_sorted}
use Rattle.fd_cubes.proofs.printing.lines_of.Goals as goal

pub returns-clause-same : goal.returns-clause-same
returns-clause-same c =
    texts_moved c.loop-cube.lines.items c.sort.new.self.items _ (sym (c.loop-cube.invariant ∙ ap (λ (l : List (List Keyword)). map cube_text l) (take_all c.loop-cube.cube-index c.args.cubes.now c.loop-cube-test.false))) c.in_ok-sort.ensures.permutation

pub returns-clause-sorted : goal.returns-clause-sorted
returns-clause-sorted c = texts_sorted c.sort.new.self.items c.in_ok-sort.ensures.sorted
