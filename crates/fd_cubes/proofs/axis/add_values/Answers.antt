use Rattle.std.proofs.Common.{◌∙◌, ◌++◌, List, ℕ, ap, sym, subst}
use Rattle.fd_spelling.specs.Texts.{texts}
use Rattle.fd_cubes.specs.Axes.{AreSorted}
use Rattle.fd_cubes.proofs.Sorted.{texts_appended, texts_moved, texts_sorted}
use Rattle.fd_cubes.proofs.axis.add_values.Goals as goal

pub returns-then-go_before-clause-sorted : goal.returns-then-go_before-clause-sorted
returns-then-go_before-clause-sorted c = λ hx hy.
    let whole = ap texts c.in_ok-append.ensures.items ∙ texts_appended c.args.values.now.items c.args.more.items in
    let front = ap texts c.deref.ensures.value in
    let behind = ap texts c.deref-2.ensures.value in
    let sorted = c.go_before.ensures c.if-go_before.true (subst AreSorted (sym front) hx) (subst AreSorted (sym behind) hy) in
    subst AreSorted (sym whole) (subst (λ (l : List (List ℕ)). AreSorted (texts c.args.values.now.items ++ l)) behind (subst (λ (l : List (List ℕ)). AreSorted (l ++ texts c.deref-2.result.now)) front sorted))

pub returns-clause-same : goal.returns-clause-same
returns-clause-same c = texts_moved c.append-2.new.self.items c.sort.new.self.items _ (sym (ap texts c.in_ok-append-2.ensures.items ∙ texts_appended c.args.values.now.items c.args.more.items)) c.in_ok-sort.ensures.permutation

pub returns-clause-sorted : goal.returns-clause-sorted
returns-clause-sorted c = λ hx hy. texts_sorted c.sort.new.self.items c.in_ok-sort.ensures.sorted
