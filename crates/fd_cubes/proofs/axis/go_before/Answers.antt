use Rattle.std.proofs.Common.{◌≡◌, false, rules, string_bytes}
use Rattle.std.specs.Ordering.{is_lt}
use Rattle.fd_cubes.specs.Cubes.{order}
use Rattle.fd_cubes.proofs.Sorted.{one_is_ge, texts_joined}
use Rattle.fd_cubes.proofs.axis.go_before.Goals as goal

pub returns : goal.returns
returns c = λ t hx hy.
    let up : is_lt (order (string_bytes c.index-behind-0.result) (string_bytes c.index-front-front.result)) ≡ false = search (rules, one_is_ge, t) in
    texts_joined c.args.front.now c.args.behind.now c.index-front-front.result c.index-behind-0.result (search rules) (search rules) c.index-front-front.is c.index-behind-0.is up hx hy
