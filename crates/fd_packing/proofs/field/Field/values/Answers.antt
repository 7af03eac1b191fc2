use Rattle.std.proofs.Common.{◌≡◌, ◌+◌, ◌-◌, Some, ap, ◌∙◌, arith}
use Rattle.fd_packing.specs.Packed.{Packed}
use Rattle.fd_packing.specs.Value.{value_of}
use Rattle.fd_packing.specs.Parts.{packed_of}
use Rattle.fd_packing.proofs.Cursor.{length-values_from, get-values_from}
use Rattle.fd_packing.proofs.field.Field.values.Goals as goal

pub returns-clause-count : goal.returns-clause-count
returns-clause-count c =
    let f = packed_of c.self.inside.parts in
    let same : c.self.inside.parts.points ≡ c.args.self.now.points = ap (λ (p : Packed). p.points) c.self.view_is in
    let all : c.self.inside.parts.points - 0 ≡ c.args.self.now.points = omega arith in
    length-values_from f 0 (c.self.inside.parts.points - 0) ∙ all

pub returns-clause-each : goal.returns-clause-each
returns-clause-each c = λ i lt.
    let f = packed_of c.self.inside.parts in
    let same : c.self.inside.parts.points ≡ c.args.self.now.points = ap (λ (p : Packed). p.points) c.self.view_is in
    get-values_from f 0 (c.self.inside.parts.points - 0) i (omega arith)
    ∙ ap (λ j. Some (value_of f j)) (let e : 0 + i ≡ i = omega arith in e)
    ∙ ap (λ (p : Packed). Some (value_of p i)) c.self.view_is
