use Rattle.std.proofs.Common.{◌≡◌, ◌∷◌, ◌+◌, ◌-◌, ◌<◌, Option, length, suc, sym, ap, ◌∙◌, arith}
use Rattle.fd_scaled.specs.declared.Scaled.{Scaled}
use Rattle.fd_packing.specs.Value.{values_from}
use Rattle.fd_packing.specs.Parts.{packed_of}
use Rattle.fd_packing.proofs.Cursor.{values_none, values_more}
use Rattle.fd_packing.proofs.points.PointsIterator.next.Goals as goal

pub returns-then-self-clause-steps : goal.returns-then-self-clause-steps
returns-then-self-clause-steps c =
    let s = c.self.inside in
    let none = sym c.self.view_is ∙ values_none (packed_of s.parts) s.at (s.parts.points - s.at) (omega arith) in
    (none, none)

pub returns-clause-steps : goal.returns-clause-steps
returns-clause-steps c =
    let s = c.self.inside in
    let rest = values_from (packed_of s.parts) (s.at + 1) (s.parts.points - (s.at + 1)) in
    let lt : s.at < s.parts.points = omega arith in
    sym c.self.view_is ∙ values_more (packed_of s.parts) s.at s.parts.points lt ∙ ap (λ (v : Option Scaled). v ∷ rest) (sym c.value_with_place-value.ensures.value)

pub returns-clause-goes : goal.returns-clause-goes
returns-clause-goes c =
    let s = c.self.inside in
    let rest = values_from (packed_of s.parts) (s.at + 1) (s.parts.points - (s.at + 1)) in
    let longer : length c.args.self.now ≡ suc (length rest) = ap (length {A = Option Scaled}) (returns-clause-steps c) in
    record { on = λ finite. (tt, finite, omega (arith, longer)); keeps = tt; rests = λ finite. tt }
