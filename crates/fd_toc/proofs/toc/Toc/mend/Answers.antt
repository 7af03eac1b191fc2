use Rattle.std.proofs.Common.{◌≡◌, ℕ, [], ◌∷◌, length, ◌∙◌, ap, subst, arith, None, option_map, is_some, true}
use Rattle.fd_disk.specs.Folders.{WhereTold}
use Rattle.fd_disk.specs.Images.{synced, written}
use Rattle.fd_disk.specs.Moments.{LeavesOnly}
use Rattle.fd_entries.specs.Table.{gate_at}
use Rattle.fd_toc.specs.Calls.{ClosingFails, closed}
use Rattle.fd_toc.specs.Lists.{ListsOrAlso}
use Rattle.fd_toc.specs.Writes.{IsUnsynced, LeftMeanwhile}
use Rattle.fd_toc.proofs.CallSteps.{closing_failed, closing_leaves, closing_stands, now_leaves}
use Rattle.fd_toc.proofs.Meanwhile.{leaves_also}
use Rattle.fd_toc.proofs.toc.Toc.mend.Goals as goal

pub invariant_of-self : goal.invariant_of-self
invariant_of-self g c =
    let d = c.self.inside.dataset in
    let es = c.self.inside.entries.items in
    let old = g.T.Disk.file c.self.inside.table in
    let new = g.T.Disk.file c.write_firm.new.table in
    let n = length es in
    let place : c.gate_at-gate.result ≡ gate_at n = omega (arith, c.gate_at-gate.ensures.place, c.len.ensures) in
    let some : is_some c.self.inside.doubt ≡ true = ap (λ v. is_some v.doubt) c.self.view_is ∙ c.requires in
    let torn : WhereTold old new (ClosingFails n) = subst (λ (p : ℕ). WhereTold old new (λ f g. IsUnsynced f p (0 ∷ []) g)) place c.in_err-write_firm.ensures.err in
    record { few = c.self.invariant.few; fit = c.self.invariant.fit; staged_fit = tt; doubt_few = c.self.invariant.doubt_few; staged_few = λ some. absurd (cc some); sound = closing_failed d es old new c.self.inside.doubt c.self.inside.staged some c.self.invariant.sound torn }

pub returns-in_err-write_firm-clause-any_moment : goal.returns-in_err-write_firm-clause-any_moment
returns-in_err-write_firm-clause-any_moment g c =
    let d = c.self.inside.dataset in
    let es = c.self.inside.entries.items in
    let old = g.T.Disk.file c.self.inside.table in
    let new = g.T.Disk.file c.write_firm.new.table in
    let n = length es in
    let place : c.gate_at-gate.result ≡ gate_at n = omega (arith, c.gate_at-gate.ensures.place, c.len.ensures) in
    let some : is_some c.self.inside.doubt ≡ true = ap (λ v. is_some v.doubt) c.self.view_is ∙ c.requires in
    let all : LeavesOnly g.T.Disk.moment g.T.Disk.left_since c.self.inside.table c.write_firm.new.table (LeftMeanwhile old (gate_at n) (0 ∷ [])) =
    subst (λ (p : ℕ). LeavesOnly g.T.Disk.moment g.T.Disk.left_since c.self.inside.table c.write_firm.new.table (LeftMeanwhile old p (0 ∷ []))) place c.in_err-write_firm.ensures.any_moment in
    rw (← c.self.view_is)
    (leaves_also g.T.Disk.moment g.T.Disk.left_since c.self.inside.table c.write_firm.new.table (LeftMeanwhile old (gate_at n) (0 ∷ [])) (ListsOrAlso d es c.self.inside.doubt) (λ f left. closing_leaves d es old c.self.inside.doubt c.self.inside.staged f some ((g.met.T.Disk g.world.𝓛 g.world.𝓜 g.world.𝓡 ((λ s x. x), (λ x. x), (λ x. x), λ x. x)).reads_image c.self.inside.table) c.self.invariant.sound left) all)

pub invariant_of-self-2 : goal.invariant_of-self-2
invariant_of-self-2 g c =
    let d = c.self.inside.dataset in
    let es = c.self.inside.entries.items in
    let old = g.T.Disk.file c.self.inside.table in
    let new = g.T.Disk.file c.write_firm.new.table in
    let n = length es in
    let place : c.gate_at-gate.result ≡ gate_at n = omega (arith, c.gate_at-gate.ensures.place, c.len.ensures) in
    let some : is_some c.self.inside.doubt ≡ true = ap (λ v. is_some v.doubt) c.self.view_is ∙ c.requires in
    let made : new ≡ option_map (closed n) old = c.in_ok-write_firm.ensures.ok ∙ (λ j. option_map (λ f. synced (written f (place j) (0 ∷ []))) old) in
    let stands = closing_stands d es old new c.self.inside.doubt c.self.inside.staged some ((g.met.T.Disk g.world.𝓛 g.world.𝓜 g.world.𝓡 ((λ s x. x), (λ x. x), (λ x. x), λ x. x)).reads_image c.self.inside.table) c.self.invariant.sound made in
    record { few = c.self.invariant.few; fit = c.self.invariant.fit; staged_fit = tt; doubt_few = λ some. absurd (cc some); staged_few = λ some. absurd (cc some); sound = stands }

pub returns-clause-any_moment : goal.returns-clause-any_moment
returns-clause-any_moment g c =
    let d = c.self.inside.dataset in
    let es = c.self.inside.entries.items in
    let old = g.T.Disk.file c.self.inside.table in
    let new = g.T.Disk.file c.write_firm.new.table in
    let n = length es in
    let place : c.gate_at-gate.result ≡ gate_at n = omega (arith, c.gate_at-gate.ensures.place, c.len.ensures) in
    let some : is_some c.self.inside.doubt ≡ true = ap (λ v. is_some v.doubt) c.self.view_is ∙ c.requires in
    let all : LeavesOnly g.T.Disk.moment g.T.Disk.left_since c.self.inside.table c.write_firm.new.table (LeftMeanwhile old (gate_at n) (0 ∷ [])) =
    subst (λ (p : ℕ). LeavesOnly g.T.Disk.moment g.T.Disk.left_since c.self.inside.table c.write_firm.new.table (LeftMeanwhile old p (0 ∷ []))) place c.in_ok-write_firm.ensures.any_moment in
    rw (← c.self.view_is)
    (leaves_also g.T.Disk.moment g.T.Disk.left_since c.self.inside.table c.write_firm.new.table (LeftMeanwhile old (gate_at n) (0 ∷ [])) (ListsOrAlso d es c.self.inside.doubt) (λ f left. closing_leaves d es old c.self.inside.doubt c.self.inside.staged f some ((g.met.T.Disk g.world.𝓛 g.world.𝓜 g.world.𝓡 ((λ s x. x), (λ x. x), (λ x. x), λ x. x)).reads_image c.self.inside.table) c.self.invariant.sound left) all)

pub returns-clause-images : goal.returns-clause-images
returns-clause-images g c =
    let d = c.self.inside.dataset in
    let es = c.self.inside.entries.items in
    let old = g.T.Disk.file c.self.inside.table in
    let new = g.T.Disk.file c.write_firm.new.table in
    let n = length es in
    let place : c.gate_at-gate.result ≡ gate_at n = omega (arith, c.gate_at-gate.ensures.place, c.len.ensures) in
    let some : is_some c.self.inside.doubt ≡ true = ap (λ v. is_some v.doubt) c.self.view_is ∙ c.requires in
    let made : new ≡ option_map (closed n) old = c.in_ok-write_firm.ensures.ok ∙ (λ j. option_map (λ f. synced (written f (place j) (0 ∷ []))) old) in
    let stands = closing_stands d es old new c.self.inside.doubt c.self.inside.staged some ((g.met.T.Disk g.world.𝓛 g.world.𝓜 g.world.𝓡 ((λ s x. x), (λ x. x), (λ x. x), λ x. x)).reads_image c.self.inside.table) c.self.invariant.sound made in
    rw (← c.self.view_is) (λ f image. now_leaves d es new None None f stands image)
