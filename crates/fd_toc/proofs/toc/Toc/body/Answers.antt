use Rattle.std.proofs.Common.{rules, ◌≡◌, ℕ, ◌+◌, ◌<◌, List, [], ◌∷◌, ◌++◌, length, sym, ◌∙◌, ap, subst, arith, Option, Some, None, IfSome, option_map}
use Rattle.fd_disk.specs.Folders.{WhereTold}
use Rattle.fd_disk.specs.Images.{synced, written}
use Rattle.fd_disk.specs.Moments.{LeavesOnly}
use Rattle.fd_entries.specs.declared.table.Entry.{Entry}
use Rattle.fd_entries.specs.Table.{Fits, body_of, gate_at}
use Rattle.fd_toc.specs.Calls.{BodyFails, bodied}
use Rattle.fd_toc.specs.Lists.{Lists}
use Rattle.fd_toc.specs.Sound.{IsSound}
use Rattle.fd_toc.specs.Writes.{IsUnsynced, LeftMeanwhile}
use Rattle.fd_toc.proofs.CallSteps.{body_failed, body_leaves, body_stands}
use Rattle.fd_toc.proofs.Meanwhile.{leaves_also, on_err}
use Rattle.fd_toc.proofs.toc.Toc.body.Goals as goal

pub invariant_of-self : goal.invariant_of-self
invariant_of-self g c =
    let d = c.self.inside.dataset in
    let es = c.self.inside.entries.items in
    let e = c.args.entry in
    let old = g.T.Disk.file c.self.inside.table in
    let new = g.T.Disk.file c.write_firm.new.table in
    let n = length es in
    let place : c.gate_at-gate.result ≡ gate_at n = omega (arith, c.gate_at-gate.ensures.place, c.len.ensures) in
    let none : c.self.inside.doubt ≡ None = ap (λ v. v.doubt) c.self.view_is ∙ c.requires.no_doubt in
    let s : IfSome old (IsSound d es None c.self.inside.staged) = subst (λ (o : Option Entry). IfSome old (IsSound d es o c.self.inside.staged)) none c.self.invariant.sound in
    let torn : WhereTold old new (BodyFails n e) = subst (λ (b : List ℕ). WhereTold old new (λ f g. IsUnsynced f (gate_at n + 1) b g)) c.body.ensures (subst (λ (p : ℕ). WhereTold old new (λ f g. IsUnsynced f (p + 1) c.body.result g)) place c.in_err-write_firm.ensures.err) in
    record {
      few = c.self.invariant.few;
      fit = c.self.invariant.fit;
      staged_fit = tt;
      doubt_few = c.self.invariant.doubt_few;
      staged_few = λ some. absurd (cc some);
      sound = subst (λ (o : Option Entry). IfSome new (IsSound d es o None)) (sym none) (body_failed d es old new e c.self.inside.staged s torn);
    }

pub returns-in_err-write_firm-clause-file_err : goal.returns-in_err-write_firm-clause-file_err
returns-in_err-write_firm-clause-file_err g c =
    let d = c.self.inside.dataset in
    let es = c.self.inside.entries.items in
    let e = c.args.entry in
    let old = g.T.Disk.file c.self.inside.table in
    let new = g.T.Disk.file c.write_firm.new.table in
    let n = length es in
    let place : c.gate_at-gate.result ≡ gate_at n = omega (arith, c.gate_at-gate.ensures.place, c.len.ensures) in
    let none : c.self.inside.doubt ≡ None = ap (λ v. v.doubt) c.self.view_is ∙ c.requires.no_doubt in
    let s : IfSome old (IsSound d es None c.self.inside.staged) = subst (λ (o : Option Entry). IfSome old (IsSound d es o c.self.inside.staged)) none c.self.invariant.sound in
    let torn : WhereTold old new (BodyFails n e) = subst (λ (b : List ℕ). WhereTold old new (λ f g. IsUnsynced f (gate_at n + 1) b g)) c.body.ensures (subst (λ (p : ℕ). WhereTold old new (λ f g. IsUnsynced f (p + 1) c.body.result g)) place c.in_err-write_firm.ensures.err) in
    rw (← c.self.view_is) (on_err c.from_residual.result (WhereTold old new (BodyFails n e)) torn)

pub returns-in_err-write_firm-clause-any_moment : goal.returns-in_err-write_firm-clause-any_moment
returns-in_err-write_firm-clause-any_moment g c =
    let d = c.self.inside.dataset in
    let es = c.self.inside.entries.items in
    let e = c.args.entry in
    let old = g.T.Disk.file c.self.inside.table in
    let new = g.T.Disk.file c.write_firm.new.table in
    let n = length es in
    let place : c.gate_at-gate.result ≡ gate_at n = omega (arith, c.gate_at-gate.ensures.place, c.len.ensures) in
    let none : c.self.inside.doubt ≡ None = ap (λ v. v.doubt) c.self.view_is ∙ c.requires.no_doubt in
    let s : IfSome old (IsSound d es None c.self.inside.staged) = subst (λ (o : Option Entry). IfSome old (IsSound d es o c.self.inside.staged)) none c.self.invariant.sound in
    let all : LeavesOnly g.T.Disk.moment g.T.Disk.left_since c.self.inside.table c.write_firm.new.table (LeftMeanwhile old (gate_at n + 1) (body_of e ++ 0 ∷ [])) =
    subst (λ (b : List ℕ). LeavesOnly g.T.Disk.moment g.T.Disk.left_since c.self.inside.table c.write_firm.new.table (LeftMeanwhile old (gate_at n + 1) b)) c.body.ensures
    (subst (λ (p : ℕ). LeavesOnly g.T.Disk.moment g.T.Disk.left_since c.self.inside.table c.write_firm.new.table (LeftMeanwhile old (p + 1) c.body.result)) place c.in_err-write_firm.ensures.any_moment) in
    rw (← c.self.view_is)
    (leaves_also g.T.Disk.moment g.T.Disk.left_since c.self.inside.table c.write_firm.new.table (LeftMeanwhile old (gate_at n + 1) (body_of e ++ 0 ∷ [])) (Lists d es) (λ f left. body_leaves d es old e c.self.inside.staged f s left) all)

pub invariant_of-self-2 : goal.invariant_of-self-2
invariant_of-self-2 g c =
    let d = c.self.inside.dataset in
    let es = c.self.inside.entries.items in
    let e = c.args.entry in
    let old = g.T.Disk.file c.self.inside.table in
    let new = g.T.Disk.file c.write_firm.new.table in
    let n = length es in
    let place : c.gate_at-gate.result ≡ gate_at n = omega (arith, c.gate_at-gate.ensures.place, c.len.ensures) in
    let none : c.self.inside.doubt ≡ None = ap (λ v. v.doubt) c.self.view_is ∙ c.requires.no_doubt in
    let s : IfSome old (IsSound d es None c.self.inside.staged) = subst (λ (o : Option Entry). IfSome old (IsSound d es o c.self.inside.staged)) none c.self.invariant.sound in
    let made : new ≡ option_map (bodied n e) old = c.in_ok-write_firm.ensures.ok ∙ (λ j. option_map (λ f. synced (written f (place j + 1) (c.body.ensures j))) old) in
    let count : n ≡ length c.args.self.now.entries = ap (λ v. length v.entries) c.self.view_is in
    let few : n < 65535 = omega (arith, count, c.requires.room) in
    let fits : Fits n e = record { writer = omega (arith, count, c.requires.writer); seq = omega arith; fields = omega arith; index_len = omega arith; fields_len = omega arith; digest = search rules } in
    record {
      few = c.self.invariant.few;
      fit = c.self.invariant.fit;
      staged_fit = fits;
      doubt_few = c.self.invariant.doubt_few;
      staged_few = λ some. few;
      sound = subst (λ (o : Option Entry). IfSome new (IsSound d es o (Some e))) (sym none) (body_stands d es old new e c.self.inside.staged fits few s made);
    }

pub returns-clause-file : goal.returns-clause-file
returns-clause-file g c =
    let d = c.self.inside.dataset in
    let es = c.self.inside.entries.items in
    let e = c.args.entry in
    let old = g.T.Disk.file c.self.inside.table in
    let new = g.T.Disk.file c.write_firm.new.table in
    let n = length es in
    let place : c.gate_at-gate.result ≡ gate_at n = omega (arith, c.gate_at-gate.ensures.place, c.len.ensures) in
    let none : c.self.inside.doubt ≡ None = ap (λ v. v.doubt) c.self.view_is ∙ c.requires.no_doubt in
    let s : IfSome old (IsSound d es None c.self.inside.staged) = subst (λ (o : Option Entry). IfSome old (IsSound d es o c.self.inside.staged)) none c.self.invariant.sound in
    let made : new ≡ option_map (bodied n e) old = c.in_ok-write_firm.ensures.ok ∙ (λ j. option_map (λ f. synced (written f (place j + 1) (c.body.ensures j))) old) in
    rw (← c.self.view_is) made

pub returns-clause-any_moment : goal.returns-clause-any_moment
returns-clause-any_moment g c =
    let d = c.self.inside.dataset in
    let es = c.self.inside.entries.items in
    let e = c.args.entry in
    let old = g.T.Disk.file c.self.inside.table in
    let new = g.T.Disk.file c.write_firm.new.table in
    let n = length es in
    let place : c.gate_at-gate.result ≡ gate_at n = omega (arith, c.gate_at-gate.ensures.place, c.len.ensures) in
    let none : c.self.inside.doubt ≡ None = ap (λ v. v.doubt) c.self.view_is ∙ c.requires.no_doubt in
    let s : IfSome old (IsSound d es None c.self.inside.staged) = subst (λ (o : Option Entry). IfSome old (IsSound d es o c.self.inside.staged)) none c.self.invariant.sound in
    let all : LeavesOnly g.T.Disk.moment g.T.Disk.left_since c.self.inside.table c.write_firm.new.table (LeftMeanwhile old (gate_at n + 1) (body_of e ++ 0 ∷ [])) =
    subst (λ (b : List ℕ). LeavesOnly g.T.Disk.moment g.T.Disk.left_since c.self.inside.table c.write_firm.new.table (LeftMeanwhile old (gate_at n + 1) b)) c.body.ensures
    (subst (λ (p : ℕ). LeavesOnly g.T.Disk.moment g.T.Disk.left_since c.self.inside.table c.write_firm.new.table (LeftMeanwhile old (p + 1) c.body.result)) place c.in_ok-write_firm.ensures.any_moment) in
    rw (← c.self.view_is)
    (leaves_also g.T.Disk.moment g.T.Disk.left_since c.self.inside.table c.write_firm.new.table (LeftMeanwhile old (gate_at n + 1) (body_of e ++ 0 ∷ [])) (Lists d es) (λ f left. body_leaves d es old e c.self.inside.staged f s left) all)
