use Rattle.std.proofs.Common.{◌≡◌, ℕ, ◌+◌, ◌-◌, ◌<◌, ◌^◌, min, List, [], ◌∷◌, ◌++◌, length, refl, sym, ◌∙◌, ap, subst, arith, Option, Some, None, IfSome, option_map, is_some, is_ok, vec_len, vec_capacity, if◌then◌else◌, Bool, true}
use Rattle.std.proofs.lemmas.List.{length_push}
use Rattle.fd_disk.specs.Folders.{WhereTold}
use Rattle.fd_disk.specs.Images.{synced, written}
use Rattle.fd_disk.specs.Moments.{LeavesOnly}
use Rattle.fd_entries.specs.declared.table.Entry.{Entry}
use Rattle.fd_entries.specs.Table.{Fits, gate_at}
use Rattle.fd_entries.proofs.StandingLemmas.{fit-push}
use Rattle.fd_toc.specs.Calls.{OpeningFails, opened}
use Rattle.fd_toc.specs.Lists.{Lists, ListsOrAlso}
use Rattle.fd_toc.specs.Sound.{IsOpen, IsSound}
use Rattle.fd_toc.specs.Writes.{IsUnsynced, LeftMeanwhile}
use Rattle.fd_toc.proofs.CallSteps.{gate_failed, gate_leaves, gate_stands, now_leaves}
use Rattle.fd_toc.proofs.Meanwhile.{leaves_also}
use Rattle.fd_toc.proofs.toc.Toc.gate.Goals as goal

pub invariant_of-self : goal.invariant_of-self
invariant_of-self g c =
    let d = c.self.inside.dataset in
    let es = c.self.inside.entries.items in
    let e = c.in-Some.entry in
    let old = g.T.Disk.file c.self.inside.table in
    let new = g.T.Disk.file c.write_firm.new.table in
    let n = length es in
    let place : c.gate_at-gate.result ≡ gate_at n = omega (arith, c.gate_at-gate.ensures.place, c.len.ensures) in
    let few : n < 65535 = c.self.invariant.staged_few (subst (λ (o : Option Entry). is_some o ≡ true) (sym c.in-Some.is) refl) in
    let none : c.self.inside.doubt ≡ None = ap (λ v. v.doubt) c.self.view_is ∙ c.requires.no_doubt in
    let s : IfSome old (IsSound d es None (Some e)) = subst (λ (o : Option Entry). IfSome old (IsSound d es o (Some e))) none (subst (λ (o : Option Entry). IfSome old (IsSound d es c.self.inside.doubt o)) c.in-Some.is c.self.invariant.sound) in
    let torn : WhereTold old new (OpeningFails n) = subst (λ (p : ℕ). WhereTold old new (λ f g. IsUnsynced f p (79 ∷ []) g)) place c.in_err-write_firm.ensures.err in
    record { few = c.self.invariant.few; fit = c.self.invariant.fit; staged_fit = tt; doubt_few = λ some. few; staged_few = λ some. absurd (cc some); sound = gate_failed d es old new e s torn }

pub returns-in_err-write_firm-clause-any_moment : goal.returns-in_err-write_firm-clause-any_moment
returns-in_err-write_firm-clause-any_moment g c =
    let d = c.self.inside.dataset in
    let es = c.self.inside.entries.items in
    let e = c.in-Some.entry in
    let old = g.T.Disk.file c.self.inside.table in
    let new = g.T.Disk.file c.write_firm.new.table in
    let n = length es in
    let place : c.gate_at-gate.result ≡ gate_at n = omega (arith, c.gate_at-gate.ensures.place, c.len.ensures) in
    let few : n < 65535 = c.self.invariant.staged_few (subst (λ (o : Option Entry). is_some o ≡ true) (sym c.in-Some.is) refl) in
    let none : c.self.inside.doubt ≡ None = ap (λ v. v.doubt) c.self.view_is ∙ c.requires.no_doubt in
    let s : IfSome old (IsSound d es None (Some e)) = subst (λ (o : Option Entry). IfSome old (IsSound d es o (Some e))) none (subst (λ (o : Option Entry). IfSome old (IsSound d es c.self.inside.doubt o)) c.in-Some.is c.self.invariant.sound) in
    let all : LeavesOnly g.T.Disk.moment g.T.Disk.left_since c.self.inside.table c.write_firm.new.table (LeftMeanwhile old (gate_at n) (79 ∷ [])) =
    subst (λ (p : ℕ). LeavesOnly g.T.Disk.moment g.T.Disk.left_since c.self.inside.table c.write_firm.new.table (LeftMeanwhile old p (79 ∷ []))) place c.in_err-write_firm.ensures.any_moment in
    let lists = leaves_also g.T.Disk.moment g.T.Disk.left_since c.self.inside.table c.write_firm.new.table (LeftMeanwhile old (gate_at n) (79 ∷ [])) (ListsOrAlso d es (Some e)) (λ f left. gate_leaves d es old e f s left) all in
    rw (← c.self.view_is) (subst (λ (o : Option Entry). LeavesOnly g.T.Disk.moment g.T.Disk.left_since c.self.inside.table c.write_firm.new.table (ListsOrAlso d es o)) (sym c.in-Some.is) lists)

pub invariant_of-self-2 : goal.invariant_of-self-2
invariant_of-self-2 g c =
    let d = c.self.inside.dataset in
    let es = c.self.inside.entries.items in
    let e = c.in-Some.entry in
    let old = g.T.Disk.file c.self.inside.table in
    let new = g.T.Disk.file c.write_firm.new.table in
    let n = length es in
    let place : c.gate_at-gate.result ≡ gate_at n = omega (arith, c.gate_at-gate.ensures.place, c.len.ensures) in
    let few : n < 65535 = c.self.invariant.staged_few (subst (λ (o : Option Entry). is_some o ≡ true) (sym c.in-Some.is) refl) in
    let none : c.self.inside.doubt ≡ None = ap (λ v. v.doubt) c.self.view_is ∙ c.requires.no_doubt in
    let s : IfSome old (IsSound d es None (Some e)) = subst (λ (o : Option Entry). IfSome old (IsSound d es o (Some e))) none (subst (λ (o : Option Entry). IfSome old (IsSound d es c.self.inside.doubt o)) c.in-Some.is c.self.invariant.sound) in
    let made : new ≡ option_map (opened n) old = c.in_ok-write_firm.ensures.ok ∙ (λ j. option_map (λ f. synced (written f (place j) (79 ∷ []))) old) in
    let stands = gate_stands d es old new e s made in
    let spare : min (vec_capacity c.self.inside.entries - length es) (2 ^ 32 - 1) ≡ c.args.self.now.spare = ap (λ v. v.spare) c.self.view_is in
    let room : vec_len c.self.inside.entries < vec_capacity c.self.inside.entries = omega (arith, spare, c.requires.spare) in
    let pushed : is_ok c.push.result ≡ true = c.push.ensures.succeeds room in
    let grown : c.push.new.self.items ≡ es ++ e ∷ [] = c.push.ensures.items ∙ ap (λ (b : Bool). if b then es ++ e ∷ [] else es) pushed in
    let fits : Fits n e = subst (λ (o : Option Entry). IfSome o (Fits n)) c.in-Some.is c.self.invariant.staged_fit in
    let at_end : n ≡ 0 + n = omega arith in
    subst (λ (l : List Entry). IsOpen new d l None None) (sym grown)
    (record { few = omega (arith, few, length_push es e); fit = fit-push 0 es e c.self.invariant.fit (subst (λ (i : ℕ). Fits i e) at_end fits); staged_fit = tt; doubt_few = λ some. absurd (cc some); staged_few = λ some. absurd (cc some); sound = stands })

pub returns-clause-any_moment : goal.returns-clause-any_moment
returns-clause-any_moment g c =
    let d = c.self.inside.dataset in
    let es = c.self.inside.entries.items in
    let e = c.in-Some.entry in
    let old = g.T.Disk.file c.self.inside.table in
    let new = g.T.Disk.file c.write_firm.new.table in
    let n = length es in
    let place : c.gate_at-gate.result ≡ gate_at n = omega (arith, c.gate_at-gate.ensures.place, c.len.ensures) in
    let few : n < 65535 = c.self.invariant.staged_few (subst (λ (o : Option Entry). is_some o ≡ true) (sym c.in-Some.is) refl) in
    let none : c.self.inside.doubt ≡ None = ap (λ v. v.doubt) c.self.view_is ∙ c.requires.no_doubt in
    let s : IfSome old (IsSound d es None (Some e)) = subst (λ (o : Option Entry). IfSome old (IsSound d es o (Some e))) none (subst (λ (o : Option Entry). IfSome old (IsSound d es c.self.inside.doubt o)) c.in-Some.is c.self.invariant.sound) in
    let all : LeavesOnly g.T.Disk.moment g.T.Disk.left_since c.self.inside.table c.write_firm.new.table (LeftMeanwhile old (gate_at n) (79 ∷ [])) =
    subst (λ (p : ℕ). LeavesOnly g.T.Disk.moment g.T.Disk.left_since c.self.inside.table c.write_firm.new.table (LeftMeanwhile old p (79 ∷ []))) place c.in_ok-write_firm.ensures.any_moment in
    let lists = leaves_also g.T.Disk.moment g.T.Disk.left_since c.self.inside.table c.write_firm.new.table (LeftMeanwhile old (gate_at n) (79 ∷ [])) (ListsOrAlso d es (Some e)) (λ f left. gate_leaves d es old e f s left) all in
    rw (← c.self.view_is) (subst (λ (o : Option Entry). LeavesOnly g.T.Disk.moment g.T.Disk.left_since c.self.inside.table c.write_firm.new.table (ListsOrAlso d es o)) (sym c.in-Some.is) lists)

pub returns-clause-images : goal.returns-clause-images
returns-clause-images g c =
    let d = c.self.inside.dataset in
    let es = c.self.inside.entries.items in
    let e = c.in-Some.entry in
    let old = g.T.Disk.file c.self.inside.table in
    let new = g.T.Disk.file c.write_firm.new.table in
    let n = length es in
    let place : c.gate_at-gate.result ≡ gate_at n = omega (arith, c.gate_at-gate.ensures.place, c.len.ensures) in
    let few : n < 65535 = c.self.invariant.staged_few (subst (λ (o : Option Entry). is_some o ≡ true) (sym c.in-Some.is) refl) in
    let none : c.self.inside.doubt ≡ None = ap (λ v. v.doubt) c.self.view_is ∙ c.requires.no_doubt in
    let s : IfSome old (IsSound d es None (Some e)) = subst (λ (o : Option Entry). IfSome old (IsSound d es o (Some e))) none (subst (λ (o : Option Entry). IfSome old (IsSound d es c.self.inside.doubt o)) c.in-Some.is c.self.invariant.sound) in
    let made : new ≡ option_map (opened n) old = c.in_ok-write_firm.ensures.ok ∙ (λ j. option_map (λ f. synced (written f (place j) (79 ∷ []))) old) in
    let stands = gate_stands d es old new e s made in
    let spare : min (vec_capacity c.self.inside.entries - length es) (2 ^ 32 - 1) ≡ c.args.self.now.spare = ap (λ v. v.spare) c.self.view_is in
    let room : vec_len c.self.inside.entries < vec_capacity c.self.inside.entries = omega (arith, spare, c.requires.spare) in
    let pushed : is_ok c.push.result ≡ true = c.push.ensures.succeeds room in
    let grown : c.push.new.self.items ≡ es ++ e ∷ [] = c.push.ensures.items ∙ ap (λ (b : Bool). if b then es ++ e ∷ [] else es) pushed in
    λ f image. subst (λ (l : List Entry). Lists d l f) (sym grown) (now_leaves d (es ++ e ∷ []) new None None f stands image)
