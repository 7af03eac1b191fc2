use Rattle.std.proofs.Common.{◌≡◌, ◌∙◌, sym, subst, inl, ℕ, List, [], ◌∷◌, ◌++◌, append_assoc, codes, Option, Result, Ok, Err, IfOk, String, Global, string_bytes}
use Rattle.std.specs.Fmt.{decimal}
use Rattle.fd_key.specs.FaultTexts.{key_fault_text}
use Rattle.fd_packing.specs.FaultTexts.{field_fault_text}
use Rattle.fd_split.specs.declared.refusal.Refusal.{Refusal}
use Rattle.fd_split.specs.declared.refusal.Refusal.TheVariants as refusals
use Rattle.fd_stored.specs.declared.status.Status.{Status}
use Rattle.fd_stored.specs.Refusals.{refusal_line, refusal_status, refused_field_line, refused_key_line, refused_map_line}
use Rattle.fd_outcome.specs.Told.{ToldOrNoMemory}
use Rattle.fd_outcome.proofs.report.tell_refusal.Goals as goal

-- what is told of the one refusal is told of the other, which is the same
same_refusal : (r s : Refusal) (result : Status) (c d : Option (List ℕ)) (m n : ℕ) → r ≡ s → ToldOrNoMemory (refusal_status s) (refusal_line s) result c d m n → ToldOrNoMemory (refusal_status r) (refusal_line r) result c d m n
same_refusal r s result c d m n e told = subst (λ (x : Refusal). ToldOrNoMemory (refusal_status x) (refusal_line x) result c d m n) (sym e) told

ok_is : {E : Type 0} (r : Result (String Global) E) (x y : List ℕ) → x ≡ y → IfOk r (λ t. string_bytes t ≡ x) → IfOk r (λ t. string_bytes t ≡ y)
ok_is (Ok t) x y e h = h ∙ e
ok_is (Err f) x y e h = tt

regroup_map : (number field : List ℕ) → codes "refused message " ++ (number ++ (codes " NoMap " ++ (field ++ 10 ∷ []))) ≡ (((codes "refused message " ++ number) ++ codes " NoMap ") ++ field) ++ 10 ∷ []
regroup_map number field = simp append_assoc

regroup_kind : (text number kind : List ℕ) → text ++ (number ++ (32 ∷ (kind ++ 10 ∷ []))) ≡ (((text ++ number) ++ 32 ∷ []) ++ kind) ++ 10 ∷ []
regroup_kind text number kind = simp append_assoc

pub returns-in-NoMap-clause-told : goal.returns-in-NoMap-clause-told
returns-in-NoMap-clause-told g c =
    same_refusal c.args.refusal (refusals.NoMap c.in-NoMap.number c.in-NoMap.field) c.tell_made-in-NoMap.result (g.E.Sink.taken c.args.report.now) (g.E.Sink.taken c.tell_made-in-NoMap.new.report) (g.E.Sink.faults c.args.report.now) (g.E.Sink.faults c.tell_made-in-NoMap.new.report) c.in-NoMap.is
    (c.tell_made-in-NoMap.ensures (refused_map_line c.in-NoMap.number c.in-NoMap.field) (ok_is c.format-line-in-NoMap.result _ _ (regroup_map (decimal c.in-NoMap.number) (decimal c.in-NoMap.field)) c.format-line-in-NoMap.ensures.ok))

pub returns-in-Key-clause-told : goal.returns-in-Key-clause-told
returns-in-Key-clause-told g c =
    same_refusal c.args.refusal (refusals.Key c.in-Key.number c.in-Key.fault) c.tell_made-in-Key.result (g.E.Sink.taken c.args.report.now) (g.E.Sink.taken c.tell_made-in-Key.new.report) (g.E.Sink.faults c.args.report.now) (g.E.Sink.faults c.tell_made-in-Key.new.report) c.in-Key.is
    (c.tell_made-in-Key.ensures (refused_key_line c.in-Key.number c.in-Key.fault) (ok_is c.format-line-in-Key.result _ _ (regroup_kind (codes "refused key ") (decimal c.in-Key.number) (key_fault_text c.in-Key.fault)) c.format-line-in-Key.ensures.ok))

pub returns-in-Field-clause-told : goal.returns-in-Field-clause-told
returns-in-Field-clause-told g c =
    same_refusal c.args.refusal (refusals.Field c.in-Field.number c.in-Field.fault) c.tell_made-in-Field.result (g.E.Sink.taken c.args.report.now) (g.E.Sink.taken c.tell_made-in-Field.new.report) (g.E.Sink.faults c.args.report.now) (g.E.Sink.faults c.tell_made-in-Field.new.report) c.in-Field.is
    (c.tell_made-in-Field.ensures (refused_field_line c.in-Field.number c.in-Field.fault) (ok_is c.format-line-in-Field.result _ _ (regroup_kind (codes "refused field ") (decimal c.in-Field.number) (field_fault_text c.in-Field.fault)) c.format-line-in-Field.ensures.ok))

pub returns-in-TooLong-clause-told : goal.returns-in-TooLong-clause-told
returns-in-TooLong-clause-told g c =
    same_refusal c.args.refusal (refusals.TooLong c.in-TooLong.len) c.tell_number.result (g.E.Sink.taken c.args.report.now) (g.E.Sink.taken c.tell_number.new.report) (g.E.Sink.faults c.args.report.now) (g.E.Sink.faults c.tell_number.new.report) c.in-TooLong.is
    (c.tell_number.ensures)

pub returns-in-Points-clause-told : goal.returns-in-Points-clause-told
returns-in-Points-clause-told g c =
    same_refusal c.args.refusal (refusals.Points c.in-Points.points) c.tell_number-in-Points.result (g.E.Sink.taken c.args.report.now) (g.E.Sink.taken c.tell_number-in-Points.new.report) (g.E.Sink.faults c.args.report.now) (g.E.Sink.faults c.tell_number-in-Points.new.report) c.in-Points.is
    (c.tell_number-in-Points.ensures)

pub returns-in-Input-clause-told : goal.returns-in-Input-clause-told
returns-in-Input-clause-told g c =
    same_refusal c.args.refusal (refusals.Input) c.tell.result (g.E.Sink.taken c.args.report.now) (g.E.Sink.taken c.tell.new.report) (g.E.Sink.faults c.args.report.now) (g.E.Sink.faults c.tell.new.report) c.in-Input.is
    (inl c.tell.ensures)
