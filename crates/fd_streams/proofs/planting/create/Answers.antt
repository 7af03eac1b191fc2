use Rattle.std.proofs.Common.{◌≡◌, ◌∙◌, refl, subst, Some, None, ◌≤◌, arith}
use Rattle.std.specs.Prelude.{IfSome, option_map}
use Rattle.fd_outcome.specs.Objects.{object}
use Rattle.fd_streams.proofs.CreateExits.{disk_stop_at, earlier, memory_stop_at, present_at, rose_later}
use Rattle.fd_streams.proofs.Created.{fit, none_there, nothing_read, only_from, same_only}
use Rattle.fd_streams.proofs.planting.create.Goals as goal

pub returns-in-Err-Fault-clause-ran : goal.returns-in-Err-Fault-clause-ran
returns-in-Err-Fault-clause-ran g c =
    let a = g.W.Output.Sink.taken c.args.objects.now.output in
    let k = g.W.Output.Sink.faults c.args.objects.now.output in
    disk_stop_at _ _ _ _ _ _ _ _ a k _ _ _ _ _ _ (c.tell_noted.ensures.has ∙ c.in-Err-Fault.ensures.has) c.tell_noted.ensures.told (rose_later _ _ _ c.in-Err-Fault.ensures.cause.later c.tell_noted.ensures.noted)

pub returns-in-Err-NoMemory-clause-ran : goal.returns-in-Err-NoMemory-clause-ran
returns-in-Err-NoMemory-clause-ran g c =
    let a = g.W.Output.Sink.taken c.args.objects.now.output in
    let k = g.W.Output.Sink.faults c.args.objects.now.output in
    memory_stop_at _ _ _ _ _ _ _ _ a k _ _ _ _ _ _ c.in-Err-NoMemory.ensures.has c.tell_no_memory.ensures

pub returns-in-Ok-None-clause-ran : goal.returns-in-Ok-None-clause-ran
returns-in-Ok-None-clause-ran g c =
    let a = g.W.Output.Sink.taken c.args.objects.now.output in
    let k = g.W.Output.Sink.faults c.args.objects.now.output in
    let later : g.W.Store.Store.faults c.args.objects.now.store ≤ g.W.Store.Store.faults c.schema.new.self = omega (arith, c.in-Ok.ensures.cause.later, c.in-Ok-None.ensures.cause.later) in
    earlier _ _ _ _ _ _ _ _ _ _ _ (c.in-Ok-None.ensures.has ∙ c.in-Ok.ensures.has) later c.plant.ensures.ran

pub returns-in-Ok-Some-clause-ran : goal.returns-in-Ok-Some-clause-ran
returns-in-Ok-Some-clause-ran g c =
    let a = g.W.Output.Sink.taken c.args.objects.now.output in
    let k = g.W.Output.Sink.faults c.args.objects.now.output in
    present_at _ _ _ _ _ _ _ _ a k _ _ _ _ _ _ (c.in-Ok-Some.ensures.has ∙ c.in-Ok.ensures.has) refl c.tell.ensures c.in-Ok-Some.field-0-0 (subst (λ k. IfSome k (λ s. option_map (λ v. v.items) (Some c.in-Ok-Some.field-0-0) ≡ s.schema)) c.in-Ok.ensures.has (subst (λ o. IfSome (g.W.Store.Store.has c.enter.new.self) (λ s. option_map (λ v. v.items) o ≡ s.schema)) c.in-Ok-Some.field-0-is c.in-Ok-Some.ensures.given))

pub returns-in-Err-Fault-schema-clause-ran : goal.returns-in-Err-Fault-schema-clause-ran
returns-in-Err-Fault-schema-clause-ran g c =
    let a = g.W.Output.Sink.taken c.args.objects.now.output in
    let k = g.W.Output.Sink.faults c.args.objects.now.output in
    let later : g.W.Store.Store.faults c.args.objects.now.store ≤ g.W.Store.Store.faults c.schema.new.self = omega (arith, c.in-Ok.ensures.cause.later, c.in-Err-Fault-schema.ensures.cause.later) in
    disk_stop_at _ _ _ _ _ _ _ _ a k _ _ _ _ _ _ (c.tell_noted-in-Err-Fault-schema.ensures.has ∙ (c.in-Err-Fault-schema.ensures.has ∙ c.in-Ok.ensures.has)) c.tell_noted-in-Err-Fault-schema.ensures.told (rose_later _ _ _ later c.tell_noted-in-Err-Fault-schema.ensures.noted)

pub returns-clause-ran : goal.returns-clause-ran
returns-clause-ran g c =
    let a = g.W.Output.Sink.taken c.args.objects.now.output in
    let k = g.W.Output.Sink.faults c.args.objects.now.output in
    memory_stop_at _ _ _ _ _ _ _ _ a k _ _ _ _ _ _ (c.in-Err-NoMemory-schema.ensures.has ∙ c.in-Ok.ensures.has) c.tell_no_memory-in-Err-NoMemory-schema.ensures

pub returns-in-Err-Fault-clause-kept : goal.returns-in-Err-Fault-clause-kept
returns-in-Err-Fault-clause-kept g c = same_only (g.W.Input.Source.left c.args.objects.now.input) (g.W.Store.Store.has c.args.objects.now.store) (g.W.Store.Store.has c.tell_noted.new.store) (c.tell_noted.ensures.has ∙ c.in-Err-Fault.ensures.has)

pub returns-in-Err-NoMemory-clause-kept : goal.returns-in-Err-NoMemory-clause-kept
returns-in-Err-NoMemory-clause-kept g c = same_only (g.W.Input.Source.left c.args.objects.now.input) (g.W.Store.Store.has c.args.objects.now.store) (g.W.Store.Store.has c.enter.new.self) c.in-Err-NoMemory.ensures.has

pub returns-in-Ok-Some-clause-kept : goal.returns-in-Ok-Some-clause-kept
returns-in-Ok-Some-clause-kept g c = same_only (g.W.Input.Source.left c.args.objects.now.input) (g.W.Store.Store.has c.args.objects.now.store) (g.W.Store.Store.has c.schema.new.self) (c.in-Ok-Some.ensures.has ∙ c.in-Ok.ensures.has)

pub returns-in-Err-Fault-schema-clause-kept : goal.returns-in-Err-Fault-schema-clause-kept
returns-in-Err-Fault-schema-clause-kept g c = same_only (g.W.Input.Source.left c.args.objects.now.input) (g.W.Store.Store.has c.args.objects.now.store) (g.W.Store.Store.has c.tell_noted-in-Err-Fault-schema.new.store) (c.tell_noted-in-Err-Fault-schema.ensures.has ∙ (c.in-Err-Fault-schema.ensures.has ∙ c.in-Ok.ensures.has))

pub returns-clause-kept : goal.returns-clause-kept
returns-clause-kept g c = same_only (g.W.Input.Source.left c.args.objects.now.input) (g.W.Store.Store.has c.args.objects.now.store) (g.W.Store.Store.has c.schema.new.self) (c.in-Err-NoMemory-schema.ensures.has ∙ c.in-Ok.ensures.has)

pub returns-in-Ok-None-clause-kept : goal.returns-in-Ok-None-clause-kept
returns-in-Ok-None-clause-kept g c = only_from (g.W.Input.Source.left c.args.objects.now.input) (g.W.Store.Store.has c.args.objects.now.store) (g.W.Store.Store.has c.schema.new.self) (g.W.Store.Store.has c.plant.new.objects.store) (c.in-Ok-None.ensures.has ∙ c.in-Ok.ensures.has) c.plant.ensures.kept

pub returns-in-Err-Fault-clause-unread : goal.returns-in-Err-Fault-clause-unread
returns-in-Err-Fault-clause-unread g c = nothing_read c.args.root.now (g.W.Store.Store.has c.args.objects.now.store) (g.W.Store.Store.has c.tell_noted.new.store) (g.W.Store.Store.faults c.args.objects.now.store) (g.W.Store.Store.faults c.tell_noted.new.store) (g.W.Input.Source.left c.args.objects.now.input) (g.W.Input.Source.faults c.args.objects.now.input)

pub returns-in-Err-NoMemory-clause-unread : goal.returns-in-Err-NoMemory-clause-unread
returns-in-Err-NoMemory-clause-unread g c = nothing_read c.args.root.now (g.W.Store.Store.has c.args.objects.now.store) (g.W.Store.Store.has c.enter.new.self) (g.W.Store.Store.faults c.args.objects.now.store) (g.W.Store.Store.faults c.enter.new.self) (g.W.Input.Source.left c.args.objects.now.input) (g.W.Input.Source.faults c.args.objects.now.input)

pub returns-in-Ok-Some-clause-unread : goal.returns-in-Ok-Some-clause-unread
returns-in-Ok-Some-clause-unread g c = nothing_read c.args.root.now (g.W.Store.Store.has c.args.objects.now.store) (g.W.Store.Store.has c.schema.new.self) (g.W.Store.Store.faults c.args.objects.now.store) (g.W.Store.Store.faults c.schema.new.self) (g.W.Input.Source.left c.args.objects.now.input) (g.W.Input.Source.faults c.args.objects.now.input)

pub returns-in-Err-Fault-schema-clause-unread : goal.returns-in-Err-Fault-schema-clause-unread
returns-in-Err-Fault-schema-clause-unread g c = nothing_read c.args.root.now (g.W.Store.Store.has c.args.objects.now.store) (g.W.Store.Store.has c.tell_noted-in-Err-Fault-schema.new.store) (g.W.Store.Store.faults c.args.objects.now.store) (g.W.Store.Store.faults c.tell_noted-in-Err-Fault-schema.new.store) (g.W.Input.Source.left c.args.objects.now.input) (g.W.Input.Source.faults c.args.objects.now.input)

pub returns-clause-unread : goal.returns-clause-unread
returns-clause-unread g c = nothing_read c.args.root.now (g.W.Store.Store.has c.args.objects.now.store) (g.W.Store.Store.has c.schema.new.self) (g.W.Store.Store.faults c.args.objects.now.store) (g.W.Store.Store.faults c.schema.new.self) (g.W.Input.Source.left c.args.objects.now.input) (g.W.Input.Source.faults c.args.objects.now.input)

pub returns-in-Ok-None-clause-unread : goal.returns-in-Ok-None-clause-unread
returns-in-Ok-None-clause-unread g c =
    fit c.args.root.now (g.W.Store.Store.has c.args.objects.now.store) (g.W.Store.Store.has c.plant.new.objects.store) (g.W.Store.Store.faults c.args.objects.now.store) (g.W.Store.Store.faults c.plant.new.objects.store)
    (object (g.W.Input.Source.left c.args.objects.now.input) (g.W.Input.Source.left c.plant.new.objects.input) (g.W.Input.Source.faults c.args.objects.now.input) (g.W.Input.Source.faults c.plant.new.objects.input))
    (subst (λ k. IfSome k (λ h. h.schema ≡ None)) c.in-Ok.ensures.has (none_there (g.W.Store.Store.has c.enter.new.self) c.in-Ok-None.field-0 c.in-Ok-None.field-0-is c.in-Ok-None.ensures.given))
