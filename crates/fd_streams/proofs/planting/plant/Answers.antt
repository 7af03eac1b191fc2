use Rattle.std.proofs.Common.{◌≡◌, ◌∙◌, refl, sym, ap, subst, Err, Ok}
use Rattle.std.specs.Prelude.{◌⊎◌, option_map}
use Rattle.fd_bytes.specs.Causes.{Rose}
use Rattle.fd_disk.specs.Folders.{planted as stores}
use Rattle.fd_schema.specs.Grammar.{schema_of}
use Rattle.fd_disk.specs.Causes.{OnNoMemory}
use Rattle.fd_schema.specs.Reading.{GivesSchema}
use Rattle.fd_outcome.specs.Reading.{OnUnread}
use Rattle.fd_streams.proofs.CreateExits.{RanTo, input_stop, memory_stop, bad, done, failed, rose_later}
use Rattle.fd_streams.proofs.Created.{maybe_only, planted_only, same_only, Only}
use Rattle.fd_streams.proofs.planting.plant.Goals as goal

pub returns-in-Err-Fault-clause-ran : goal.returns-in-Err-Fault-clause-ran
returns-in-Err-Fault-clause-ran g c =
    let a = g.W.Output.Sink.taken c.args.objects.now.output in
    let k = g.W.Output.Sink.faults c.args.objects.now.output in
    input_stop _ _ _ _ _ _ _ _ a k _ _ _ _ _ c.tell_input_failed.ensures
    (subst (λ e. OnUnread e (Rose (g.W.Input.Source.faults c.args.objects.now.input) (g.W.Input.Source.faults c.read_front.new.input))) c.in-Err-Fault.field-0-is c.in-Err-Fault.ensures.cause)

pub returns-in-Err-NoMemory-clause-ran : goal.returns-in-Err-NoMemory-clause-ran
returns-in-Err-NoMemory-clause-ran g c =
    let a = g.W.Output.Sink.taken c.args.objects.now.output in
    let k = g.W.Output.Sink.faults c.args.objects.now.output in
    memory_stop _ _ _ _ _ _ _ _ a k _ _ _ _ _ c.tell_no_memory.ensures

pub returns-in-Err-At-clause-ran : goal.returns-in-Err-At-clause-ran
returns-in-Err-At-clause-ran g c =
    let a = g.W.Output.Sink.taken c.args.objects.now.output in
    let k = g.W.Output.Sink.faults c.args.objects.now.output in
    let first = subst (λ e. GivesSchema c.in-Ok.text.items (Err e)) c.in-Err-At.field-0-is (subst (λ t. GivesSchema t (Err c.in-Err-At.field-0)) c.deref.ensures.value c.in-Err-At.ensures) in
    bad _ _ _ _ _ _ _ _ a k _ _ _ _ _ c.in-Ok.text.items c.in-Ok.ensures.given c.in-Ok.ensures.whole c.requires.none c.in-Ok.ensures.calm first.0 first.1.place (c.tell_schema.ensures c.in-Ok.text.items first.0 first.1)

pub returns-in-Err-NoMemory-read-clause-ran : goal.returns-in-Err-NoMemory-read-clause-ran
returns-in-Err-NoMemory-read-clause-ran g c =
    let a = g.W.Output.Sink.taken c.args.objects.now.output in
    let k = g.W.Output.Sink.faults c.args.objects.now.output in
    memory_stop _ _ _ _ _ _ _ _ a k _ _ _ _ _ c.tell_no_memory-in-Err-NoMemory-read.ensures

pub returns-in-Ok-plant-clause-ran : goal.returns-in-Ok-plant-clause-ran
returns-in-Ok-plant-clause-ran g c =
    let a = g.W.Output.Sink.taken c.args.objects.now.output in
    let k = g.W.Output.Sink.faults c.args.objects.now.output in
    let rules = subst (λ t. schema_of t ≡ Ok c.in-Ok-read.field-0) c.deref.ensures.value c.in-Ok-read.ensures in
    let now = c.in-Ok-plant.ensures.ok ∙ ap (λ t. option_map (stores t) (g.W.Store.Store.has c.args.objects.now.store)) c.deref-2.ensures.value in
    subst (RanTo c.args.root.now (g.W.Store.Store.has c.args.objects.now.store) (g.W.Store.Store.faults c.args.objects.now.store) (g.W.Store.Store.faults c.plant.new.self) (g.W.Input.Source.left c.args.objects.now.input) (g.W.Input.Source.left c.read_front.new.input) (g.W.Input.Source.faults c.args.objects.now.input) (g.W.Input.Source.faults c.read_front.new.input) a k (g.W.Report.Sink.taken c.args.objects.now.report) (g.W.Report.Sink.taken c.tell.new.report) (g.W.Report.Sink.faults c.args.objects.now.report) (g.W.Report.Sink.faults c.tell.new.report) c.tell.result) (sym now)
    (done _ _ _ _ _ _ _ _ a k _ _ _ _ _ c.in-Ok.text.items c.in-Ok.ensures.given c.in-Ok.ensures.whole c.requires.none c.in-Ok.ensures.calm c.in-Ok-read.field-0 rules c.tell.ensures)

pub returns-in-Err-Fault-plant-clause-ran : goal.returns-in-Err-Fault-plant-clause-ran
returns-in-Err-Fault-plant-clause-ran g c =
    let a = g.W.Output.Sink.taken c.args.objects.now.output in
    let k = g.W.Output.Sink.faults c.args.objects.now.output in
    let rules = subst (λ t. schema_of t ≡ Ok c.in-Ok-read.field-0) c.deref.ensures.value c.in-Ok-read.ensures in
    let now = subst (λ t. (g.W.Store.Store.has c.plant.new.self ≡ g.W.Store.Store.has c.args.objects.now.store) ⊎ (g.W.Store.Store.has c.plant.new.self ≡ option_map (stores t) (g.W.Store.Store.has c.args.objects.now.store))) c.deref-2.ensures.value c.in-Err-Fault-plant.ensures.err in
    let noted = subst (λ x. (x ≡ g.W.Store.Store.has c.args.objects.now.store) ⊎ (x ≡ option_map (stores c.in-Ok.text.items) (g.W.Store.Store.has c.args.objects.now.store))) (sym c.tell_noted.ensures.has) now in
    failed _ _ _ _ _ _ _ _ a k _ _ _ _ _ c.in-Ok.text.items c.in-Ok.ensures.given c.in-Ok.ensures.whole c.requires.none c.in-Ok.ensures.calm c.in-Ok-read.field-0 rules _ noted c.tell_noted.ensures.told (rose_later _ _ _ c.in-Err-Fault-plant.ensures.cause.later c.tell_noted.ensures.noted)

pub returns-clause-ran : goal.returns-clause-ran
returns-clause-ran g c =
    let a = g.W.Output.Sink.taken c.args.objects.now.output in
    let k = g.W.Output.Sink.faults c.args.objects.now.output in
    let same = subst (λ e. OnNoMemory e (g.W.Store.Store.has c.plant.new.self ≡ g.W.Store.Store.has c.args.objects.now.store)) c.in-Err-NoMemory-plant.field-0-is c.in-Err-NoMemory-plant.ensures.refused in
    subst (RanTo c.args.root.now (g.W.Store.Store.has c.args.objects.now.store) (g.W.Store.Store.faults c.args.objects.now.store) (g.W.Store.Store.faults c.plant.new.self) (g.W.Input.Source.left c.args.objects.now.input) (g.W.Input.Source.left c.read_front.new.input) (g.W.Input.Source.faults c.args.objects.now.input) (g.W.Input.Source.faults c.read_front.new.input) a k (g.W.Report.Sink.taken c.args.objects.now.report) (g.W.Report.Sink.taken c.tell_no_memory-in-Err-NoMemory-plant.new.report) (g.W.Report.Sink.faults c.args.objects.now.report) (g.W.Report.Sink.faults c.tell_no_memory-in-Err-NoMemory-plant.new.report) c.tell_no_memory-in-Err-NoMemory-plant.result) (sym same)
    (memory_stop _ _ _ _ _ _ _ _ a k _ _ _ _ _ c.tell_no_memory-in-Err-NoMemory-plant.ensures)

pub returns-in-Err-Fault-clause-kept : goal.returns-in-Err-Fault-clause-kept
returns-in-Err-Fault-clause-kept g c = same_only (g.W.Input.Source.left c.args.objects.now.input) (g.W.Store.Store.has c.args.objects.now.store) (g.W.Store.Store.has c.args.objects.now.store) refl

pub returns-in-Err-NoMemory-clause-kept : goal.returns-in-Err-NoMemory-clause-kept
returns-in-Err-NoMemory-clause-kept g c = same_only (g.W.Input.Source.left c.args.objects.now.input) (g.W.Store.Store.has c.args.objects.now.store) (g.W.Store.Store.has c.args.objects.now.store) refl

pub returns-in-Err-At-clause-kept : goal.returns-in-Err-At-clause-kept
returns-in-Err-At-clause-kept g c = same_only (g.W.Input.Source.left c.args.objects.now.input) (g.W.Store.Store.has c.args.objects.now.store) (g.W.Store.Store.has c.args.objects.now.store) refl

pub returns-in-Err-NoMemory-read-clause-kept : goal.returns-in-Err-NoMemory-read-clause-kept
returns-in-Err-NoMemory-read-clause-kept g c = same_only (g.W.Input.Source.left c.args.objects.now.input) (g.W.Store.Store.has c.args.objects.now.store) (g.W.Store.Store.has c.args.objects.now.store) refl

pub returns-in-Ok-plant-clause-kept : goal.returns-in-Ok-plant-clause-kept
returns-in-Ok-plant-clause-kept g c =
    let rules = subst (λ t. schema_of t ≡ Ok c.in-Ok-read.field-0) c.deref.ensures.value c.in-Ok-read.ensures in
    let now = c.in-Ok-plant.ensures.ok ∙ ap (λ t. option_map (stores t) (g.W.Store.Store.has c.args.objects.now.store)) c.deref-2.ensures.value in
    subst (Only (g.W.Input.Source.left c.args.objects.now.input) (g.W.Store.Store.has c.args.objects.now.store)) (sym now) (planted_only (g.W.Input.Source.left c.args.objects.now.input) (g.W.Input.Source.left c.read_front.new.input) c.in-Ok.text.items c.in-Ok.ensures.given c.in-Ok.ensures.whole c.in-Ok-read.field-0 rules (g.W.Store.Store.has c.args.objects.now.store) c.requires.none)

pub returns-in-Err-Fault-plant-clause-kept : goal.returns-in-Err-Fault-plant-clause-kept
returns-in-Err-Fault-plant-clause-kept g c =
    let rules = subst (λ t. schema_of t ≡ Ok c.in-Ok-read.field-0) c.deref.ensures.value c.in-Ok-read.ensures in
    let now = subst (λ t. (g.W.Store.Store.has c.plant.new.self ≡ g.W.Store.Store.has c.args.objects.now.store) ⊎ (g.W.Store.Store.has c.plant.new.self ≡ option_map (stores t) (g.W.Store.Store.has c.args.objects.now.store))) c.deref-2.ensures.value c.in-Err-Fault-plant.ensures.err in
    let noted = subst (λ x. (x ≡ g.W.Store.Store.has c.args.objects.now.store) ⊎ (x ≡ option_map (stores c.in-Ok.text.items) (g.W.Store.Store.has c.args.objects.now.store))) (sym c.tell_noted.ensures.has) now in
    maybe_only (g.W.Input.Source.left c.args.objects.now.input) (g.W.Input.Source.left c.read_front.new.input) c.in-Ok.text.items c.in-Ok.ensures.given c.in-Ok.ensures.whole c.in-Ok-read.field-0 rules (g.W.Store.Store.has c.args.objects.now.store) (g.W.Store.Store.has c.tell_noted.new.store) c.requires.none noted

pub returns-clause-kept : goal.returns-clause-kept
returns-clause-kept g c =
    let same = subst (λ e. OnNoMemory e (g.W.Store.Store.has c.plant.new.self ≡ g.W.Store.Store.has c.args.objects.now.store)) c.in-Err-NoMemory-plant.field-0-is c.in-Err-NoMemory-plant.ensures.refused in
    same_only (g.W.Input.Source.left c.args.objects.now.input) (g.W.Store.Store.has c.args.objects.now.store) (g.W.Store.Store.has c.plant.new.self) same
