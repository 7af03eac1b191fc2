use Rattle.std.proofs.Common.{subst, ◌∙◌, rules, refl, sym, ap, take}
use Rattle.std.proofs.lemmas.List.{take_all}
use Rattle.fd_io.specs.Streams.{Takes, TakesFront}
use Rattle.fd_io.proofs.Bytes.{Takes-none}
use Rattle.fd_streams.specs.Parted.{messages_of}
use Rattle.fd_streams.proofs.PartSteps.{front_of, front_in, next, no_sections}
use Rattle.fd_streams.proofs.parting.write_fields.Goals as goal

pub loop-i-init : goal.loop-i-init
loop-i-init g c = record { took = Takes-none (g.K.Sink.taken c.args.output.now); calm = refl }

pub returns-in_default-clause-halted : goal.returns-in_default-clause-halted
returns-in_default-clause-halted g c = front_of _ _ _ c.loop-i.i c.loop-i.invariant.took

pub returns-in-Err-clause-halted : goal.returns-in-Err-clause-halted
returns-in-Err-clause-halted g c = front_in _ _ _ _ c.loop-i.i no_sections (search rules) c.loop-i.invariant.took (subst (TakesFront _ _) (c.deref.ensures.value ∙ c.in-Ok.ensures no_sections) c.in-Err.ensures.front)

pub loop-i-preserved : goal.loop-i-preserved
loop-i-preserved g c = record {
  took = next _ _ _ _ c.loop-i.i no_sections (search rules) c.loop-i.invariant.took (subst (Takes _ _) (c.deref.ensures.value ∙ c.in-Ok.ensures no_sections) c.in_default-write_all.ensures.took);
  calm = search rules;
}
