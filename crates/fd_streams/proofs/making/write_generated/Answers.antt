use Rattle.std.proofs.Common.{subst, ◌∙◌, rules}
use Rattle.fd_io.specs.Streams.{Takes, TakesFront}
use Rattle.fd_streams.proofs.Generated.{front_of, front_in, next}
use Rattle.fd_streams.proofs.making.write_generated.Goals as goal

pub returns-in_default-clause-front : goal.returns-in_default-clause-front
returns-in_default-clause-front g c = front_of _ _ c.loop-i.i c.args.count (search rules) c.loop-i.invariant.took

pub returns-in-Err-clause-front : goal.returns-in-Err-clause-front
returns-in-Err-clause-front g c = front_in _ _ _ c.loop-i.i c.args.count (search rules) c.loop-i.invariant.took (subst (TakesFront _ _) (c.deref.ensures.value ∙ c.in-Ok.ensures.octets) c.in-Err.ensures.front)

pub loop-i-preserved : goal.loop-i-preserved
loop-i-preserved g c = record {
  took = next _ _ _ c.loop-i.i c.loop-i.invariant.took (subst (Takes _ _) (c.deref.ensures.value ∙ c.in-Ok.ensures.octets) c.in_default-write_all.ensures.took);
  calm = search rules;
}
