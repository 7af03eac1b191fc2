use Rattle.std.proofs.Common.{rules, sym, subst}
use Rattle.fd_segment.specs.Shared.{standings}
use Rattle.fd_purge.specs.Causes.{OnDamaged, OnNotATable}
use Rattle.fd_purge.specs.Reads.{AreRead, IsAmongBad}
use Rattle.fd_purge.proofs.ExitLemmas.{lens_bad, lens_damaged}
use Rattle.fd_purge.proofs.purging.sorted_out.Goals as goal

pub returns-in-Err-clause-table : goal.returns-in-Err-clause-table
returns-in-Err-clause-table g c = subst (λ e. OnNotATable e (λ fault. ⊥)) (sym c.of_lens.ensures) (lens_bad c.in-Err.fault (λ fault. ⊥))

pub returns-in-Err-clause-damaged : goal.returns-in-Err-clause-damaged
returns-in-Err-clause-damaged g c = subst (λ e. OnDamaged e (IsAmongBad (standings c.args.segments.items))) (sym c.of_lens.ensures) (lens_damaged c.in-Err.fault (IsAmongBad (standings c.args.segments.items)) (search rules))

pub returns-in-Ok-divide-clause-kept : goal.returns-in-Ok-divide-clause-kept
returns-in-Ok-divide-clause-kept g c = λ kss read. let m = c.in-Ok.ensures.masks kss (subst (λ arcs. AreRead (standings arcs) kss) (sym c.deref.ensures.value) read) in let k = c.in-Ok-divide.ensures.kept in cc

pub returns-in-Ok-divide-clause-dropped : goal.returns-in-Ok-divide-clause-dropped
returns-in-Ok-divide-clause-dropped g c = λ kss read. let m = c.in-Ok.ensures.masks kss (subst (λ arcs. AreRead (standings arcs) kss) (sym c.deref.ensures.value) read) in let k = c.in-Ok-divide.ensures.dropped in cc

pub returns-in-Ok-divide-clause-within : goal.returns-in-Ok-divide-clause-within
returns-in-Ok-divide-clause-within g c = λ kss read. let m = c.in-Ok.ensures.masks kss (subst (λ arcs. AreRead (standings arcs) kss) (sym c.deref.ensures.value) read) in let k = c.in-Ok-divide.ensures.within in cc
