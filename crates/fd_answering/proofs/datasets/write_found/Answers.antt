use Rattle.std.proofs.Common.{◌≡◌, Some, IfSome, subst}
use Rattle.fd_segment.specs.Copying.{IsCopied, IsCopiedInPart}
use Rattle.fd_ahead.specs.declared.located.Located.{Located}
use Rattle.fd_ahead.specs.Places.{InSegment, IsIn, IsMetAt}
use Rattle.fd_answering.specs.Located.{IsAt}
use Rattle.fd_answering.specs.Damages.{IsDamagedAt}
use Rattle.fd_answering.proofs.DamageLemmas.{copied_damage, in_dataset, on_damaged}
use Rattle.fd_answering.proofs.CopiedLemmas.{found_part, found_whole}
use Rattle.fd_answering.proofs.datasets.write_found.Goals as goal

pub returns-in-Ok-clause-answer : goal.returns-in-Ok-clause-answer
returns-in-Ok-clause-answer g c = λ bytes there.
    let os = c.args.opened.now in
    let l = c.in-Some.one in
    let within : IsIn os l = subst (λ o. IfSome o (IsIn os)) c.in-Some.is c.requires.within in
    let old = g.K.Sink.taken c.args.sink.now in
    let new = g.K.Sink.taken c.write.new.sink in
    found_whole os bytes l within.dataset old new within.at (subst (IsAt os bytes) c.in-Some.is there)
    (in_dataset os l within.dataset (λ s. IsCopied s.files.fields l.spot.at l.spot.len old new) within.at c.in-Ok.ensures.ok)

pub returns-in-Err-clause-err : goal.returns-in-Err-clause-err
returns-in-Err-clause-err g c = λ bytes there.
    let os = c.args.opened.now in
    let l = c.in-Some.one in
    let within : IsIn os l = subst (λ o. IfSome o (IsIn os)) c.in-Some.is c.requires.within in
    let old = g.K.Sink.taken c.args.sink.now in
    let new = g.K.Sink.taken c.write.new.sink in
    found_part os bytes l within.dataset old new within.at (subst (IsAt os bytes) c.in-Some.is there)
    (in_dataset os l within.dataset (λ s. IsCopiedInPart s.files.fields l.spot.at l.spot.len old new) within.at c.in-Err.ensures.err)

pub returns-in-Err-clause-damaged : goal.returns-in-Err-clause-damaged
returns-in-Err-clause-damaged g c =
    let os = c.args.opened.now in
    let l = c.in-Some.one in
    let within : IsIn os l = subst (λ o. IfSome o (IsIn os)) c.in-Some.is c.requires.within in
    on_damaged c.in-Err.fault (λ d. InSegment os l (IsMetAt l d)) (λ d. (k : Located) × (c.args.located ≡ Some k) × IsDamagedAt os k.number d)
    (λ d bad. (l, c.in-Some.is, copied_damage os l within.dataset d within.at within.within (in_dataset os l within.dataset (IsMetAt l d) within.at bad)))
    c.in-Err.ensures.damaged
