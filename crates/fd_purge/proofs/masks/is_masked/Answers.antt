use Rattle.std.proofs.Common.{◌≡◌, ◌∙◌, true, ap, sym, subst}
use Rattle.fd_index.specs.Records.{keys}
use Rattle.fd_segment.specs.Held.{Files, IsIndexOf}
use Rattle.fd_purge.specs.Kept.{is_masked}
use Rattle.fd_purge.proofs.KeyLemmas.{masked_known}
use Rattle.fd_purge.proofs.masks.is_masked.Goals as goal

pub returns-then-are_known-clause-known : goal.returns-then-are_known-clause-known
returns-then-are_known-clause-known g c = λ ks later read known.
    let same : ks ≡ keys c.in_ok-index.index = read c.in_ok-index.index (subst (λ (f : Files). IsIndexOf f.entry f.index c.in_ok-index.index) c.in_ok-lens.ensures.files c.in_ok-index.ensures.read) in
    let m : is_masked ks later ≡ true = ap (λ x. is_masked x later) same ∙ sym (c.are_known.ensures later known) ∙ c.if-are_known.true in
    masked_known c.args.known.now ks later m known
