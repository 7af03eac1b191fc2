use Rattle.std.proofs.Common.{◌≡◌, List, Some, None, refl, sym, subst}
use Rattle.std.proofs.lemmas.Result.{IfOk-weaker}
use Rattle.fd_request.specs.Expansion.{expand}
use Rattle.fd_words.specs.declared.command.Command.TheVariants.{Retrieve}
use Rattle.fd_outcome.specs.Asking.{Answer, answers}
use Rattle.fd_outcome.specs.Objects.{object}
use Rattle.fd_retrieve.specs.Commands.{Begins}
use Rattle.fd_answering.specs.Located.{AreAt}
use Rattle.fd_retrieve.specs.Located.{AreLocated}
use Rattle.fd_retrieve.specs.Open.{table_in}
use Rattle.fd_retrieve.specs.Ready.{asked_at}
use Rattle.fd_retrieve.proofs.LocatingLemmas.{lent_at}
use Rattle.fd_retrieve.proofs.Plain.{plain_each, with_ok}
use Rattle.fd_retrieve.proofs.retrieving.answered.Goals as goal

pub returns-clause-ran : goal.returns-clause-ran
returns-clause-ran g c = λ root before faults left reads begins.
    let input = object left (g.W.Input.Source.left c.args.objects.now.input) reads (g.W.Input.Source.faults c.args.objects.now.input) in
    let os = c.args.ready.opened.items in
    let ks = c.args.ready.request in
    let ps = c.args.ready.places.items in
    c.answer_located.ensures.ran root None before faults left reads (answers (table_in os) (asked_at ks ps))
    (subst (λ l. Begins (Retrieve root c.args.workers) before (g.W.Store.Store.has c.args.objects.now.store) faults (g.W.Store.Store.faults c.args.objects.now.store) input l (answers (table_in os) (asked_at ks ps))) (sym c.deref-3.ensures.value) begins)
    (IfOk-weaker c.locate-located.result (λ v. AreLocated c.deref.result.now c.deref-2.result.now v.items) (λ v. (xs : List Answer) → answers (table_in os) (asked_at ks ps) ≡ Some xs → AreAt c.deref-3.result.now (expand ks) xs v.items)
    (λ v there xs e. subst (λ l. AreAt l (expand ks) xs v.items) (sym c.deref-3.ensures.value)
    (lent_at os c.deref.result.now (expand ks) ps c.deref-2.result.now v.items (answers (table_in os) (asked_at ks ps)) c.deref.ensures.value c.deref-2.ensures.value c.requires.count there refl xs e))
    c.locate-located.ensures.located)

pub returns-clause-each : goal.returns-clause-each
returns-clause-each g c = λ h octets ready whole.
    let os = c.args.ready.opened.items in
    let ks = c.args.ready.request in
    let ps = c.args.ready.places.items in
    with_ok c.locate-located.result (λ v. AreLocated c.deref.result.now c.deref-2.result.now v.items) _ _ (c.answer_located.ensures.located whole) c.locate-located.ensures.located (c.answer_located.ensures.told whole)
    (λ v there tells. plain_each h octets ks ps os c.requires.count ready v.items
    (subst (λ l. AreLocated l ps v.items) c.deref.ensures.value (subst (λ l. AreLocated c.deref.result.now l v.items) c.deref-2.ensures.value there)) c.answer_located.result _ _ _ _
    (λ xs at. tells xs (subst (λ l. AreAt l (expand ks) xs v.items) (sym c.deref-3.ensures.value) at)))
