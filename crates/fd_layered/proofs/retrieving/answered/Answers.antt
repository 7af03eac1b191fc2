use Rattle.std.proofs.Common.{◌≡◌, ◌∙◌, ◌+◌, List, length, Some, sym, subst}
use Rattle.std.proofs.lemmas.Result.{IfOk-weaker}
use Rattle.fd_ahead.specs.Places.{AreIn}
use Rattle.fd_request.specs.Expansion.{expand}
use Rattle.fd_words.specs.declared.command.Command.TheVariants.{RetrieveOver}
use Rattle.fd_outcome.specs.Asking.{Answer}
use Rattle.fd_outcome.specs.Objects.{object}
use Rattle.fd_outcome.specs.Layered.{laid_answers}
use Rattle.fd_retrieve.specs.Commands.{Begins}
use Rattle.fd_answering.specs.Located.{AreAt}
use Rattle.fd_retrieve.specs.Open.{table_in}
use Rattle.fd_layered.specs.Finding.{AreNearest}
use Rattle.fd_layered.specs.Ready.{laid_with}
use Rattle.fd_retrieve.proofs.Plain.{with_ok}
use Rattle.fd_layered.proofs.Noticing.{over_each}
use Rattle.fd_layered.proofs.NearestLemmas.{nearest_at, nearest_in, nearest_long}
use Rattle.fd_layered.proofs.retrieving.answered.Goals as goal

pub answer_located-requires-clause-count : goal.answer_located-requires-clause-count
answer_located-requires-clause-count g c κs within =
    IfOk-weaker c.locate_over-located.result (λ v. AreNearest c.deref.result.now c.deref-2.result.now (c.len.result + 1) c.count.result v.items) (λ v. length v.items ≡ length (expand c.args.ready.request))
    (λ v near. nearest_long c.deref.result.now c.deref-2.result.now (c.len.result + 1) c.count.result v.items near ∙ c.count.ensures)
    c.locate_over-located.ensures.located

pub answer_located-requires-clause-within : goal.answer_located-requires-clause-within
answer_located-requires-clause-within g c κs within =
    IfOk-weaker c.locate_over-located.result (λ v. AreNearest c.deref.result.now c.deref-2.result.now (c.len.result + 1) c.count.result v.items) (λ v. AreIn c.deref-3.result.now v.items)
    (λ v near. subst (λ l. AreIn l v.items) (c.deref.ensures.value ∙ sym c.deref-3.ensures.value) (nearest_in c.deref.result.now c.deref-2.result.now (c.len.result + 1) c.count.result v.items near))
    c.locate_over-located.ensures.located

pub returns-clause-ran : goal.returns-clause-ran
returns-clause-ran g c = λ root before faults left reads begins.
    let input = object left (g.W.Input.Source.left c.args.objects.now.input) reads (g.W.Input.Source.faults c.args.objects.now.input) in
    let os = c.args.ready.opened.items in
    let ks = c.args.ready.request in
    let ps = c.args.ready.places.items in
    let ls = c.args.layers.now in
    c.answer_located.ensures.ran root (Some ls) before faults left reads (laid_answers (table_in os) (laid_with ls ks ps))
    (subst (λ l. Begins (RetrieveOver root ls c.args.workers) before (g.W.Store.Store.has c.args.objects.now.store) faults (g.W.Store.Store.faults c.args.objects.now.store) input l (laid_answers (table_in os) (laid_with ls ks ps))) (sym c.deref-3.ensures.value) begins)
    (IfOk-weaker c.locate_over-located.result (λ v. AreNearest c.deref.result.now c.deref-2.result.now (c.len.result + 1) c.count.result v.items) (λ v. (xs : List Answer) → laid_answers (table_in os) (laid_with ls ks ps) ≡ Some xs → AreAt c.deref-3.result.now (expand ks) xs v.items)
    (λ v near xs e. subst (λ l. AreAt l (expand ks) xs v.items) (sym c.deref-3.ensures.value)
    (nearest_at os (length ls) (expand ks) ps c.count.result v.items xs c.count.ensures c.requires.chains
    (subst (λ l. AreNearest l ps (length ls + 1) c.count.result v.items) c.deref.ensures.value
    (subst (λ l. AreNearest c.deref.result.now l (length ls + 1) c.count.result v.items) c.deref-2.ensures.value
    (subst (λ w. AreNearest c.deref.result.now c.deref-2.result.now (w + 1) c.count.result v.items) c.len.ensures near)))
    e))
    c.locate_over-located.ensures.located)

pub returns-clause-each : goal.returns-clause-each
returns-clause-each g c = λ h octets ready whole.
    let os = c.args.ready.opened.items in
    let ks = c.args.ready.request in
    let ps = c.args.ready.places.items in
    let ls = c.args.layers.now in
    with_ok c.locate_over-located.result (λ v. AreNearest c.deref.result.now c.deref-2.result.now (c.len.result + 1) c.count.result v.items) _ _ (c.answer_located.ensures.located whole) c.locate_over-located.ensures.located (c.answer_located.ensures.told whole)
    (λ v near tells. over_each ls h octets ks ps os c.requires.chains ready c.count.result v.items c.count.ensures
    (subst (λ l. AreNearest l ps (length ls + 1) c.count.result v.items) c.deref.ensures.value
    (subst (λ l. AreNearest c.deref.result.now l (length ls + 1) c.count.result v.items) c.deref-2.ensures.value
    (subst (λ w. AreNearest c.deref.result.now c.deref-2.result.now (w + 1) c.count.result v.items) c.len.ensures near)))
    c.answer_located.result _ _ _ _
    (λ xs at. tells xs (subst (λ l. AreAt l (expand ks) xs v.items) (sym c.deref-3.ensures.value) at)))
