use Rattle.std.proofs.Common.{◌≡◌, false, refl, sym, ap, ◌∙◌, List}
use Rattle.fd_request.specs.declared.keyword.Keyword as code_keyword
use Rattle.fd_request.specs.Keywords.{seen_keywords}
use Rattle.fd_request.proofs.Members.{admit_none, admit_more, admit_all, admits_at}
use Rattle.fd_request.proofs.partial.Partial.matches.Goals as goal

pub loop-keyword-init : goal.loop-keyword-init
loop-keyword-init c = admit_none c.args.key.now c.deref-keyword-items.result.now

pub loop-keyword-preserved : goal.loop-keyword-preserved
loop-keyword-preserved c =
    admit_more c.args.key.now c.deref-keyword-items.result.now c.loop-keyword.keyword-index c.keyword-item.result c.loop-keyword-test.true c.keyword-item.is c.loop-keyword.invariant (c.admits.ensures.0 c.if-not-admits.false)

pub returns-then-not-admits : goal.returns-then-not-admits
returns-then-not-admits c = (
  λ e. absurd cc,
  λ h. absurd (let holds = c.admits.ensures.1 (admits_at c.args.key.now c.deref-keyword-items.result.now c.loop-keyword.keyword-index c.keyword-item.result c.args.self.now
      (sym c.self.view_is ∙ ap (λ (ks : List code_keyword.Keyword). seen_keywords ks) (sym c.deref-keyword-items.ensures.value)) c.loop-keyword-test.true c.keyword-item.is h) in
      let fails : c.admits.result ≡ false = c.if-not-admits.true in cc),
)

pub returns : goal.returns
returns c = (
  λ e. admit_all c.args.key.now c.deref-keyword-items.result.now c.loop-keyword.keyword-index c.args.self.now
      (sym c.self.view_is ∙ ap (λ (ks : List code_keyword.Keyword). seen_keywords ks) (sym c.deref-keyword-items.ensures.value)) c.loop-keyword-test.false c.loop-keyword.invariant,
  λ h. refl,
)
