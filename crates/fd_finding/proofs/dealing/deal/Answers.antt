use Rattle.std.proofs.Common.{rules, arith, ◌≡◌, ◌-◌, ◌∙◌, ◌++◌, [], ℕ, All, ap, sym, subst, drop, take-append-drop}
use Rattle.std.proofs.lemmas.List.Elements.{All-push}
use Rattle.fd_finding.specs.Spots.{place_key}
use Rattle.fd_finding.specs.Searching.{IsFresh}
use Rattle.fd_finding.proofs.Jobs.{drop_all, keys_dealt}
use Rattle.fd_finding.proofs.dealing.deal.Goals as goal

pub loop-i-preserved : goal.loop-i-preserved
loop-i-preserved g c =
    let inv = c.loop-i.invariant in
    let front = c.split_at.ensures.front in
    let back = c.split_at.ensures.back in
    let whole : c.split_at.result.0.now ++ c.split_at.result.1.now ≡ c.loop-i.rest.now = (λ i. front i ++ back i) ∙ take-append-drop c.share.result c.loop-i.rest.now in
    record {
      long = search rules;
      room = search rules;
      keys = keys_dealt place_key c.loop-i.jobs.items c.push_reserved.new.self.items c.in_ok-job.job c.loop-i.rest.now c.split_at.result.0.now c.split_at.result.1.now c.args.places.now c.push_reserved.ensures.items c.in_ok-job.ensures.keys whole inv.keys;
      fresh = subst (All IsFresh) (sym c.push_reserved.ensures.items) (All-push IsFresh c.loop-i.jobs.items c.in_ok-job.job inv.fresh c.in_ok-job.ensures.fresh);
      none = λ e. back ∙ (ap (λ (n : ℕ). drop n c.loop-i.rest.now) (c.share.ensures.last (omega arith)) ∙ drop_all c.loop-i.rest.now);
    }
