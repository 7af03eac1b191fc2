use Rattle.std.proofs.Common.{rules, ◌≡◌, ap, sym, ◌∙◌, Ok, Bool, refl, None}
use Rattle.std.specs.Option.{option_map}
use Rattle.fd_sections.specs.Given.{Is}
use Rattle.fd_sections.specs.Parts.{sections_of}
use Rattle.fd_sections.specs.Splitting.{answer, progress}
use Rattle.fd_sections.specs.Stream.{first}
use Rattle.fd_sections.proofs.Joins.{goes_so}
use Rattle.fd_sections.proofs.StreamLaws.{shown}
use Rattle.fd_sections.proofs.splitter.Splitter.next.Goals as goal

pub returns-then-branch : goal.returns-then-branch
returns-then-branch c =
    let is = shown (option_map sections_of) c.args.self.now c.advance.new.self (first c.args.self.now.rest) c.last.result refl (ap (λ (b : Bool). Ok b) (sym c.if-branch.true) ∙ c.in_ok-advance.ensures.answer) c.advance.ensures.goes_on c.last.ensures.given in (
      (refl, λ _. tt, c.advance.ensures.goes_on),
      record {
        goes_on = tt;
        whole = c.last.ensures.whole;
        answer = is;
        joined = goes_so sections_of c.args.self.now (progress c.args.self.now (first c.args.self.now.rest)) c.last.result refl is;
      },
    )

pub returns-in_err-advance : goal.returns-in_err-advance
returns-in_err-advance c =
    let is : Is (option_map sections_of) c.from_residual.result (answer c.args.self.now (first c.args.self.now.rest)) = search rules in (
      (refl, λ _. tt, c.advance.ensures.goes_on),
      record {
        goes_on = tt;
        whole = search rules;
        answer = is;
        joined = goes_so sections_of c.args.self.now (progress c.args.self.now (first c.args.self.now.rest)) c.from_residual.result refl is;
      },
    )

pub returns : goal.returns
returns c =
    let is : answer c.args.self.now (first c.args.self.now.rest) ≡ Ok None = search rules in (
      (refl, λ _. tt, c.advance.ensures.goes_on),
      record {
        goes_on = tt;
        whole = tt;
        answer = is;
        joined = goes_so sections_of c.args.self.now (progress c.args.self.now (first c.args.self.now.rest)) (Ok None) refl is;
      },
    )
