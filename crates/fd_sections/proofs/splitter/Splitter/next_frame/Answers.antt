use Rattle.std.proofs.Common.{rules, ◌≡◌, ap, sym, ◌∙◌, Ok, Bool, refl, None, Some, Bor, List, ℕ}
use Rattle.std.specs.Option.{option_map}
use Rattle.fd_sections.specs.Given.{Is}
use Rattle.fd_sections.specs.Frames.{first_frame, frame_answer, frame_progress}
use Rattle.fd_sections.proofs.Frames.{frames_shown, frames_so}
use Rattle.fd_sections.proofs.splitter.Splitter.next_frame.Goals as goal

pub returns-then-branch : goal.returns-then-branch
returns-then-branch c =
    let is = frames_shown c.args.self.now c.advance_frame.new.self (first_frame c.args.self.now.rest) c.last_octets.result.now (ap (λ (b : Bool). Ok b) (sym c.if-branch.true) ∙ c.in_ok-advance_frame.ensures.answer) c.advance_frame.ensures.goes_on c.last_octets.ensures in (
      (refl, λ _. tt, c.advance_frame.ensures.goes_on),
      record {
        goes_on = tt;
        answer = is;
        joined = frames_so (λ (o : Bor (List ℕ)). o.now) c.args.self.now (Ok (Some c.last_octets.result)) is;
      },
    )

pub returns-in_err-advance_frame : goal.returns-in_err-advance_frame
returns-in_err-advance_frame c =
    let is : Is (option_map (λ (o : Bor (List ℕ)). o.now)) c.from_residual.result (frame_answer c.args.self.now (first_frame c.args.self.now.rest)) = search rules in (
      (refl, λ _. tt, c.advance_frame.ensures.goes_on),
      record {
        goes_on = tt;
        answer = is;
        joined = frames_so (λ (o : Bor (List ℕ)). o.now) c.args.self.now c.from_residual.result is;
      },
    )

pub returns : goal.returns
returns c =
    let is : frame_answer c.args.self.now (first_frame c.args.self.now.rest) ≡ Ok None = search rules in (
      (refl, λ _. tt, c.advance_frame.ensures.goes_on),
      record {
        goes_on = tt;
        answer = is;
        joined = frames_so (λ (o : Bor (List ℕ)). o.now) c.args.self.now (Ok None) is;
      },
    )
