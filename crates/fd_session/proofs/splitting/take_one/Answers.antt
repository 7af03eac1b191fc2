use Rattle.std.proofs.Common.{◌∙◌, sym, subst, ℕ, List}
use Rattle.fd_sections.specs.Parts.{sections_of}
use Rattle.fd_session.specs.Splits.{HasGiven}
use Rattle.fd_session.proofs.Parting.{given_none, given_one, measured_none, measured_one, refused_there}
use Rattle.fd_session.proofs.splitting.take_one.Goals as goal

pub returns-in-Ok-None-clause-given : goal.returns-in-Ok-None-clause-given
returns-in-Ok-None-clause-given c = λ octets h. given_none octets c.args.splitter.now c.args.messages.now h c.next.follows.lender-at-none (rw c.in-Ok-None.field-0-is at c.in-Ok-None.ensures.answer) c.next.follows.holds-at-none

pub returns-in-Ok-None-clause-measure : goal.returns-in-Ok-None-clause-measure
returns-in-Ok-None-clause-measure c = measured_none c.args.splitter.now c.next.follows.lender-at-none (rw c.in-Ok-None.field-0-is at c.in-Ok-None.ensures.answer) c.next.follows.holds-at-none

pub returns-in_ok-push-in-Ok-Some-clause-given : goal.returns-in_ok-push-in-Ok-Some-clause-given
returns-in_ok-push-in-Ok-Some-clause-given c = λ octets h.
    let m = c.in-Ok-Some in
    subst (λ (ms : List (List ℕ)). HasGiven octets c.next.follows.lender-at-none ms) (sym c.in_ok-push-in-Ok-Some.ensures.ok)
    (given_one octets c.args.splitter.now c.args.messages.now h c.next.follows.lender-at-none (sections_of m.message) c.in_ok-from_slice-in-Ok-Some.field-0 (rw m.field-0-is at m.ensures.answer) c.next.follows.holds-at-none
    (c.in_ok-from_slice-in-Ok-Some.ensures ∙ c.bytes.ensures ∙ rw m.field-0-is at m.ensures.whole))

pub returns-in_ok-push-in-Ok-Some-clause-measure : goal.returns-in_ok-push-in-Ok-Some-clause-measure
returns-in_ok-push-in-Ok-Some-clause-measure c =
    measured_one c.args.splitter.now c.next.follows.lender-at-none (sections_of c.in-Ok-Some.message) (rw c.in-Ok-Some.field-0-is at c.in-Ok-Some.ensures.answer) c.next.follows.holds-at-none

pub returns-in-Err-clause-refused : goal.returns-in-Err-clause-refused
returns-in-Err-clause-refused c = λ octets past h. refused_there octets c.args.splitter.now c.args.messages.now h c.in-Err.at c.refusal_of.result c.in-Err.ensures.answer c.refusal_of.ensures past
