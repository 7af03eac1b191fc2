use Rattle.std.proofs.Common.{◌≡◌, ◌≤◌, ℕ, ◌+◌, ◌-◌, length, drop, take, List, ◌++◌, sym, ap, subst, ◌∙◌, arith, length-drop}
use Rattle.fd_sections.specs.Progress.{Progress}
use Rattle.fd_sections.specs.Stream.{gap}
use Rattle.fd_sections.specs.Frames.{first_frame, frame_progress, Frame, Begun, Unframed}
use Rattle.fd_sections.proofs.Pending.{partial_pending}
use Rattle.fd_sections.proofs.StreamLaws.{lengths}
use Rattle.fd_sections.proofs.Frames.{FrameParts, frame_parts, frame_advanced, first_read, waits_no_frame, waits_no_mark}
use Rattle.fd_sections.proofs.splitter.Splitter.advance_frame.Goals as goal

-- what the steps before the frame is counted tell
record Told (held s : List ℕ) (at : ℕ) (octets r : List ℕ) : Type 0 where
  pub parts : FrameParts held at octets r
  pub total : length held ≡ length parts.front + (length octets + length r)
  pub from_here : s ≡ drop at held

told : (held s : List ℕ) (at : ℕ) (octets r : List ℕ) → at ≤ length held → s ≡ drop at held → first_frame s ≡ Frame octets r → Told held s at octets r
told held s at octets r le e h =
    let k = frame_parts held at octets r le (ap first_frame (sym e) ∙ h) in
    record { parts = k; total = lengths held k.front octets r k.whole; from_here = e }

room : (held s : List ℕ) (at : ℕ) (octets r : List ℕ) → Told held s at octets r → at ≤ length held → (length s ≡ gap (drop at held) + (length octets + length r)) × (16 ≤ length octets) × (length held ≡ at + length s)
room held s at octets r t le =
    let size : length s ≡ length held - at = ap length t.from_here ∙ length-drop at held in
    let some = t.parts.some in
    (omega (arith, t.total, t.parts.skipped), some, omega arith)

went : (held s octets r : List ℕ) (at size given skipped fed len : ℕ) (p : Progress) → Told held s at octets r → at ≤ length held → len ≡ length held → first_frame s ≡ Frame octets r
    → record { given = given; last = drop (at - size) (take at held); skipped = skipped; rest = drop at held; fed = fed } ≡ p
    → record { given = given + 1; last = drop (len - length r - length octets) (take (len - length r) held); skipped = skipped + (length s - length r - length octets); rest = drop (len - length r) held; fed = fed } ≡ frame_progress p (first_frame p.rest)
went held s octets r at size given skipped fed len p t le l h e =
    subst (λ (q : Progress). record { given = given + 1; last = drop (len - length r - length octets) (take (len - length r) held); skipped = skipped + (length s - length r - length octets); rest = drop (len - length r) held; fed = fed } ≡ frame_progress q (first_frame q.rest)) e
    (rw (l, t.from_here) (frame_advanced held at size given skipped fed octets r t.parts le (ap first_frame (sym t.from_here) ∙ h)))

pub overflow_sub-self : goal.overflow_sub-self
overflow_sub-self c =
    let i = c.self.inside in
    let w = c.in-Ok-Whole in
    let s = c.split_at.result.1.now in
    let o = w.octets.now in
    let r = w.after.now in
    let le : i.at ≤ length i.held.items = omega arith in
    let h : first_frame s ≡ Frame o r = rw w.field-0-is at w.ensures in
    let t = told i.held.items s i.at o r le (cc c.split_at.ensures.back) h in
    let x = room i.held.items s i.at o r t le in
    omega (arith, x.0)

pub overflow_sub-self-in-Ok-Whole : goal.overflow_sub-self-in-Ok-Whole
overflow_sub-self-in-Ok-Whole c =
    let i = c.self.inside in
    let w = c.in-Ok-Whole in
    let s = c.split_at.result.1.now in
    let o = w.octets.now in
    let r = w.after.now in
    let le : i.at ≤ length i.held.items = omega arith in
    let h : first_frame s ≡ Frame o r = rw w.field-0-is at w.ensures in
    let t = told i.held.items s i.at o r le (cc c.split_at.ensures.back) h in
    let x = room i.held.items s i.at o r t le in
    omega (arith, x.0)

pub overflow_sub-self-in-Ok-Whole-2 : goal.overflow_sub-self-in-Ok-Whole-2
overflow_sub-self-in-Ok-Whole-2 c =
    let i = c.self.inside in
    let w = c.in-Ok-Whole in
    let s = c.split_at.result.1.now in
    let o = w.octets.now in
    let r = w.after.now in
    let le : i.at ≤ length i.held.items = omega arith in
    let h : first_frame s ≡ Frame o r = rw w.field-0-is at w.ensures in
    let t = told i.held.items s i.at o r le (cc c.split_at.ensures.back) h in
    let x = room i.held.items s i.at o r t le in
    omega (arith, x.0, x.2)

pub invariant_of-self : goal.invariant_of-self
invariant_of-self c =
    let i = c.self.inside in
    let w = c.in-Ok-Whole in
    let s = c.split_at.result.1.now in
    let o = w.octets.now in
    let r = w.after.now in
    let le : i.at ≤ length i.held.items = omega arith in
    let h : first_frame s ≡ Frame o r = rw w.field-0-is at w.ensures in
    let t = told i.held.items s i.at o r le (cc c.split_at.ensures.back) h in
    let x = room i.held.items s i.at o r t le in
    (omega (arith, x.0, x.2), omega (arith, x.0), omega (arith, x.0, x.1, x.2), omega arith)

pub returns-in-Ok-Whole-clause-goes_on : goal.returns-in-Ok-Whole-clause-goes_on
returns-in-Ok-Whole-clause-goes_on c =
    let i = c.self.inside in
    let w = c.in-Ok-Whole in
    let s = c.split_at.result.1.now in
    let o = w.octets.now in
    let r = w.after.now in
    let le : i.at ≤ length i.held.items = omega arith in
    let h : first_frame s ≡ Frame o r = rw w.field-0-is at w.ensures in
    let t = told i.held.items s i.at o r le (cc c.split_at.ensures.back) h in
    let x = room i.held.items s i.at o r t le in
    went i.held.items s o r i.at i.size i.given i.skipped i.fed c.len.result c.args.self.now t le (omega arith) h c.self.view_is

pub overflow_sub-begun : goal.overflow_sub-begun
overflow_sub-begun c =
    let w = c.in-Ok-Begun in
    let s = c.split_at.result.1.now in
    let e : (want : ℕ) × (first_frame s ≡ Begun w.have want) = rw w.field-0-is at w.ensures in
    (partial_pending s w.have e.0 (first_read s (Begun w.have e.0) e.1)).0

here : (s : List ℕ) (v p : Progress) → v ≡ p → s ≡ v.rest → s ≡ p.rest
here s v p e h = h ∙ ap (λ (q : Progress). q.rest) e

pub returns-in-Ok-Unframed-clause-goes_on : goal.returns-in-Ok-Unframed-clause-goes_on
returns-in-Ok-Unframed-clause-goes_on c =
    let w = c.in-Ok-Unframed in
    let s = c.split_at.result.1.now in
    let same : s ≡ c.args.self.now.rest = here s _ c.args.self.now c.self.view_is (cc c.split_at.ensures.back) in
    let e : first_frame s ≡ Unframed = rw w.field-0-is at w.ensures in
    let count : length s - c.min-mark.result ≡ length s - 3 = omega (arith, c.min-mark.ensures) in
    waits_no_mark c.args.self.now c.pass.new.self (length s - c.min-mark.result) (ap first_frame (sym same) ∙ e) (count ∙ ap (λ (t : List ℕ). length t - 3) same) c.pass.ensures ∙ sym (ap (frame_progress c.args.self.now) (ap first_frame (sym same) ∙ e))

pub returns-in-Ok-Begun-clause-goes_on : goal.returns-in-Ok-Begun-clause-goes_on
returns-in-Ok-Begun-clause-goes_on c =
    let w = c.in-Ok-Begun in
    let s = c.split_at.result.1.now in
    let same : s ≡ c.args.self.now.rest = here s _ c.args.self.now c.self.view_is (cc c.split_at.ensures.back) in
    let e : (want : ℕ) × (first_frame s ≡ Begun w.have want) = rw w.field-0-is at w.ensures in
    waits_no_frame c.args.self.now c.pass-in-Ok-Begun.new.self w.have e.0 (length s - w.have) (ap first_frame (sym same) ∙ e.1) (ap (λ (t : List ℕ). length t - w.have) same) c.pass-in-Ok-Begun.ensures ∙ sym (ap (frame_progress c.args.self.now) (ap first_frame (sym same) ∙ e.1))
