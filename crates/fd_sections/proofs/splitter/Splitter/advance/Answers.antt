use Rattle.std.proofs.Common.{◌≡◌, ◌≤◌, ℕ, ◌+◌, ◌-◌, length, drop, take, List, ◌++◌, sym, ap, subst, ◌∙◌, arith, length-drop}
use Rattle.fd_sections.specs.Message.{Sections, message_octets}
use Rattle.fd_sections.specs.Parts.{sections_of, octets_of}
use Rattle.fd_sections.specs.Progress.{Progress}
use Rattle.fd_sections.specs.Splitting.{progress}
use Rattle.fd_sections.specs.Stream.{first, Takes, Partial, Unmarked, gap}
use Rattle.fd_sections.proofs.Pending.{partial_pending, waits}
use Rattle.fd_sections.proofs.StreamLaws.{Parts, parts_of, lengths, advanced}
use Rattle.fd_sections.proofs.splitter.Splitter.advance.Goals as goal

found : (held : List ℕ) (at : ℕ) (s : List ℕ) (m : Sections) (r : List ℕ) → at ≤ length held → s ≡ drop at held → first s ≡ Takes m r → Parts held at m r
found held at s m r le e h = parts_of held at m r le (ap first (sym e) ∙ h)

-- what the steps before the message is counted tell
record Told (held s : List ℕ) (at : ℕ) (octets r : List ℕ) (m : Sections) (len : ℕ) : Type 0 where
  pub parts : Parts held at m r
  pub total : length held ≡ length parts.front + (length octets + length r)
  pub octets_are : octets ≡ message_octets m
  pub from_here : s ≡ drop at held

told : (held s : List ℕ) (at : ℕ) (octets r : List ℕ) (m : Sections) (len : ℕ) → at ≤ length held → s ≡ drop at held → first s ≡ Takes m r → octets ≡ message_octets m → Told held s at octets r m len
told held s at octets r m len le e h o =
    let k = found held at s m r le e h in
    record { parts = k; total = lengths held k.front octets r (k.whole ∙ ap (λ (t : List ℕ). k.front ++ (t ++ r)) (sym o)); octets_are = o; from_here = e }

room : (held s : List ℕ) (at : ℕ) (octets r : List ℕ) (m : Sections) (len : ℕ) → Told held s at octets r m len → at ≤ length held → (length s ≡ gap (drop at held) + (length octets + length r)) × (16 ≤ length octets) × (length held ≡ at + length s)
room held s at octets r m len t le =
    let long : 16 ≤ length octets = subst (λ (x : List ℕ). 16 ≤ length x) (sym t.octets_are) t.parts.long in
    let size : length s ≡ length held - at = ap length t.from_here ∙ length-drop at held in
    (omega (arith, t.total, t.parts.skipped), long, omega arith)

went : (held s octets r : List ℕ) (at size given skipped fed len : ℕ) (m : Sections) (p : Progress) → Told held s at octets r m 0 → at ≤ length held → len ≡ length held → first s ≡ Takes m r
    → record { given = given; last = drop (at - size) (take at held); skipped = skipped; rest = drop at held; fed = fed } ≡ p
    → record { given = given + 1; last = drop (len - length r - length octets) (take (len - length r) held); skipped = skipped + (length s - length r - length octets); rest = drop (len - length r) held; fed = fed } ≡ progress p (first p.rest)
went held s octets r at size given skipped fed len m p t le l h e =
    subst (λ (q : Progress). record { given = given + 1; last = drop (len - length r - length octets) (take (len - length r) held); skipped = skipped + (length s - length r - length octets); rest = drop (len - length r) held; fed = fed } ≡ progress q (first q.rest)) e
    (rw (l, t.octets_are, t.from_here) (advanced held at size given skipped fed m r t.parts le (ap first (sym t.from_here) ∙ h)))

pub overflow_sub-self : goal.overflow_sub-self
overflow_sub-self c =
    let i = c.self.inside in
    let w = c.in-Ok-Whole in
    let m = sections_of w.message in
    let r = w.after.now in
    let s = c.split_at.result.1.now in
    let le : i.at ≤ length i.held.items = omega arith in
    let h : first s ≡ Takes m r = rw w.field-0-is at w.ensures.first in
    let o : octets_of w.message ≡ message_octets m = rw w.field-0-is at w.ensures.octets in
    let t = told i.held.items s i.at c.bytes-size.result.now r m 0 le (cc c.split_at.ensures.back) h (c.bytes-size.ensures ∙ o) in
    let x = room i.held.items s i.at c.bytes-size.result.now r m 0 t le in
    omega (arith, x.0)

pub overflow_sub-self-in-Ok-Whole : goal.overflow_sub-self-in-Ok-Whole
overflow_sub-self-in-Ok-Whole c =
    let i = c.self.inside in
    let w = c.in-Ok-Whole in
    let m = sections_of w.message in
    let r = w.after.now in
    let s = c.split_at.result.1.now in
    let le : i.at ≤ length i.held.items = omega arith in
    let h : first s ≡ Takes m r = rw w.field-0-is at w.ensures.first in
    let o : octets_of w.message ≡ message_octets m = rw w.field-0-is at w.ensures.octets in
    let t = told i.held.items s i.at c.bytes-size.result.now r m 0 le (cc c.split_at.ensures.back) h (c.bytes-size.ensures ∙ o) in
    let x = room i.held.items s i.at c.bytes-size.result.now r m 0 t le in
    omega (arith, x.0)

pub overflow_sub-self-in-Ok-Whole-2 : goal.overflow_sub-self-in-Ok-Whole-2
overflow_sub-self-in-Ok-Whole-2 c =
    let i = c.self.inside in
    let w = c.in-Ok-Whole in
    let m = sections_of w.message in
    let r = w.after.now in
    let s = c.split_at.result.1.now in
    let le : i.at ≤ length i.held.items = omega arith in
    let h : first s ≡ Takes m r = rw w.field-0-is at w.ensures.first in
    let o : octets_of w.message ≡ message_octets m = rw w.field-0-is at w.ensures.octets in
    let t = told i.held.items s i.at c.bytes-size.result.now r m 0 le (cc c.split_at.ensures.back) h (c.bytes-size.ensures ∙ o) in
    let x = room i.held.items s i.at c.bytes-size.result.now r m 0 t le in
    omega (arith, x.0, x.2)

pub invariant_of-self : goal.invariant_of-self
invariant_of-self c =
    let i = c.self.inside in
    let w = c.in-Ok-Whole in
    let m = sections_of w.message in
    let r = w.after.now in
    let s = c.split_at.result.1.now in
    let le : i.at ≤ length i.held.items = omega arith in
    let h : first s ≡ Takes m r = rw w.field-0-is at w.ensures.first in
    let o : octets_of w.message ≡ message_octets m = rw w.field-0-is at w.ensures.octets in
    let t = told i.held.items s i.at c.bytes-size.result.now r m 0 le (cc c.split_at.ensures.back) h (c.bytes-size.ensures ∙ o) in
    let x = room i.held.items s i.at c.bytes-size.result.now r m 0 t le in
    (omega (arith, x.0, x.2), omega (arith, x.0), omega (arith, x.0, x.1, x.2), omega arith)

pub returns-in-Ok-Whole-clause-goes_on : goal.returns-in-Ok-Whole-clause-goes_on
returns-in-Ok-Whole-clause-goes_on c =
    let i = c.self.inside in
    let w = c.in-Ok-Whole in
    let m = sections_of w.message in
    let r = w.after.now in
    let s = c.split_at.result.1.now in
    let le : i.at ≤ length i.held.items = omega arith in
    let h : first s ≡ Takes m r = rw w.field-0-is at w.ensures.first in
    let o : octets_of w.message ≡ message_octets m = rw w.field-0-is at w.ensures.octets in
    let t = told i.held.items s i.at c.bytes-size.result.now r m 0 le (cc c.split_at.ensures.back) h (c.bytes-size.ensures ∙ o) in
    let x = room i.held.items s i.at c.bytes-size.result.now r m 0 t le in
    went i.held.items s c.bytes-size.result.now r i.at i.size i.given i.skipped i.fed c.len.result m c.args.self.now t le (omega arith) h c.self.view_is

pub overflow_sub-count-in-Ok-Partial : goal.overflow_sub-count-in-Ok-Partial
overflow_sub-count-in-Ok-Partial c =
    let w = c.in-Ok-Partial in
    let e : first c.split_at.result.1.now ≡ Partial w.have w.field-0-1 = rw w.field-0-is at w.ensures.first in
    (partial_pending c.split_at.result.1.now w.have w.field-0-1 e).0

here : (s : List ℕ) (v p : Progress) → v ≡ p → s ≡ v.rest → s ≡ p.rest
here s v p e h = h ∙ ap (λ (q : Progress). q.rest) e

pub returns-in-Ok-Unmarked-clause-goes_on : goal.returns-in-Ok-Unmarked-clause-goes_on
returns-in-Ok-Unmarked-clause-goes_on c =
    let w = c.in-Ok-Unmarked in
    let s = c.split_at.result.1.now in
    let same : s ≡ c.args.self.now.rest = here s _ c.args.self.now c.self.view_is (cc c.split_at.ensures.back) in
    let e : first s ≡ Unmarked = rw w.field-0-is at w.ensures.first in
    let count : length s - c.min.result ≡ length s - 3 = omega (arith, c.min.ensures) in
    waits c.args.self.now c.pass.new.self Unmarked (length s - c.min.result) (ap first (sym same) ∙ e) (count ∙ ap (λ (t : List ℕ). length t - 3) same) c.pass.ensures

pub returns-in-Ok-Partial-clause-goes_on : goal.returns-in-Ok-Partial-clause-goes_on
returns-in-Ok-Partial-clause-goes_on c =
    let w = c.in-Ok-Partial in
    let s = c.split_at.result.1.now in
    let same : s ≡ c.args.self.now.rest = here s _ c.args.self.now c.self.view_is (cc c.split_at.ensures.back) in
    let e : first s ≡ Partial w.have w.field-0-1 = rw w.field-0-is at w.ensures.first in
    waits c.args.self.now c.pass-in-Ok-Partial.new.self (Partial w.have w.field-0-1) (length s - w.have) (ap first (sym same) ∙ e) (ap (λ (t : List ℕ). length t - w.have) same) c.pass-in-Ok-Partial.ensures
