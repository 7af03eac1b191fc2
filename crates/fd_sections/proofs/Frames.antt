-- A stream of frames, in whatever pieces it comes: what comes first stays first, and its messages are those that are read of its frames.
use Rattle.std.proofs.Common.{◌≡◌, ℕ, ◌+◌, ◌-◌, ◌<◌, ◌≤◌, Bool, true, false, cond, List, [], ◌∷◌, ◌++◌, length, take, drop, Option, Some, None, Result, Ok, Err, refl, sym, ap, ap₂, subst, ◌∙◌, append_assoc, append-nil, arith, length-append, length-take, length-drop, eqb, ltb, not, lit≤, add_assoc}
use Rattle.std.specs.Prelude.{nat_eq}
use Rattle.std.proofs.lemmas.Bool.{ltb-false, le-ltb, ne_eqb}
use Rattle.std.proofs.lemmas.List.{take-append-le, drop-append-le, take-append-drop}
use Rattle.fd_bytes.specs.Numbers.{octets}
use Rattle.fd_bytes.proofs.Octets.{octets-append}
use Rattle.fd_sections.specs.declared.bad.Bad.{Bad}
use Rattle.fd_sections.specs.declared.bad.Bad.TheVariants.{Edition, Short, TooLong}
use Rattle.fd_sections.specs.declared.refusal.BadAt.{BadAt}
use Rattle.fd_sections.specs.declared.refusal.Truncated.{Truncated}
use Rattle.std.specs.Option.{option_map}
use Rattle.fd_sections.specs.Given.{Is}
use Rattle.fd_sections.specs.Message.{Sections}
use Rattle.fd_sections.specs.Progress.{Progress}
use Rattle.fd_sections.specs.Reading.{reading}
use Rattle.fd_sections.specs.Splitting.{answer, fed, finished, progress, start, waiting}
use Rattle.fd_sections.specs.Stream.{First, Unmarked, Partial, Refuses, Takes, Stream, Whole, Cut, Bad_end, from_mark, first_at, first, taken, gap, announced, pending, stream, stream_of_at_most}
use Rattle.fd_sections.specs.Joining.{IsWaiting}
use Rattle.fd_sections.specs.Frames.{FirstFrame, Unframed, Begun, Rejects, Frame, frame_at, first_frame, Frames, framing, frames_of_at_most, frames, after_frames, frame_answer, frame_comes, frame_progress, FramesOn, RejectsAs, IsFrame, FramesTo, FramesEnd, IsFrames, read_one, read_frames}
use Rattle.fd_sections.proofs.StreamLaws.{before_mark, last_is, lengths, rest_is}
use Rattle.fd_sections.proofs.Pieces.{from_mark-append}
use Rattle.fd_sections.proofs.Pending.{nothing_marked, pending_le, skips, still_waits, waits}

-- ---- what comes first at a `GRIB`

-- a frame or a refusal, which more octets leave as it is
abbrev pub IsFramed : FirstFrame → Type 0
IsFramed Unframed = ⊥
IsFramed (Begun have want) = ⊥
IsFramed (Rejects bad) = Unit {0}
IsFramed (Frame octets rest) = Unit {0}

-- what comes first once more octets are in
abbrev pub framed : FirstFrame → List ℕ → FirstFrame
framed Unframed more = Unframed
framed (Begun have want) more = Begun have want
framed (Rejects bad) more = Rejects bad
framed (Frame octets rest) more = Frame octets (rest ++ more)

tests : (b3 b4 bs b5 b5' : Bool) (e n w len len' : ℕ) (o o' rest rest' more : List ℕ) (f : FirstFrame)
    → (b5 ≡ false → b5' ≡ false) → (b5 ≡ false → o' ≡ o) → (b5 ≡ false → rest' ≡ rest ++ more)
    → cond b3 (Rejects (Edition e)) (cond b4 (Rejects (TooLong n)) (cond bs (Rejects (Short 0 n)) (cond b5 (Begun len w) (Frame o rest)))) ≡ f → IsFramed f
    → cond b3 (Rejects (Edition e)) (cond b4 (Rejects (TooLong n)) (cond bs (Rejects (Short 0 n)) (cond b5' (Begun len' w) (Frame o' rest')))) ≡ framed f more
tests true b4 bs b5 b5' e n w len len' o o' rest rest' more f p q s h settled = subst (λ (g : FirstFrame). Rejects (Edition e) ≡ framed g more) h refl
tests false true bs b5 b5' e n w len len' o o' rest rest' more f p q s h settled = subst (λ (g : FirstFrame). Rejects (TooLong n) ≡ framed g more) h refl
tests false false true b5 b5' e n w len len' o o' rest rest' more f p q s h settled = subst (λ (g : FirstFrame). Rejects (Short 0 n) ≡ framed g more) h refl
tests false false false true b5' e n w len len' o o' rest rest' more f p q s h settled = absurd (subst IsFramed (sym h) settled)
tests false false false false b5' e n w len len' o o' rest rest' more f p q s h settled = rw (p refl, q refl, s refl) (ap (λ (g : FirstFrame). framed g more) h)

longer : (s more : List ℕ) (n : ℕ) → n ≤ length s → n ≤ length (s ++ more)
longer s more n le = omega (arith, length-append s more)

starts : (b1 b2 : Bool) (k w : ℕ) (f g : FirstFrame) → cond b1 Unframed (cond b2 (Begun k w) f) ≡ g → IsFramed g → (b1 ≡ false) × (b2 ≡ false) × (f ≡ g)
starts true b2 k w f g h settled = absurd (subst IsFramed (sym h) settled)
starts false true k w f g h settled = absurd (subst IsFramed (sym h) settled)
starts false false k w f g h settled = (refl, refl, h)

frame_at-framed : (s more : List ℕ) (f : FirstFrame) → frame_at s ≡ f → IsFramed f → frame_at (s ++ more) ≡ framed f more
unfolding frame_at
frame_at-framed s more f h settled =
    let n = octets 9 16 s in
    let w = announced s in
    let a = starts (eqb (length s) 0) (ltb (length s) 16) (length s) 16 _ f h settled in
    let long : 16 ≤ length s = ltb-false _ _ a.1 in
    let len : length (s ++ more) ≡ length s + length more = length-append s more in
    let t1 : eqb (length (s ++ more)) 0 ≡ false = ne_eqb (length (s ++ more)) 0 (λ e. omega arith) in
    let t2 : ltb (length (s ++ more)) 16 ≡ false = le-ltb _ _ (omega arith) in
    let t3 : octets 8 8 (s ++ more) ≡ octets 8 8 s = octets-append 8 8 s more (lit≤ tt) (lit≤ tt) (omega arith) in
    let t4 : octets 9 16 (s ++ more) ≡ n = octets-append 9 16 s more (lit≤ tt) (lit≤ tt) long in
    rw (t1, t2, t3, t4) (tests (not (eqb (octets 8 8 s) 2)) (ltb 134217728 n) (ltb n 16) (ltb (length s) w) (ltb (length (s ++ more)) w) (octets 8 8 s) n w (length s) (length (s ++ more)) (take w s) (take w (s ++ more)) (drop w s) (drop w (s ++ more)) more f
    (λ e. le-ltb _ _ (longer s more w (ltb-false _ _ e)))
    (λ e. take-append-le w s more (ltb-false _ _ e))
    (λ e. drop-append-le w s more (ltb-false _ _ e))
    a.2 settled)

nothing : frame_at [] ≡ Unframed
unfolding frame_at
nothing = refl

framed_marked : (s : List ℕ) (f : FirstFrame) → frame_at s ≡ f → IsFramed f → 0 < length s
framed_marked [] f h settled = absurd (subst IsFramed (sym h ∙ nothing) settled)
framed_marked (b ∷ bs) f h settled = omega arith

first_frame-framed : (s more : List ℕ) (f : FirstFrame) → first_frame s ≡ f → IsFramed f → first_frame (s ++ more) ≡ framed f more
first_frame-framed s more f h settled = ap frame_at (from_mark-append s more (framed_marked (from_mark s) f h settled)) ∙ frame_at-framed (from_mark s) more f h settled

mark_le : (s : List ℕ) → length (from_mark s) ≤ length s
mark_le s = let b = before_mark s in omega (arith, ap length b.1, length-append b.0 (from_mark s))

gap-framed : (s more : List ℕ) (f : FirstFrame) → first_frame s ≡ f → IsFramed f → gap (s ++ more) ≡ gap s
gap-framed s more f h settled =
    let e : length (from_mark (s ++ more)) ≡ length (from_mark s) + length more = ap length (from_mark-append s more (framed_marked (from_mark s) f h settled)) ∙ length-append (from_mark s) more in
    omega (arith, e, length-append s more, mark_le s)

-- ---- a frame stands at the front

not_frame : (b : Bool) (other f : FirstFrame) (o r : List ℕ) → cond b other f ≡ Frame o r → (other ≡ Frame o r → ⊥) → (b ≡ false) × (f ≡ Frame o r)
not_frame true other f o r e apart = absurd (apart e)
not_frame false other f o r e apart = (refl, e)

frame_is : (o r x y : List ℕ) → Frame o r ≡ Frame x y → (o ≡ x) × (r ≡ y)
frame_is o r x y e = (cc, cc)

pub record LeadsFrame (s o r : List ℕ) : Type 0 where
  pub whole : s ≡ o ++ r
  pub some : 16 ≤ length o
  pub limit : length o ≤ 134217728

sized : (s : List ℕ) (n : ℕ) → n ≤ length s → 16 ≤ n → n ≤ 134217728 → (16 ≤ length (take n s)) × (length (take n s) ≤ 134217728)
sized s n fits some limit = (omega (arith, some, fits, length-take n s), omega (arith, limit, length-take n s))

frame_at-leads : (s o r : List ℕ) → frame_at s ≡ Frame o r → LeadsFrame s o r
unfolding frame_at
frame_at-leads s o r e =
    let n = announced s in
    let a = not_frame (eqb (length s) 0) Unframed _ o r e (λ h. absurd cc) in
    let b = not_frame (ltb (length s) 16) (Begun (length s) 16) _ o r a.1 (λ h. absurd cc) in
    let c = not_frame (not (eqb (octets 8 8 s) 2)) (Rejects (Edition (octets 8 8 s))) _ o r b.1 (λ h. absurd cc) in
    let d = not_frame (ltb 134217728 (octets 9 16 s)) (Rejects (TooLong (octets 9 16 s))) _ o r c.1 (λ h. absurd cc) in
    let k = not_frame (ltb (octets 9 16 s) 16) (Rejects (Short 0 (octets 9 16 s))) _ o r d.1 (λ h. absurd cc) in
    let f = not_frame (ltb (length s) n) (Begun (length s) n) _ o r k.1 (λ h. absurd cc) in
    let t = frame_is (take n s) (drop n s) o r f.1 in
    let z = sized s n (ltb-false _ _ f.0) (ltb-false _ _ k.0) (ltb-false _ _ d.0) in
    record {
      whole = sym (take-append-drop n s) ∙ ap (λ (x : List ℕ). x ++ drop n s) t.0 ∙ ap (λ (x : List ℕ). o ++ x) t.1;
      some = subst (λ (x : List ℕ). 16 ≤ length x) t.0 z.0;
      limit = subst (λ (x : List ℕ). length x ≤ 134217728) t.0 z.1;
    }

pub frame_fits : (s o r : List ℕ) → first_frame s ≡ Frame o r → (length o + length r ≤ length s) × (16 ≤ length o) × (length o ≤ 134217728)
frame_fits s o r e =
    let l = frame_at-leads (from_mark s) o r e in
    let some = l.some in
    let limit = l.limit in
    (omega (arith, ap length l.whole, length-append o r, mark_le s), some, limit)

-- octets of which the first `at` are done with, and then come a gap, a frame and a rest
pub record FrameParts (held : List ℕ) (at : ℕ) (o r : List ℕ) : Type 0 where
  pub front : List ℕ
  pub whole : held ≡ front ++ (o ++ r)
  pub skipped : length front ≡ at + gap (drop at held)
  pub some : 16 ≤ length o

pub frame_parts : (held : List ℕ) (at : ℕ) (o r : List ℕ) → at ≤ length held → first_frame (drop at held) ≡ Frame o r → FrameParts held at o r
frame_parts held at o r le e =
    let s = drop at held in
    let b = before_mark s in
    let l = frame_at-leads (from_mark s) o r e in
    let size : length (take at held) ≡ at = omega (arith, length-take at held) in
    let both : length s ≡ length b.0 + length (from_mark s) = ap length b.1 ∙ length-append b.0 (from_mark s) in
    record {
      front = take at held ++ b.0;
      whole = sym (take-append-drop at held) ∙ ap (λ (t : List ℕ). take at held ++ t) (b.1 ∙ ap (λ (t : List ℕ). b.0 ++ t) l.whole) ∙ sym (append_assoc (take at held) b.0 (o ++ r));
      skipped = length-append (take at held) b.0 ∙ omega arith;
      some = l.some;
    }

-- what the splitter has once it has gone on to a frame, of which so many octets are held
pub frame_advanced : (held : List ℕ) (at size given skipped fed : ℕ) (o r : List ℕ) → FrameParts held at o r → at ≤ length held → first_frame (drop at held) ≡ Frame o r
    → record { given = given + 1; last = drop (length held - length r - length o) (take (length held - length r) held); skipped = skipped + (length (drop at held) - length r - length o); rest = drop (length held - length r) held; fed = fed }
    ≡ frame_progress (record { given = given; last = drop (at - size) (take at held); skipped = skipped; rest = drop at held; fed = fed }) (first_frame (drop at held))
frame_advanced held at size given skipped fed o r k le e =
    let n = lengths held k.front o r k.whole in
    let s : length (drop at held) - length r - length o ≡ gap (drop at held) = omega (arith, length-drop at held, k.skipped) in
    rw (e, last_is held k.front o r k.whole, rest_is held k.front o r k.whole, s) refl

-- ---- the whole stream

framing-same : (g h : List ℕ → Frames) (k : ℕ) (f : FirstFrame) → ((o r : List ℕ) → f ≡ Frame o r → g r ≡ h r) → framing g k f ≡ framing h k f
framing-same g h k Unframed same = refl
framing-same g h k (Begun have want) same = refl
framing-same g h k (Rejects bad) same = refl
framing-same g h k (Frame o r) same = rw (same o r refl) refl

shorter : (s o r : List ℕ) → first_frame s ≡ Frame o r → length r < length s
shorter s o r e = let f = frame_fits s o r e in omega (arith, f.0, f.1)

nothing_comes : (x : ℕ) (bound : List ℕ) → frames_of_at_most (x ∷ bound) [] ≡ record { frames = []; skipped = 0; end = Whole }
unfolding frame_at
nothing_comes x bound = refl

enough : (f g s : List ℕ) → length s ≤ length f → length s ≤ length g → frames_of_at_most f s ≡ frames_of_at_most g s
enough [] [] s p q = refl
enough [] (y ∷ g) [] p q = sym (nothing_comes y g)
enough [] (y ∷ g) (b ∷ bs) p q = absurd (omega arith)
enough (x ∷ f) [] [] p q = nothing_comes x f
enough (x ∷ f) [] (b ∷ bs) p q = absurd (omega arith)
enough (x ∷ f) (y ∷ g) s p q = framing-same (frames_of_at_most f) (frames_of_at_most g) (gap s) (first_frame s) (λ o r e. enough f g r (omega (arith, shorter s o r e)) (omega (arith, shorter s o r e)))

-- a stream is what comes first in it, and the stream of the rest
pub frames-first : (s : List ℕ) → frames s ≡ framing frames (gap s) (first_frame s)
unfolding frames frame_at
frames-first [] = refl
frames-first (b ∷ bs) = framing-same (frames_of_at_most bs) frames (gap (b ∷ bs)) (first_frame (b ∷ bs)) (λ o r e. enough bs r r (omega (arith, shorter (b ∷ bs) o r e)) (omega arith))

-- once a frame is whole, the stream is that frame and the stream after it, whatever more comes
frames-takes : (s more o r : List ℕ) → first_frame s ≡ Frame o r → frames (s ++ more) ≡ after_frames (o ∷ []) (gap s) (frames (r ++ more))
frames-takes s more o r e = frames-first (s ++ more) ∙ rw (first_frame-framed s more (Frame o r) e tt, gap-framed s more (Frame o r) e tt) refl

-- a refusal stands, whatever more comes
frames-rejects : (s more : List ℕ) (bad : Bad) → first_frame s ≡ Rejects bad → frames (s ++ more) ≡ record { frames = []; skipped = gap s; end = Bad_end bad }
frames-rejects s more bad e = frames-first (s ++ more) ∙ rw (first_frame-framed s more (Rejects bad) e tt, gap-framed s more (Rejects bad) e tt) refl

frames-ends : (s : List ℕ) → first_frame s ≡ Unframed → frames s ≡ record { frames = []; skipped = gap s; end = Whole }
frames-ends s e = frames-first s ∙ rw e refl

frames-cut : (s : List ℕ) (h w : ℕ) → first_frame s ≡ Begun h w → frames s ≡ record { frames = []; skipped = gap s; end = Cut h w }
frames-cut s h w e = frames-first s ∙ rw e refl

pub after_after : (fs gs : List (List ℕ)) (j k : ℕ) (s : Frames) → after_frames fs j (after_frames gs k s) ≡ after_frames (fs ++ gs) (j + k) s
after_after fs gs j k s = rw (append_assoc fs gs s.frames, add_assoc j k s.skipped) refl

-- ---- what has to be kept of it

same_mark : (s more : List ℕ) → from_mark (s ++ more) ≡ from_mark (pending s ++ more)
same_mark s more = (skips s).mark more

framing-after : (others : List ℕ → Frames) (j k : ℕ) (f : FirstFrame) → framing others (j + k) f ≡ after_frames [] j (framing others k f)
framing-after others j k Unframed = refl
framing-after others j k (Begun have want) = refl
framing-after others j k (Rejects bad) = refl
framing-after others j k (Frame o r) = rw (add_assoc j k (others r).skipped) refl

-- whatever comes, the stream is that of what is pending, after the octets skipped
frames-pending : (s more : List ℕ) → frames (s ++ more) ≡ after_frames [] (length s - length (pending s)) (frames (pending s ++ more))
frames-pending s more =
    let j = length s - length (pending s) in
    let gaps : gap (s ++ more) ≡ j + gap (pending s ++ more) = omega (arith, length-append s more, length-append (pending s) more, ap length (same_mark s more), pending_le s, mark_le (pending s ++ more)) in
    frames-first (s ++ more)
    ∙ ap (framing frames (gap (s ++ more))) (ap frame_at (same_mark s more))
    ∙ ap (λ (n : ℕ). framing frames n (first_frame (pending s ++ more))) gaps
    ∙ framing-after frames j (gap (pending s ++ more)) (first_frame (pending s ++ more))
    ∙ ap (after_frames [] j) (sym (frames-first (pending s ++ more)))

-- ---- what comes first among messages is what comes first among frames, read

abbrev pub read_first : FirstFrame → First
read_first Unframed = Unmarked
read_first (Begun have want) = Partial have want
read_first (Rejects bad) = Refuses bad
read_first (Frame o r) = taken (reading o) r

by_tests : (b0 b1 b2 b3 bs b4 : Bool) (l e n w : ℕ) (o r : List ℕ)
    → cond b0 Unmarked (cond b1 (Partial l 16) (cond b2 (Refuses (Edition e)) (cond b3 (Refuses (TooLong n)) (cond bs (Refuses (Short 0 n)) (cond b4 (Partial l w) (taken (reading o) r))))))
    ≡ read_first (cond b0 Unframed (cond b1 (Begun l 16) (cond b2 (Rejects (Edition e)) (cond b3 (Rejects (TooLong n)) (cond bs (Rejects (Short 0 n)) (cond b4 (Begun l w) (Frame o r)))))))
by_tests true b1 b2 b3 bs b4 l e n w o r = refl
by_tests false true b2 b3 bs b4 l e n w o r = refl
by_tests false false true b3 bs b4 l e n w o r = refl
by_tests false false false true bs b4 l e n w o r = refl
by_tests false false false false true b4 l e n w o r = refl
by_tests false false false false false true l e n w o r = refl
by_tests false false false false false false l e n w o r = refl

first_by_frame : (s : List ℕ) → first_at s ≡ read_first (frame_at s)
unfolding first_at frame_at
first_by_frame s = by_tests (eqb (length s) 0) (ltb (length s) 16) (not (eqb (octets 8 8 s) 2)) (ltb 134217728 (octets 9 16 s)) (ltb (octets 9 16 s) 16) (ltb (length s) (announced s)) (length s) (octets 8 8 s) (octets 9 16 s) (announced s) (take (announced s) s) (drop (announced s) s)

pub first_read : (s : List ℕ) (f : FirstFrame) → first_frame s ≡ f → first s ≡ read_first f
first_read s f e = first_by_frame (from_mark s) ∙ ap read_first e

-- where no frame is whole, no message is
pub waits_framed : (p : Progress) (f : FirstFrame) → first_frame p.rest ≡ f → frame_answer p f ≡ Ok None → IsWaiting p
waits_framed p Unframed e none = ap (answer p) (first_read p.rest Unframed e)
waits_framed p (Begun have want) e none = ap (answer p) (first_read p.rest (Begun have want) e)
waits_framed p (Rejects bad) e none = absurd cc
waits_framed p (Frame o r) e none = absurd cc

-- and the other way round
read_waits : (p : Progress) (o r : List ℕ) (x : Result Sections Bad) → answer p (taken x r) ≡ Ok None → ⊥
read_waits p o r (Ok m) e = not_none m e
  where
    not_none : (m : Sections) → answer p (Takes m r) ≡ Ok None → ⊥
    not_none m h = cc
read_waits p o r (Err bad) e = absurd cc

pub framed_waits : (p : Progress) (f : FirstFrame) → first_frame p.rest ≡ f → IsWaiting p → frame_answer p f ≡ Ok None
framed_waits p Unframed e w = refl
framed_waits p (Begun have want) e w = refl
framed_waits p (Rejects bad) e w = absurd (rejected (sym (ap (answer p) (first_read p.rest (Rejects bad) e)) ∙ w))
  where
    rejected : answer p (Refuses bad) ≡ Ok None → ⊥
    rejected h = absurd cc
framed_waits p (Frame o r) e w = absurd (read_waits p o r (reading o) (sym (ap (answer p) (first_read p.rest (Frame o r) e)) ∙ w))

-- how far the splitter goes where no frame is whole
pub waits_no_frame : (p q : Progress) (h w count : ℕ) → first_frame p.rest ≡ Begun h w → count ≡ length p.rest - h → q ≡ Rattle.fd_sections.specs.Splitting.passed p count → q ≡ waiting p
waits_no_frame p q h w count e is goes = waits p q (Partial h w) count (first_read p.rest (Begun h w) e) is goes ∙ ap (progress p) (first_read p.rest (Begun h w) e)

pub waits_no_mark : (p q : Progress) (count : ℕ) → first_frame p.rest ≡ Unframed → count ≡ length p.rest - 3 → q ≡ Rattle.fd_sections.specs.Splitting.passed p count → q ≡ waiting p
waits_no_mark p q count e is goes = waits p q Unmarked count (first_read p.rest Unframed e) is goes ∙ ap (progress p) (first_read p.rest Unframed e)

-- ---- one step

behind_none : (s : Frames) → s ≡ after_frames [] 0 s
behind_none s = let e : s.skipped ≡ 0 + s.skipped = omega arith in ap (λ (k : ℕ). record { frames = s.frames; skipped = k; end = s.end }) e

pub frames_nothing : (p : Progress) → FramesOn p p [] []
frames_nothing p = record { fed = omega arith; count = omega arith; passed = 0; skipped = omega arith; joins = λ more. behind_none (frames (p.rest ++ more)) }

pub frames_fed : (p : Progress) (piece : List ℕ) → FramesOn p (fed p piece) piece []
frames_fed p piece = record {
  fed = refl;
  count = omega arith;
  passed = 0;
  skipped = omega arith;
  joins = λ more. ap frames (sym (append_assoc p.rest piece more)) ∙ behind_none (frames ((p.rest ++ piece) ++ more));
}

frames_taken : (p : Progress) (o r : List ℕ) → first_frame p.rest ≡ Frame o r → FramesOn p (frame_progress p (Frame o r)) [] (o ∷ [])
frames_taken p o r e = record { fed = omega arith; count = refl; passed = gap p.rest; skipped = refl; joins = λ more. frames-takes p.rest more o r e }

frames_waiting : (p : Progress) → FramesOn p (waiting p) [] []
frames_waiting p = record { fed = omega arith; count = omega arith; passed = length p.rest - length (pending p.rest); skipped = refl; joins = λ more. frames-pending p.rest more }

rejects_as : (p : Progress) (bad : Bad) → first_frame p.rest ≡ Rejects bad → RejectsAs p (record { number = p.given + 1; bad = bad })
rejects_as p bad e = record { number = refl; passed = gap p.rest; joins = λ more. frames-rejects p.rest more bad e }

frames_by : (p : Progress) (f : FirstFrame) → first_frame p.rest ≡ f → FramesTo (λ (o : List ℕ). o) p (frame_progress p f) (frame_answer p f)
frames_by p Unframed e = (frames_waiting p, pending_le p.rest, still_waits p (first p.rest) refl (waits_framed p Unframed e refl))
frames_by p (Begun have want) e = (frames_waiting p, pending_le p.rest, still_waits p (first p.rest) refl (waits_framed p (Begun have want) e refl))
frames_by p (Rejects bad) e = (refl, rejects_as p bad e)
frames_by p (Frame o r) e = let f = frame_fits p.rest o r e in record { on = frames_taken p o r e; fits = f.0; some = f.1; limit = f.2 }

pub frames_to : (p : Progress) → FramesTo (λ (o : List ℕ). o) p (frame_progress p (first_frame p.rest)) (frame_answer p (first_frame p.rest))
frames_to p = frames_by p (first_frame p.rest) refl

seen_frame : {X : Type 0} (view : X → List ℕ) (p q : Progress) (r : Result (Option X) BadAt) (a : Result (Option (List ℕ)) BadAt) → FramesTo (λ (o : List ℕ). o) p q a → Is (option_map view) r a → FramesTo view p q r
seen_frame view p q (Ok (Some x)) a g is = subst (FramesTo (λ (o : List ℕ). o) p q) is g
seen_frame view p q (Ok None) a g is = subst (FramesTo (λ (o : List ℕ). o) p q) is g
seen_frame view p q (Err at) a g is = subst (FramesTo (λ (o : List ℕ). o) p q) is g

-- the same of what a call returned
pub frames_so : {X : Type 0} (view : X → List ℕ) (p : Progress) (r : Result (Option X) BadAt) → Is (option_map view) r (frame_answer p (first_frame p.rest)) → FramesTo view p (frame_progress p (first_frame p.rest)) r
frames_so view p r is = seen_frame view p (frame_progress p (first_frame p.rest)) r (frame_answer p (first_frame p.rest)) (frames_to p) is

abbrev wanted : Bool → Result Bool BadAt
wanted b = Ok b

not_both : wanted true ≡ wanted false → ⊥
not_both h = absurd cc

-- the octets that were given last are those of the frame
pub frames_shown : (p q : Progress) (f : FirstFrame) (o : List ℕ) → Ok true ≡ frame_comes p f → q ≡ frame_progress p f → o ≡ q.last → frame_answer p f ≡ Ok (Some o)
frames_shown p q Unframed o some goes is = absurd (not_both some)
frames_shown p q (Begun have want) o some goes is = absurd (not_both some)
frames_shown p q (Rejects bad) o some goes is = absurd cc
frames_shown p q (Frame x r) o some goes is = ap (λ (y : List ℕ). Ok (Some y)) (sym (is ∙ ap (λ (z : Progress). z.last) goes))

-- ---- one step behind another

pub frames_more : (p q r : Progress) (a b : List ℕ) (fs gs : List (List ℕ)) → FramesOn p q a fs → FramesOn q r b gs → FramesOn p r (a ++ b) (fs ++ gs)
frames_more p q r a b fs gs s t = record {
  fed = let x = s.fed in let y = t.fed in omega (arith, x, y, length-append a b);
  count = let x = s.count in let y = t.count in omega (arith, x, y, length-append fs gs);
  passed = s.passed + t.passed;
  skipped = let x = s.skipped in let y = t.skipped in omega (arith, x, y);
  joins = λ more.
      ap (λ (xs : List ℕ). frames (p.rest ++ xs)) (append_assoc a b more)
      ∙ s.joins (b ++ more)
      ∙ ap (after_frames fs s.passed) (t.joins more)
      ∙ after_after fs gs s.passed t.passed (frames (r.rest ++ more));
}

-- ---- the end

ends_by : (p : Progress) (f : FirstFrame) → first_frame p.rest ≡ f → frame_answer p f ≡ Ok None → FramesEnd p (finished p (read_first f))
ends_by p Unframed e none =
    let count : gap p.rest ≡ length p.rest = nothing_marked p.rest (first_read p.rest Unframed e) in
    (gap p.rest, ap (λ (n : ℕ). p.skipped + n) (sym count), frames-ends p.rest e)
ends_by p (Begun have want) e none = (gap p.rest, refl, frames-cut p.rest have want e)
ends_by p (Rejects bad) e none = absurd cc
ends_by p (Frame o r) e none = absurd cc

-- what is held ends as `finish` answers
pub ends_framed : (p : Progress) → IsWaiting p → FramesEnd p (finished p (first p.rest))
ends_framed p w =
    let f = first_frame p.rest in
    subst (λ (x : First). FramesEnd p (finished p x)) (sym (first_read p.rest f refl)) (ends_by p f refl (framed_waits p f refl w))

joined_all : (p : Progress) (octets : List ℕ) (fs : List (List ℕ)) (s : FramesOn start p octets fs) → frames octets ≡ after_frames fs s.passed (frames p.rest)
joined_all p octets fs s = ap frames (sym (append-nil octets)) ∙ s.joins [] ∙ ap (λ (xs : List ℕ). after_frames fs s.passed (frames xs)) (append-nil p.rest)

abbrev with_end : List (List ℕ) → ℕ → Frames → Frames
with_end fs k s = record { frames = fs; skipped = k; end = s.end }

ended_so : (fs : List (List ℕ)) (j k : ℕ) (s : Frames) → s.frames ≡ [] → j + s.skipped ≡ k → after_frames fs j s ≡ with_end fs k s
ended_so fs j k s none e =
    ap (λ (gs : List (List ℕ)). record { frames = fs ++ gs; skipped = j + s.skipped; end = s.end }) none
    ∙ ap (λ (gs : List (List ℕ)). record { frames = gs; skipped = j + s.skipped; end = s.end }) (append-nil fs)
    ∙ ap (λ (n : ℕ). record { frames = fs; skipped = n; end = s.end }) e

is_frames : (p : Progress) (octets : List ℕ) (fs : List (List ℕ)) (r : Result ℕ Truncated) → FramesOn start p octets fs → FramesEnd p r → IsFrames octets fs r
is_frames p octets fs (Ok count) s (passed, sum, is) =
    let none : Frames = record { frames = []; skipped = passed; end = Whole } in
    let before = s.skipped in
    joined_all p octets fs s ∙ ap (after_frames fs s.passed) is ∙ ended_so fs s.passed count none refl (omega (arith, sum, before))
is_frames p octets fs (Err t) s (passed, number, is) =
    let cut : Frames = record { frames = []; skipped = passed; end = Cut t.have t.want } in
    let given = s.count in
    (omega (arith, number, given), (s.passed + passed, joined_all p octets fs s ∙ ap (after_frames fs s.passed) is ∙ ended_so fs s.passed (s.passed + passed) cut refl refl))

-- the octets are a stream of the frames given, and end as `finish` answers
pub all_framed : (p : Progress) (octets : List ℕ) (fs : List (List ℕ)) → FramesOn start p octets fs → IsWaiting p → IsFrames octets fs (finished p (first p.rest))
all_framed p octets fs s w = is_frames p octets fs (finished p (first p.rest)) s (ends_framed p w)

-- ---- the messages of a stream are those that are read of its frames

abbrev seen : Stream → List Sections × Rattle.fd_sections.specs.Stream.End
seen s = (s.messages, s.end)

abbrev framed_read : Frames → List Sections × Rattle.fd_sections.specs.Stream.End
framed_read s = read_frames s.end s.frames

read_by : (bound : List ℕ) (k : ℕ) (f : FirstFrame) → ((s : List ℕ) → seen (stream_of_at_most bound s) ≡ framed_read (frames_of_at_most bound s))
    → seen (Rattle.fd_sections.specs.Stream.beginning (stream_of_at_most bound) k (read_first f)) ≡ framed_read (framing (frames_of_at_most bound) k f)
read_by bound k Unframed all = refl
read_by bound k (Begun have want) all = refl
read_by bound k (Rejects bad) all = refl
read_by bound k (Frame o r) all = by (reading o)
  where
    by : (x : Result Sections Bad) → seen (Rattle.fd_sections.specs.Stream.beginning (stream_of_at_most bound) k (taken x r)) ≡ read_one x (framed_read (frames_of_at_most bound r))
    by (Ok m) = ap (read_one (Ok m)) (all r)
    by (Err bad) = refl

read_at_most : (bound s : List ℕ) → seen (stream_of_at_most bound s) ≡ framed_read (frames_of_at_most bound s)
read_at_most [] s = refl
read_at_most (x ∷ bound) s =
    ap (λ (f : First). seen (Rattle.fd_sections.specs.Stream.beginning (stream_of_at_most bound) (gap s) f)) (first_read s (first_frame s) refl)
    ∙ read_by bound (gap s) (first_frame s) (read_at_most bound)

pub read_stream : (s : List ℕ) → ((stream s).messages, (stream s).end) ≡ read_frames (frames s).end (frames s).frames
unfolding stream frames
read_stream s = read_at_most s s

pub ruleset framings = (frames_nothing, frames_fed, frames_to, frames_more, ends_framed, all_framed, read_stream)
