-- A stream of frames: the octets that each message says it has, unread. Octets before a `GRIB` are skipped, and counted.
use Rattle.std.specs.Prelude.{◌≡◌, ◌≤◌, ◌+◌, ◌-◌, ℕ, List, [], ◌∷◌, ◌++◌, length, take, drop, Option, Some, None, Result, Ok, Err, Bool, true, false, nat_lt, ◌==◌, not, if◌then◌else◌}
use Rattle.fd_bytes.specs.Numbers.{octets}
use Rattle.fd_sections.specs.declared.bad.Bad.{Bad}
use Rattle.fd_sections.specs.declared.bad.Bad.TheVariants.{Edition, Short, TooLong}
use Rattle.fd_sections.specs.declared.refusal.BadAt.{BadAt}
use Rattle.fd_sections.specs.declared.refusal.Truncated.{Truncated}
use Rattle.fd_sections.specs.Message.{Sections}
use Rattle.fd_sections.specs.Reading.{reading}
use Rattle.fd_sections.specs.Stream.{End, Whole, Cut, Bad_end, announced, from_mark, gap}
use Rattle.fd_sections.specs.Progress.{Progress}
use Rattle.fd_sections.specs.Splitting.{waiting}
use Rattle.fd_sections.specs.Joining.{IsWaiting}

-- What comes first in a stream of frames.
pub data FirstFrame : Type 0 where
  -- no `GRIB`
  Unframed : FirstFrame
  -- a frame that is not whole yet: how many octets it has, and how many it wants
  Begun : (have want : ℕ) → FirstFrame
  -- another edition, too many octets, or fewer than section 0 has
  Rejects : (bad : Bad) → FirstFrame
  Frame : (octets rest : List ℕ) → FirstFrame

-- what comes first at a `GRIB`
unfoldable pub frame_at : List ℕ → FirstFrame
frame_at s =
    if length s == 0 then Unframed
    else if nat_lt (length s) 16 then Begun (length s) 16
    else if not (octets 8 8 s == 2) then Rejects (Edition (octets 8 8 s))
    else if nat_lt 134217728 (octets 9 16 s) then Rejects (TooLong (octets 9 16 s))
    else if nat_lt (octets 9 16 s) 16 then Rejects (Short 0 (octets 9 16 s))
    else if nat_lt (length s) (announced s) then Begun (length s) (announced s)
    else Frame (take (announced s) s) (drop (announced s) s)

abbrev pub first_frame : List ℕ → FirstFrame
first_frame s = frame_at (from_mark s)

pub record Frames : Type 0 where
  pub frames : List (List ℕ)
  pub skipped : ℕ
  pub end : End

-- the stream whose first frame, or end, comes after so many octets; `others` is the stream after it
abbrev pub framing : (List ℕ → Frames) → ℕ → FirstFrame → Frames
framing others skips Unframed = record { frames = []; skipped = skips; end = Whole }
framing others skips (Begun have want) = record { frames = []; skipped = skips; end = Cut have want }
framing others skips (Rejects bad) = record { frames = []; skipped = skips; end = Bad_end bad }
framing others skips (Frame octets rest) = record { frames = octets ∷ (others rest).frames; skipped = skips + (others rest).skipped; end = (others rest).end }

-- the frames of s, of which there are at most as many as the list has elements
abbrev pub frames_of_at_most : List ℕ → List ℕ → Frames
frames_of_at_most [] s = record { frames = []; skipped = length s; end = Whole }
frames_of_at_most (_ ∷ bound) s = framing (frames_of_at_most bound) (gap s) (first_frame s)

-- the frames of s, how many octets are skipped, and how it ends
unfoldable pub frames : List ℕ → Frames
frames s = frames_of_at_most s s

-- the stream that comes after these frames and so many skipped octets
abbrev pub after_frames : List (List ℕ) → ℕ → Frames → Frames
after_frames fs skips s = record { frames = fs ++ s.frames; skipped = skips + s.skipped; end = s.end }

-- ---- how far a stream was split into frames

-- what `next_frame` answers, and how far it goes
abbrev pub frame_answer : Progress → FirstFrame → Result (Option (List ℕ)) BadAt
frame_answer p Unframed = Ok None
frame_answer p (Begun have want) = Ok None
frame_answer p (Rejects b) = Err (record { number = p.given + 1; bad = b })
frame_answer p (Frame octets rest) = Ok (Some octets)

-- the same, without the octets
abbrev pub frame_comes : Progress → FirstFrame → Result Bool BadAt
frame_comes p Unframed = Ok false
frame_comes p (Begun have want) = Ok false
frame_comes p (Rejects b) = Err (record { number = p.given + 1; bad = b })
frame_comes p (Frame octets rest) = Ok true

abbrev pub frame_progress : Progress → FirstFrame → Progress
frame_progress p Unframed = waiting p
frame_progress p (Begun have want) = waiting p
frame_progress p (Rejects bad) = p
frame_progress p (Frame octets rest) = record { given = p.given + 1; last = octets; skipped = p.skipped + gap p.rest; rest = rest; fed = p.fed }

-- From one state of a splitter to another these octets came and these frames were given. Whatever more comes, the stream of what the
-- one held, of what came and of that is these frames and so many skipped octets, and then the stream of what the other holds and of
-- that.
pub record FramesOn (p q : Progress) (came : List ℕ) (given : List (List ℕ)) : Type 0 where
  pub fed : q.fed ≡ p.fed + length came
  pub count : q.given ≡ p.given + length given
  pub passed : ℕ
  pub skipped : q.skipped ≡ p.skipped + passed
  pub joins : (more : List ℕ) → frames (p.rest ++ (came ++ more)) ≡ after_frames given passed (frames (q.rest ++ more))

-- What is held is refused so, whatever more comes.
pub record RejectsAs (p : Progress) (at : BadAt) : Type 0 where
  pub number : at.number ≡ p.given + 1
  pub passed : ℕ
  pub joins : (more : List ℕ) → frames (p.rest ++ more) ≡ record { frames = []; skipped = passed; end = Bad_end at.bad }

-- a frame that was given: it and what is held behind it are no more than what was held before, and it has at least section 0
pub record IsFrame (p q : Progress) (octets : List ℕ) : Type 0 where
  pub on : FramesOn p q [] (octets ∷ [])
  pub fits : length octets + length q.rest ≤ length p.rest
  pub some : 16 ≤ length octets
  pub limit : length octets ≤ 134217728

-- What `next_frame` answers where it goes from p to q: a frame; or none, and no message is whole; or a refusal, and nothing has changed.
abbrev pub FramesTo : {X : Type 0} → (X → List ℕ) → Progress → Progress → Result (Option X) BadAt → Type 0
FramesTo view p q (Ok (Some x)) = IsFrame p q (view x)
FramesTo view p q (Ok None) = FramesOn p q [] [] × (length q.rest ≤ length p.rest) × IsWaiting q
FramesTo view p q (Err at) = (q ≡ p) × RejectsAs p at

-- What is held ends so where no more comes: so many octets were skipped in all, or a message is cut.
abbrev pub FramesEnd : Progress → Result ℕ Truncated → Type 0
FramesEnd p (Ok count) = (passed : ℕ) × (count ≡ p.skipped + passed) × (frames p.rest ≡ record { frames = []; skipped = passed; end = Whole })
FramesEnd p (Err t) = (passed : ℕ) × (t.number ≡ p.given + 1) × (frames p.rest ≡ record { frames = []; skipped = passed; end = Cut t.have t.want })

-- These octets are a stream of these frames and so many skipped octets, or the one behind these is cut.
abbrev pub IsFrames : List ℕ → List (List ℕ) → Result ℕ Truncated → Type 0
IsFrames octets given (Ok count) = frames octets ≡ record { frames = given; skipped = count; end = Whole }
IsFrames octets given (Err t) = (t.number ≡ length given + 1) × ((count : ℕ) × (frames octets ≡ record { frames = given; skipped = count; end = Cut t.have t.want }))

-- ---- frames that are read as messages

abbrev pub read_one : Result Sections Bad → List Sections × End → List Sections × End
read_one (Ok m) others = (m ∷ others.0, others.1)
read_one (Err bad) others = ([], Bad_end bad)

-- The messages of frames, up to the first that is refused, and how they end; behind them the stream of frames ends so.
abbrev pub read_frames : End → List (List ℕ) → List Sections × End
read_frames end [] = ([], end)
read_frames end (o ∷ os) = read_one (reading o) (read_frames end os)
