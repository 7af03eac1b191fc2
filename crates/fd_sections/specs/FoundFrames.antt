use Rattle.std.specs.Prelude.{◌≡◌, ℕ, Result, Ok, Err}
use Rattle.fd_sections.specs.declared.bad.Bad.{Bad}
use Rattle.fd_sections.specs.declared.frame.FoundFrame.{FoundFrame}
use Rattle.fd_sections.specs.declared.frame.FoundFrame.TheVariants as found
use Rattle.fd_sections.specs.Frames.{FirstFrame, Unframed, Begun, Rejects, Frame}

-- what was found is what comes first, unread; the number of octets that a frame wants isn't told
abbrev pub IsFirstFrame : Result FoundFrame Bad → FirstFrame → Type 0
IsFirstFrame (Ok found.Unframed) f = f ≡ Unframed
IsFirstFrame (Ok (found.Begun have)) f = (want : ℕ) × (f ≡ Begun have want)
IsFirstFrame (Ok (found.Whole octets rest)) f = f ≡ Frame octets.now rest.now
IsFirstFrame (Err bad) f = f ≡ Rejects bad
