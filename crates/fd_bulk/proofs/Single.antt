-- No message is refused since several fields are one.
use Rattle.std.proofs.Common.{◌≡◌, ℕ, ◌+◌, Bool, true, false, true≢false, cond, List, [], ◌∷◌, ◌++◌, length, take, drop, Option, Some, None, Result, Ok, Err, refl, sym, ap, ◌∙◌, eqb, ltb, not}
use Rattle.fd_bytes.specs.Numbers.{octets}
use Rattle.fd_sections.specs.declared.bad.Bad.{Bad}
use Rattle.fd_sections.specs.declared.bad.Bad.TheVariants as bads
use Rattle.fd_sections.specs.declared.refusal.BadAt.{BadAt}
use Rattle.fd_sections.specs.Message.{Sections}
use Rattle.fd_sections.specs.Stream.{End, Whole, Cut, Bad_end, announced, from_mark, gap}
use Rattle.fd_sections.specs.Frames.{FirstFrame, Unframed, Begun, Rejects, Frame, Frames, first_frame, frame_at, frames, frames_of_at_most, framing}
use Rattle.fd_split.specs.Reading.{NoMap, NoMessage, Wrong, reading_fields}
use Rattle.fd_split.proofs.Never.{never_multi}
use Rattle.fd_split.specs.declared.refusal.Refusal.{Refusal}
use Rattle.fd_split.specs.declared.refusal.Refusal.TheVariants as refusals
use Rattle.fd_split.specs.Inputs.{refused}
use Rattle.fd_split.specs.Fields.{FieldList, fields_after, refusal_at, split_before, split_frames}
use Rattle.fd_split.specs.Positions.{Position, RefusesNext, fields_from}
use Rattle.fd_split.proofs.Positions.{refused_at}

-- ---- what is told of a message

abbrev is_multi : Bad → Bool
is_multi (bads.Edition edition) = false
is_multi (bads.Length said found) = false
is_multi (bads.Section want found) = false
is_multi (bads.Short section len) = false
is_multi (bads.NoEnd at) = false
is_multi (bads.MultiField section) = true
is_multi (bads.TooLong len) = false
is_multi bads.NoStart = false
is_multi (bads.Over section said left) = false

abbrev multi : Option Refusal → Bool
multi None = false
multi (Some (refusals.Message at)) = is_multi at.bad
multi (Some (refusals.NoMap number field)) = false
multi (Some (refusals.Cut t)) = false
multi (Some (refusals.Key number fault)) = false
multi (Some (refusals.Field number fault)) = false
multi (Some (refusals.TooLong len)) = false
multi (Some (refusals.Points points)) = false
multi (Some refusals.Input) = false

bad_single : (n : ℕ) (bad : Bad) → is_multi bad ≡ false → multi (Some (refusal_at n bad)) ≡ false
bad_single n (bads.Edition edition) is = refl
bad_single n (bads.Length said found) is = refl
bad_single n (bads.Section want found) is = refl
bad_single n (bads.Short section len) is = refl
bad_single n (bads.NoEnd at) is = refl
bad_single n (bads.MultiField section) is = is
bad_single n (bads.TooLong len) is = refl
bad_single n bads.NoStart is = refl
bad_single n (bads.Over section said left) is = refl

-- ---- the frames of a stream

abbrev frame_multi : FirstFrame → Bool
frame_multi Unframed = false
frame_multi (Begun have want) = false
frame_multi (Rejects bad) = is_multi bad
frame_multi (Frame o r) = false

picks : (b : Bool) (x y : FirstFrame) → frame_multi x ≡ false → frame_multi y ≡ false → frame_multi (cond b x y) ≡ false
picks true x y p q = p
picks false x y p q = q

frame_at_single : (s : List ℕ) → frame_multi (frame_at s) ≡ false
unfolding frame_at
frame_at_single s =
    picks (eqb (length s) 0) Unframed _ refl
    (picks (ltb (length s) 16) (Begun (length s) 16) _ refl
    (picks (not (eqb (octets 8 8 s) 2)) (Rejects (bads.Edition (octets 8 8 s))) _ refl
    (picks (ltb 134217728 (octets 9 16 s)) (Rejects (bads.TooLong (octets 9 16 s))) _ refl
    (picks (ltb (octets 9 16 s) 16) (Rejects (bads.Short 0 (octets 9 16 s))) _ refl
    (picks (ltb (length s) (announced s)) (Begun (length s) (announced s)) (Frame (take (announced s) s) (drop (announced s) s)) refl refl)))))

abbrev end_multi : End → Bool
end_multi Whole = false
end_multi (Cut have want) = false
end_multi (Bad_end bad) = is_multi bad

framing_single : (others : List ℕ → Frames) (k : ℕ) (f : FirstFrame) → frame_multi f ≡ false → ((r : List ℕ) → end_multi (others r).end ≡ false) → end_multi (framing others k f).end ≡ false
framing_single others k Unframed is h = refl
framing_single others k (Begun have want) is h = refl
framing_single others k (Rejects bad) is h = is
framing_single others k (Frame o r) is h = h r

few_single : (bound s : List ℕ) → end_multi (frames_of_at_most bound s).end ≡ false
few_single [] s = refl
few_single (b ∷ bound) s = framing_single (frames_of_at_most bound) (gap s) (first_frame s) (frame_at_single (from_mark s)) (λ r. few_single bound r)

frames_single : (s : List ℕ) → end_multi (frames s).end ≡ false
unfolding frames
frames_single s = few_single s s

end_single : (n : ℕ) (end : End) → end_multi end ≡ false → multi (refused false n end) ≡ false
end_single n Whole is = refl
end_single n (Cut have want) is = refl
end_single n (Bad_end bad) is = ap multi (refused_at false n bad) ∙ bad_single (n + 1) bad is

-- ---- their fields

abbrev read_multi : Result (List Sections) Wrong → Bool
read_multi (Ok fs) = false
read_multi (Err (NoMessage bad)) = is_multi bad
read_multi (Err (NoMap field)) = false

reads_single : (m : List ℕ) → read_multi (reading_fields m) ≡ false
reads_single m = go (reading_fields m) (never_multi m)
  where
    go : (r : Result (List Sections) Wrong) → ((section : ℕ) → r ≡ Err (NoMessage (bads.MultiField section)) → ⊥) → read_multi r ≡ false
    go (Ok fs) never = refl
    go (Err (NoMap field)) never = refl
    go (Err (NoMessage (bads.Edition edition))) never = refl
    go (Err (NoMessage (bads.Length said found))) never = refl
    go (Err (NoMessage (bads.Section want found))) never = refl
    go (Err (NoMessage (bads.Short section len))) never = refl
    go (Err (NoMessage (bads.NoEnd at))) never = refl
    go (Err (NoMessage (bads.MultiField section))) never = absurd (never section refl)
    go (Err (NoMessage (bads.TooLong len))) never = refl
    go (Err (NoMessage bads.NoStart)) never = refl
    go (Err (NoMessage (bads.Over section said left))) never = refl

split_single : (n : ℕ) (r : Result (List Sections) Wrong) (others : FieldList) → read_multi r ≡ false → multi others.refusal ≡ false → multi (split_before n r others).refusal ≡ false
split_single n (Ok fs) others is h = h
split_single n (Err (NoMessage bad)) others is h = bad_single n bad is
split_single n (Err (NoMap field)) others is h = refl

all_single : (last : Option Refusal) (n : ℕ) (ms : List (List ℕ)) → multi last ≡ false → multi (split_frames last n ms).refusal ≡ false
all_single last n [] h = h
all_single last n (m ∷ ms) h = split_single n (reading_fields m) (split_frames last (n + 1) ms) (reads_single m) (all_single last (n + 1) ms h)

fields_single : (a : Position) (more : List ℕ) → multi (fields_from a false more).refusal ≡ false
fields_single a more =
    let s = frames (a.split.rest ++ more) in
    all_single (refused false (a.split.given + length s.frames) s.end) (a.split.given + 1) s.frames (end_single (a.split.given + length s.frames) s.end (frames_single (a.split.rest ++ more)))

-- the next message isn't refused so
pub never_several : (a : Position) (at : BadAt) → RefusesNext a (refusal_at at.number at.bad) at.number → (section : ℕ) → at.bad ≡ bads.MultiField section → ⊥
never_several a at r section is =
    let told : multi (Some (refusal_at at.number at.bad)) ≡ false = sym (ap (λ (x : FieldList). multi x.refusal) (r.joins false [])) ∙ fields_single a [] in
    true≢false (ap (λ (b : Bad). multi (Some (refusal_at at.number b))) (sym is) ∙ told)
