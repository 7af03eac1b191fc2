-- The fields of an input: those of its messages, one after the other, up to the first message that is refused.
use Rattle.std.specs.Prelude.{ℕ, ◌+◌, Bool, true, false, List, [], ◌∷◌, ◌++◌, length, map, take, nat_le, Option, Some, None, Result, Ok, Err, if◌then◌else◌}
use Rattle.fd_sections.specs.declared.bad.Bad.{Bad}
use Rattle.fd_sections.specs.declared.bad.Bad.TheVariants as bads
use Rattle.fd_sections.specs.Message.{Sections}
use Rattle.fd_sections.specs.Frames.{Frames, frames}
use Rattle.fd_split.specs.Reading.{Wrong, NoMessage, NoMap, reading_fields}
use Rattle.fd_split.specs.declared.refusal.Refusal.{Refusal}
use Rattle.fd_split.specs.declared.refusal.Refusal.TheVariants as refusals
use Rattle.fd_split.specs.Limits.{input_limit}
use Rattle.fd_split.specs.Inputs.{refused}

-- a field, with the number of its message
pub record Numbered : Type 0 where
  pub number : ℕ
  pub sections : Sections

abbrev pub numbered : ℕ → Sections → Numbered
numbered n s = record { number = n; sections = s }

abbrev pub all_numbered : ℕ → List Sections → List Numbered
all_numbered n fs = map (numbered n) fs

-- Fields, in the order of the stream, why what follows them is refused, if it is, and the number of the message that is refused or
-- would come next.
pub record FieldList : Type 0 where
  pub fields : List Numbered
  pub refusal : Option Refusal
  pub next : ℕ

-- why message n is refused, whose octets are no message
abbrev pub refusal_at : ℕ → Bad → Refusal
refusal_at number (bads.TooLong len) = refusals.TooLong len
refusal_at number bad = refusals.Message (record { number = number; bad = bad })

-- why message n isn't split into its fields
abbrev pub refusal_of_wrong : ℕ → Wrong → Refusal
refusal_of_wrong n (NoMessage bad) = refusal_at n bad
refusal_of_wrong n (NoMap field) = refusals.NoMap n field

abbrev pub behind_fields : List Numbered → FieldList → FieldList
behind_fields fs others = record { fields = fs ++ others.fields; refusal = others.refusal; next = others.next }

-- the fields of message n before others, or its refusal, after which none come
abbrev pub split_before : ℕ → Result (List Sections) Wrong → FieldList → FieldList
split_before n (Ok fs) others = behind_fields (all_numbered n fs) others
split_before n (Err wrong) others = record { fields = []; refusal = Some (refusal_of_wrong n wrong); next = n }

-- the fields of the messages from number n on; `last` tells why what follows them is refused, if it is
abbrev pub split_frames : Option Refusal → ℕ → List (List ℕ) → FieldList
split_frames last n [] = record { fields = []; refusal = last; next = n }
split_frames last n (m ∷ ms) = split_before n (reading_fields m) (split_frames last (n + 1) ms)

-- the fields of a stream that comes after n messages; `past` tells that more octets come than an input may have
abbrev pub fields_after : Bool → ℕ → Frames → FieldList
fields_after past n s = split_frames (refused past (n + length s.frames) s.end) (n + 1) s.frames

-- What f makes of the frames of an input, or where the input is longer than an input may be, of those of its first octets, as many as it
-- may have. `past` tells that more come.
abbrev pub of_frames : {A : Type 0} → (Bool → Frames → A) → List ℕ → A
of_frames f input =
    if nat_le (length input) input_limit
    then f false (frames input)
    else f true (frames (take input_limit input))

-- the fields of an input
abbrev pub fields_of_input : List ℕ → FieldList
fields_of_input input = of_frames (λ past s. fields_after past 0 s) input
