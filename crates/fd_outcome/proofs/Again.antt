-- Fields that are written one after the other are a stream of just these, each a message of one field.
use Rattle.std.proofs.Common.{◌≡◌, ◌∙◌, ◌≤◌, ◌+◌, ℕ, Bool, true, false, List, [], ◌∷◌, ◌++◌, length, map, take, drop, Option, Some, None, Result, Ok, Err, All, refl, sym, ap, subst, arith, length-append, ltb, eqb, inl, inr}
use Rattle.std.specs.Prelude.{nat_le}
use Rattle.std.specs.List.{concat}
use Rattle.std.proofs.lemmas.Bool.{le-ltb, le-leb, cases_Bool}
use Rattle.std.proofs.lemmas.Bool.Decides.{nat_tests}
use Rattle.std.proofs.lemmas.List.{take_at, drop_at, map-append}
use Rattle.std.proofs.lemmas.List.Elements.{All-append, All-head, All-map, All-nil, All-tail, All-weaker}
use Rattle.fd_bytes.specs.Numbers.{octets}
use Rattle.fd_bytes.proofs.Octets.{octets-append, starts_with-append}
use Rattle.fd_disk.specs.Folders.{Holdings}
use Rattle.fd_sections.specs.Message.{IsIndicator, IsMessage, Sections, grib, message_octets}
use Rattle.fd_sections.specs.Reading.{reading}
use Rattle.fd_sections.specs.Stream.{Whole, from_mark, gap}
use Rattle.fd_sections.specs.Frames.{Frame, Frames, first_frame, frame_at, frames, framing}
use Rattle.fd_sections.proofs.Frames.{frames-first}
use Rattle.fd_sections.proofs.Laws.{reading_again}
use Rattle.fd_sections.proofs.Marks.{from_mark-here}
use Rattle.fd_split.specs.Reading.{Wrong, reading_fields}
use Rattle.fd_split.specs.Seen.{IsWhole}
use Rattle.fd_split.proofs.Special.{all_whole, read_single}
use Rattle.fd_words.specs.declared.command.Command.TheVariants as commands
use Rattle.fd_split.specs.declared.refusal.Refusal.{Refusal}
use Rattle.fd_stored.specs.declared.status.Status.TheVariants.{Done}
use Rattle.fd_split.specs.Limits.{input_limit}
use Rattle.fd_split.specs.Fields.{FieldList, Numbered, all_numbered, behind_fields, fields_after, numbered, split_before, split_frames}
use Rattle.fd_outcome.specs.Splitting.{Split, message_of, octets_of, split_after, split_line, split_of}
use Rattle.fd_outcome.specs.Outcome.{Outcome, outcome, parted}
use Rattle.fd_outcome.specs.Again.{SplitsAgain, same_again, written}
use Rattle.fd_split.proofs.FrameLaws.{all_of}

-- ---- the frame of a message

framed_here : (head rest more : List ℕ) → IsIndicator (length (head ++ rest)) head → frame_at ((head ++ rest) ++ more) ≡ Frame (head ++ rest) more
unfolding frame_at
framed_here head rest more is =
    let size = is.size in
    let all = length-append (head ++ rest) more in
    let long : 16 ≤ length (head ++ rest) = omega (arith, length-append head rest) in
    let t0 : eqb (length ((head ++ rest) ++ more)) 0 ≡ false = grind (arith, nat_tests) in
    let t1 : ltb (length ((head ++ rest) ++ more)) 16 ≡ false = le-ltb _ _ (omega (arith, long, all)) in
    let t2 : octets 8 8 ((head ++ rest) ++ more) ≡ 2 = octets-append 8 8 (head ++ rest) more (omega arith) (omega arith) (omega (arith, long)) ∙ octets-append 8 8 head rest (omega arith) (omega arith) (omega arith) ∙ is.edition in
    let t3 : octets 9 16 ((head ++ rest) ++ more) ≡ length (head ++ rest) = octets-append 9 16 (head ++ rest) more (omega arith) (omega arith) (omega (arith, long)) ∙ octets-append 9 16 head rest (omega arith) (omega arith) (omega arith) ∙ is.total in
    let t4 : ltb 134217728 (length (head ++ rest)) ≡ false = le-ltb _ _ is.limit in
    let t5 : ltb (length (head ++ rest)) 16 ≡ false = le-ltb _ _ long in
    let t6 : ltb (length ((head ++ rest) ++ more)) (length (head ++ rest)) ≡ false = le-ltb _ _ (omega (arith, all)) in
    let t7 : take (length (head ++ rest)) ((head ++ rest) ++ more) ≡ head ++ rest = take_at (head ++ rest) more (length (head ++ rest)) refl in
    let t8 : drop (length (head ++ rest)) ((head ++ rest) ++ more) ≡ more = drop_at (head ++ rest) more (length (head ++ rest)) refl in
    rw (t0, t1, t2, t3, t4, t5, t6, t7, t8) refl

-- a message comes first, whatever is behind it
record Leads (m more : List ℕ) : Type 0 where
  mark_is : from_mark (m ++ more) ≡ m ++ more
  frame_is : frame_at (m ++ more) ≡ Frame m more

leads_by : (head rest more : List ℕ) → IsIndicator (length (head ++ rest)) head → Leads (head ++ rest) more
leads_by head rest more is =
    let size = is.size in
    let long : 4 ≤ length (head ++ rest) = omega (arith, length-append head rest) in
    record {
      mark_is = from_mark-here ((head ++ rest) ++ more) (starts_with-append (head ++ rest) more grib long ∙ starts_with-append head rest grib (omega arith) ∙ is.mark);
      frame_is = framed_here head rest more is;
    }

leads : (s : Sections) (more : List ℕ) → IsWhole s → Leads (message_octets s) more
leads s more is = leads_by s.indicator _ more is.indicator

frames_next : (s : Sections) (more : List ℕ) → IsWhole s → frames (message_octets s ++ more) ≡ record { frames = message_octets s ∷ (frames more).frames; skipped = (frames more).skipped; end = (frames more).end }
frames_next s more is =
    let l = leads s more is in
    let same = ap length l.mark_is in
    let none : gap (message_octets s ++ more) ≡ 0 = omega (arith, same) in
    frames-first (message_octets s ++ more)
    ∙ ap (λ (n : ℕ). framing frames n (first_frame (message_octets s ++ more))) none
    ∙ ap (framing frames 0) (ap frame_at l.mark_is ∙ l.frame_is)
    ∙ ap (λ (n : ℕ). record { frames = message_octets s ∷ (frames more).frames; skipped = n; end = (frames more).end }) (omega arith)

-- ---- one after the other

abbrev WholeField : Numbered → Type 0
WholeField f = IsWhole f.sections

abbrev AreWhole : List Numbered → Type 0
AreWhole fs = All WholeField fs

abbrev of_fields : List Numbered → Frames
of_fields fs = record { frames = map message_of fs; skipped = 0; end = Whole }

none_more : frames [] ≡ of_fields []
unfolding frames
none_more = refl

frames_of : (fs : List Numbered) → AreWhole fs → frames (octets_of fs) ≡ of_fields fs
frames_of [] all = none_more
frames_of (f ∷ fs) all =
    frames_next f.sections (octets_of fs) (All-head WholeField f fs all)
    ∙ ap (λ (s : Frames). record { frames = message_octets f.sections ∷ s.frames; skipped = s.skipped; end = s.end }) (frames_of fs (All-tail WholeField f fs all))

-- the fields, each with the number of its own message, from this number on
abbrev renumbered : ℕ → List Numbered → List Numbered
renumbered n [] = []
renumbered n (f ∷ fs) = numbered n f.sections ∷ renumbered (n + 1) fs

renumbered_count : (n : ℕ) (fs : List Numbered) → length (renumbered n fs) ≡ length fs
renumbered_count n [] = refl
renumbered_count n (f ∷ fs) = let more = renumbered_count (n + 1) fs in omega (arith, more)

renumbered_octets : (n : ℕ) (fs : List Numbered) → octets_of (renumbered n fs) ≡ octets_of fs
renumbered_octets n [] = refl
renumbered_octets n (f ∷ fs) = ap (λ (x : List ℕ). message_octets f.sections ++ x) (renumbered_octets (n + 1) fs)

read_whole : (s : Sections) → IsWhole s → reading_fields (message_octets s) ≡ Ok (s ∷ [])
read_whole s is = read_single (message_octets s) s (reading_again (message_octets s) s is)

split_whole : (n : ℕ) (fs : List Numbered) → AreWhole fs → ((split_frames None n (map message_of fs)).fields ≡ renumbered n fs) × ((split_frames None n (map message_of fs)).refusal ≡ None)
split_whole n [] all = (refl, refl)
split_whole n (f ∷ fs) all =
    let others = split_frames None (n + 1) (map message_of fs) in
    let rest = split_whole (n + 1) fs (All-tail WholeField f fs all) in
    let is : split_before n (reading_fields (message_octets f.sections)) others ≡ behind_fields (all_numbered n (f.sections ∷ [])) others =
    ap (λ (r : Result (List Sections) Wrong). split_before n r others) (read_whole f.sections (All-head WholeField f fs all)) in (
      ap (λ (x : FieldList). x.fields) is ∙ ap (λ (x : List Numbered). numbered n f.sections ∷ x) rest.0,
      ap (λ (x : FieldList). x.refusal) is ∙ rest.1,
    )

-- ---- the fields of an input are messages

whole_before : (n : ℕ) (m : List ℕ) (others : FieldList) → AreWhole others.fields → AreWhole (split_before n (reading_fields m) others).fields
whole_before n m others all = by (reading_fields m) refl
  where
    by : (r : Result (List Sections) Wrong) → reading_fields m ≡ r → AreWhole (split_before n r others).fields
    by (Ok fs) e = All-append WholeField (all_numbered n fs) others.fields (All-map WholeField (numbered n) fs (all_whole m fs e)) all
    by (Err wrong) e = All-nil WholeField

whole_frames : (last : Option Refusal) (n : ℕ) (ms : List (List ℕ)) → AreWhole (split_frames last n ms).fields
whole_frames last n [] = All-nil WholeField
whole_frames last n (m ∷ ms) = whole_before n m (split_frames last (n + 1) ms) (whole_frames last (n + 1) ms)

pub whole_split : (input : List ℕ) → AreWhole (split_of input).fields
whole_split input = elim (cases_Bool (nat_le (length input) input_limit)) [
  | inl small ↦ rw small (whole_frames _ 1 (frames input).frames)
  | inr large ↦ rw large (whole_frames _ 1 (frames (take input_limit input)).frames)
]

-- ---- a second `split`

abbrev as_one : List Numbered → Outcome
as_one fs = record { output = octets_of fs; report = split_line (length fs) 0; status = Done }

parted_again : (x : Split) (fs : List Numbered) → x.fields ≡ renumbered 1 fs → x.refusal ≡ None → x.junk ≡ 0 → parted x ≡ as_one fs
parted_again x fs fields none junk =
    ap (λ (y : Split). parted y) same
    ∙ ap (λ (o : List ℕ). record { output = o; report = split_line (length (renumbered 1 fs)) 0; status = Done }) (renumbered_octets 1 fs)
    ∙ ap (λ (n : ℕ). record { output = octets_of fs; report = split_line n 0; status = Done }) (renumbered_count 1 fs)
  where
    make : List Numbered → Option Refusal → ℕ → Split
    make fs refusal junk = record { fields = fs; refusal = refusal; junk = junk }

    same : x ≡ make (renumbered 1 fs) None 0
    same = ap (λ fs. make fs x.refusal x.junk) fields ∙ ap (λ r. make (renumbered 1 fs) r x.junk) none ∙ ap (make (renumbered 1 fs) None) junk

again : (input : List ℕ) (h : Holdings) (names : List (List ℕ)) → length (written input) ≤ input_limit → outcome commands.Split h names (written input) ≡ Some (same_again input)
again input h names le =
    let fs = (split_of input).fields in
    let all = whole_split input in
    let second : split_of (octets_of fs) ≡ split_after false (of_fields fs) = all_of split_after (octets_of fs) le ∙ ap (split_after false) (frames_of fs all) in
    let w = split_whole 1 fs all in
    ap (λ (x : Split). Some (parted x)) second ∙ ap (λ (o : Outcome). Some o) (parted_again (split_after false (of_fields fs)) fs w.0 w.1 refl)

pub splits_again : (input : List ℕ) → SplitsAgain input
splits_again input = record { again = again input }
