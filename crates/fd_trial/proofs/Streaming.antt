-- Messages that are made, one after the other, are a stream of just these, each of one field.
use Rattle.std.proofs.Common.{◌≡◌, ◌∙◌, ◌≤◌, ◌+◌, ◌*◌, ℕ, zero, suc, false, List, [], ◌∷◌, ◌++◌, length, map, take, drop, Ok, Result, None, refl, sym, ap, subst, arith, length-append, ltb, eqb}
use Rattle.std.specs.List.{range_with_len}
use Rattle.std.proofs.lemmas.Bool.{le-ltb}
use Rattle.std.proofs.lemmas.Bool.Decides.{nat_tests}
use Rattle.std.proofs.lemmas.List.{take_all, drop_all}
use Rattle.fd_bytes.specs.Numbers.{octets}
use Rattle.fd_bytes.proofs.Octets.{octets-append, starts_with-append}
use Rattle.fd_key.specs.Pairs.{Pair}
use Rattle.fd_schema.specs.Rules.{Rule}
use Rattle.fd_sections.specs.Message.{IsIndicator, IsMessage, Sections, grib}
use Rattle.fd_sections.specs.Frames.{FirstFrame, Frame, Frames, FramesTo, IsFrame, after_frames, first_frame, frame_answer, frame_at, frame_progress, frames}
use Rattle.fd_sections.specs.Progress.{Progress}
use Rattle.fd_sections.specs.Stream.{Whole, from_mark, gap}
use Rattle.fd_sections.proofs.Frames.{frames_to}
use Rattle.fd_sections.proofs.Laws.{reading_again}
use Rattle.fd_sections.proofs.Marks.{from_mark-here}
use Rattle.fd_split.specs.Reading.{Wrong, reading_fields}
use Rattle.fd_split.proofs.Special.{read_single}
use Rattle.fd_gen.specs.Generated.{generated_octets, generated_sections}
use Rattle.fd_gen.proofs.Parts.{is_message, octets_count}
use Rattle.fd_stored.specs.Archiving.{taken, taken_after, taken_of_fields}
use Rattle.fd_split.specs.Fields.{FieldList, Numbered, behind_fields, numbered, split_before, split_frames}
use Rattle.fd_split.specs.Limits.{input_limit}
use Rattle.fd_outcome.specs.Outcome.{generated_messages}
use Rattle.fd_split.proofs.FrameLaws.{all_of}
use Rattle.fd_trial.specs.Made.{messages_from}

-- ---- a message alone

made_first : (head rest : List ℕ) → IsIndicator (length (head ++ rest)) head → frame_at (head ++ rest) ≡ Frame (head ++ rest) []
unfolding frame_at
made_first head rest is =
    let size = is.size in
    let long : 16 ≤ length (head ++ rest) = omega (arith, length-append head rest) in
    let t0 : eqb (length (head ++ rest)) 0 ≡ false = grind (arith, nat_tests) in
    let t1 : ltb (length (head ++ rest)) 16 ≡ false = le-ltb _ _ long in
    let t2 : octets 8 8 (head ++ rest) ≡ 2 = octets-append 8 8 head rest (omega arith) (omega arith) (omega arith) ∙ is.edition in
    let t3 : octets 9 16 (head ++ rest) ≡ length (head ++ rest) = octets-append 9 16 head rest (omega arith) (omega arith) (omega arith) ∙ is.total in
    let t4 : ltb 134217728 (length (head ++ rest)) ≡ false = le-ltb _ _ is.limit in
    let t5 : ltb (length (head ++ rest)) 16 ≡ false = le-ltb _ _ long in
    let t6 : ltb (length (head ++ rest)) (length (head ++ rest)) ≡ false = le-ltb _ _ (omega arith) in
    let t7 : take (length (head ++ rest)) (head ++ rest) ≡ head ++ rest = take_all (length (head ++ rest)) (head ++ rest) (omega arith) in
    let t8 : drop (length (head ++ rest)) (head ++ rest) ≡ [] = drop_all (length (head ++ rest)) (head ++ rest) (omega arith) in
    rw (t0, t1, t2, t3, t4, t5, t6, t7, t8) refl

begins : (head rest : List ℕ) (n : ℕ) → IsIndicator n head → from_mark (head ++ rest) ≡ head ++ rest
begins head rest n is =
    let size = is.size in
    from_mark-here (head ++ rest) (starts_with-append head rest grib (omega arith) ∙ is.mark)

record Alone (m : List ℕ) : Type 0 where
  first_is : first_frame m ≡ Frame m []
  gap_is : gap m ≡ 0

alone_by : (head rest : List ℕ) → IsIndicator (length (head ++ rest)) head → Alone (head ++ rest)
alone_by head rest is =
    let here = begins head rest _ is in
    let same = ap length here in
    record { first_is = ap frame_at here ∙ made_first head rest is; gap_is = omega (arith, same) }

alone : (m : List ℕ) (s : Sections) → IsMessage m s → Alone m
alone m s is = subst (λ (x : List ℕ). Alone x) (sym is.whole) (alone_by s.indicator _ (subst (λ (x : List ℕ). IsIndicator (length x) s.indicator) is.whole is.indicator))

-- it is a frame before whatever comes
frames_behind : (m more : List ℕ) → Alone m → frames (m ++ more) ≡ after_frames (m ∷ []) 0 (frames more)
frames_behind m more a =
    let p : Progress = record { given = 0; last = []; skipped = 0; rest = m; fed = 0 } in
    let f : IsFrame p (frame_progress p (Frame m [])) m = subst (λ (x : FirstFrame). FramesTo (λ (o : List ℕ). o) p (frame_progress p x) (frame_answer p x)) a.first_is (frames_to p) in
    let passed = f.on.skipped in
    let gap = a.gap_is in
    let none : f.on.passed ≡ 0 = omega (arith, passed, gap) in
    f.on.joins more ∙ ap (λ (n : ℕ). after_frames (m ∷ []) n (frames more)) none

-- ---- one after the other

abbrev of_frames_made : ℕ → ℕ → Frames
of_frames_made next rest = record { frames = map generated_octets (range_with_len next rest); skipped = 0; end = Whole }

none_more : frames [] ≡ of_frames_made 0 0
unfolding frames
none_more = refl

frames_from : (next rest : ℕ) → frames (messages_from next rest) ≡ of_frames_made next rest
frames_from next zero = none_more
frames_from next (suc k) =
    frames_behind (generated_octets next) (messages_from (next + 1) k) (alone (generated_octets next) (generated_sections next) (is_message next))
    ∙ ap (after_frames (generated_octets next ∷ []) 0) (frames_from (next + 1) k)

-- ---- each has one field

abbrev pub made_field : ℕ → Numbered
made_field i = numbered (i + 1) (generated_sections i)

abbrev pub made_fields : ℕ → ℕ → FieldList
made_fields next rest = record { fields = map made_field (range_with_len next rest); refusal = None; next = next + 1 + rest }

split_made : (next rest : ℕ) → split_frames None (next + 1) (map generated_octets (range_with_len next rest)) ≡ made_fields next rest
split_made next zero =
    let count : next + 1 ≡ next + 1 + 0 = omega arith in
    ap (λ (n : ℕ). record { fields = []; refusal = None; next = n }) count
split_made next (suc k) =
    let read : reading_fields (generated_octets next) ≡ Ok (generated_sections next ∷ []) = read_single (generated_octets next) (generated_sections next) (reading_again (generated_octets next) (generated_sections next) (is_message next)) in
    let count : next + 1 + 1 + k ≡ next + 1 + suc k = omega arith in
    ap (λ (r : Result (List Sections) Wrong). split_before (next + 1) r (split_frames None (next + 1 + 1) (map generated_octets (range_with_len (next + 1) k)))) read
    ∙ ap (behind_fields (made_field next ∷ [])) (split_made (next + 1) k)
    ∙ ap (λ (n : ℕ). record { fields = map made_field (range_with_len next (suc k)); refusal = None; next = n }) count

long_from : (next rest : ℕ) → length (messages_from next rest) ≡ rest * 183
long_from next zero = refl
long_from next (suc k) =
    let one = octets_count next in
    let others = long_from (next + 1) k in
    omega (arith, length-append (generated_octets next) (messages_from (next + 1) k), one, others)

-- what is taken of them
pub taken_made : (rules : List Rule) (given : List Pair) (count : ℕ) → count ≤ 100000 → taken rules given (generated_messages count) ≡ taken_of_fields rules given [] 0 (made_fields 0 count)
taken_made rules given count few =
    let long = long_from 0 count in
    let le : length (messages_from 0 count) ≤ input_limit = omega (arith, long, few) in
    all_of (λ past s. taken_after rules given past [] 0 0 s) (messages_from 0 count) le
    ∙ ap (taken_after rules given false [] 0 0) (frames_from 0 count)
    ∙ ap (taken_of_fields rules given [] 0) (split_made 0 count)
