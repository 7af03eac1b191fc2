-- What is stored of an input that is read piece by piece.
use Rattle.std.proofs.Common.{◌≡◌, ℕ, ◌+◌, ◌<◌, ◌≤◌, Bool, true, false, List, [], ◌++◌, length, take, Option, Some, None, Result, Ok, Err, refl, sym, ap, subst, ◌∙◌, append_assoc, append-nil, arith, length-append}
use Rattle.std.proofs.lemmas.List.{take_at}
use Rattle.fd_sections.specs.declared.refusal.Truncated.{Truncated}
use Rattle.fd_sections.specs.Frames.{Frames, FramesEnd, frames}
use Rattle.fd_sections.specs.Progress.{Progress}
use Rattle.fd_sections.specs.Splitting.{finished}
use Rattle.fd_sections.specs.Stream.{End, Whole, first}
use Rattle.fd_sections.specs.Stream as streams
use Rattle.fd_sections.specs.Joining.{IsWaiting}
use Rattle.fd_sections.proofs.Frames.{ends_framed}
use Rattle.fd_key.specs.Pairs.{Pair}
use Rattle.fd_schema.specs.Rules.{Rule}
use Rattle.fd_split.specs.declared.refusal.Refusal.TheVariants.{Cut, Input}
use Rattle.fd_bulk.specs.declared.bulk.BulkFault.{BulkFault}
use Rattle.fd_bulk.specs.declared.bulk.BulkFault.TheVariants as faults
use Rattle.fd_split.specs.Limits.{input_limit}
use Rattle.fd_stored.specs.Causes.{Cause, InStream}
use Rattle.fd_split.specs.Fields.{behind_fields, fields_after}
use Rattle.fd_split.specs.Positions.{Position, at_message, fed_at}
use Rattle.fd_split.specs.Inputs.{refused}
use Rattle.fd_stored.specs.Archiving.{Stored, Taken, datasets_in, ended, in_stream, taken, taken_after, taken_of, taken_of_fields}
use Rattle.fd_bulk.specs.Archived.{IsWholeTaken}
use Rattle.fd_bulk.specs.Inputs.{EndsAfter, EndedOn}
use Rattle.fd_bulk.specs.Taking.{Seen, StoredOn, behind, taken_from}
use Rattle.fd_split.proofs.FrameLaws.{all_of, begins_with, front_of}
use Rattle.fd_bulk.proofs.Takings.{behind_both, piece_later}

-- ---- how it went on

module _ (rules : List Rule) (given : List Pair) where
  abbrev of_fields : Bool → Frames → Taken
  of_fields past s = taken_after rules given past [] 0 0 s

  fed_then : (a : Position) (x : List Stored) (seen piece : List ℕ) → Seen rules given a x seen → (past : Bool) (more : List ℕ) → of_fields past (frames ((seen ++ piece) ++ more)) ≡ behind x (taken_from rules given (datasets_in x) (fed_at a piece) past more)
  fed_then a x seen piece s past more =
      ap (λ (y : List ℕ). of_fields past (frames y)) (append_assoc seen piece more)
      ∙ s.on past (piece ++ more)
      ∙ ap (behind x) (sym (piece_later rules given (datasets_in x) a piece past more))

  module _ {Z : Type 0} where
    -- what was stored of a piece ended for a cause
    pub ended_in : (e : BulkFault Z) (a : Position) (x y : List Stored) (octets seen piece after : List ℕ) → Seen rules given a x seen → octets ≡ (seen ++ piece) ++ after → length (seen ++ piece) ≤ input_limit
        → EndedOn e (taken_from rules given (datasets_in x) (fed_at a piece)) x y → EndsAfter e y (taken rules given octets)
    ended_in e a x y octets seen piece after s all short t =
        begins_with of_fields octets (seen ++ piece) after (EndsAfter e y) all short (λ past more.
        let w = t.ends past more in
        record {
          rest = w.rest;
          is = fed_then a x seen piece s past more ∙ ap (behind x) w.is ∙ behind_both x t.new w.rest ∙ ap (λ (ss : List Stored). behind ss w.rest) (sym t.adds);
          ends = w.ends;
        })

  -- ---- no message is whole in what is held

  -- what comes where no more octets do
  abbrev EndsHere : List (List ℕ) → Progress → ℕ → Bool → Result ℕ Truncated → Type 0
  EndsHere ds p c past (Ok k) = taken_from rules given ds (at_message p c) past [] ≡ ended (in_stream (refused past p.given Whole)) k (p.given + 1)
  EndsHere ds p c past (Err t) = (t.number ≡ p.given + 1) × ((j : ℕ) × (taken_from rules given ds (at_message p c) past [] ≡ ended (in_stream (refused past p.given (streams.Cut t.have t.want))) j (p.given + 1)))

  held_frames : (ds : List (List ℕ)) (p : Progress) (c : ℕ) (past : Bool) (k : ℕ) (end : End) → frames p.rest ≡ record { frames = []; skipped = k; end = end } → taken_from rules given ds (at_message p c) past [] ≡ ended (in_stream (refused past p.given end)) (p.skipped + k) (p.given + 1)
  held_frames ds p c past k end is =
      let zero : p.given + 0 ≡ p.given = omega arith in
      ap (λ (s : Frames). taken_of_fields rules given ds (p.skipped + s.skipped) (behind_fields [] (fields_after past p.given s))) (ap frames (append-nil p.rest) ∙ is)
      ∙ ap (λ (n : ℕ). ended (in_stream (refused past n end)) (p.skipped + k) (p.given + 1)) zero

  ends_here : (ds : List (List ℕ)) (p : Progress) (c : ℕ) (past : Bool) (r : Result ℕ Truncated) → FramesEnd p r → EndsHere ds p c past r
  ends_here ds p c past (Ok count) (passed, sum, is) = held_frames ds p c past passed Whole is ∙ ap (λ (n : ℕ). ended (in_stream (refused past p.given Whole)) n (p.given + 1)) (sym sum)
  ends_here ds p c past (Err t) (passed, number, is) = (number, (p.skipped + passed, held_frames ds p c past passed (streams.Cut t.have t.want) is))

  waits_here : (ds : List (List ℕ)) (p : Progress) (c : ℕ) (past : Bool) (r : Result ℕ Truncated) → IsWaiting p → r ≡ finished p (first p.rest) → EndsHere ds p c past r
  waits_here ds p c past r w e = ends_here ds p c past r (subst (FramesEnd p) (sym e) (ends_framed p w))

  -- ---- the octets seen are all that came

  last : (x : List Stored) (refusal : Option Cause) (j n : ℕ) → behind x (ended refusal j n) ≡ record { stored = x; refusal = refusal; junk = j; next = n }
  last x refusal j n = ap (λ (zs : List Stored). record { stored = zs; refusal = refusal; junk = j; next = n }) (append-nil x)

  seen_all : (a : Position) (x : List Stored) (seen : List ℕ) (past : Bool) → Seen rules given a x seen → of_fields past (frames seen) ≡ behind x (taken_from rules given (datasets_in x) a past [])
  seen_all a x seen past s = ap (λ (y : List ℕ). of_fields past (frames y)) (sym (append-nil seen)) ∙ s.on past []

  at_end : (p : Progress) (c : ℕ) (x : List Stored) (octets seen : List ℕ) → Seen rules given (at_message p c) x seen → octets ≡ seen ++ [] → p.fed ≤ input_limit → taken rules given octets ≡ behind x (taken_from rules given (datasets_in x) (at_message p c) false [])
  at_end p c x octets seen s is le =
      let all : octets ≡ seen = is ∙ append-nil seen in
      let size = s.is_fed in
      let small : length octets ≤ input_limit = omega (arith, ap length all, size, le) in
      all_of of_fields octets small ∙ ap (λ (y : List ℕ). of_fields false (frames y)) all ∙ seen_all (at_message p c) x seen false s

  -- no message has begun behind them: all is stored, and these octets were skipped
  pub taken_whole : (p : Progress) (c : ℕ) (x : List Stored) (octets seen : List ℕ) (k : ℕ) → Seen rules given (at_message p c) x seen → octets ≡ seen ++ [] → p.fed ≤ input_limit → IsWaiting p → Ok k ≡ finished p (first p.rest) → IsWholeTaken x k (taken rules given octets)
  taken_whole p c x octets seen k s all le w e =
      let is : taken rules given octets ≡ record { stored = x; refusal = None; junk = k; next = p.given + 1 } = at_end p c x octets seen s all le ∙ ap (behind x) (waits_here (datasets_in x) p c false (Ok k) w e) ∙ last x None k (p.given + 1) in
      record { stored = ap (λ (t : Taken). t.stored) is; refusal = ap (λ (t : Taken). t.refusal) is; skipped = ap (λ (t : Taken). t.junk) is }

  -- octets come beyond the limit, and nothing below it is refused
  past_limit : (ds : List (List ℕ)) (p : Progress) (c : ℕ) (r : Result ℕ Truncated) → EndsHere ds p c true r → (j : ℕ) × (taken_from rules given ds (at_message p c) true [] ≡ ended (Some (InStream Input)) j (p.given + 1))
  past_limit ds p c (Ok k) is = (k, is)
  past_limit ds p c (Err t) (number, (j, is)) = (j, is)

  module _ {Z : Type 0} where
    -- a message was cut
    pub taken_cut : (p : Progress) (c : ℕ) (x : List Stored) (octets seen : List ℕ) (t : Truncated) → Seen rules given (at_message p c) x seen → octets ≡ seen ++ [] → p.fed ≤ input_limit → IsWaiting p → Err t ≡ finished p (first p.rest)
        → EndsAfter {Z = Z} (faults.Cut t) x (taken rules given octets)
    taken_cut p c x octets seen t s all le w e =
        let is = waits_here (datasets_in x) p c false (Err t) w e in
        record {
          rest = ended (Some (InStream (Cut t))) is.1.0 (p.given + 1);
          is = at_end p c x octets seen s all le
              ∙ ap (behind x) is.1.1
              ∙ ap (λ (n : ℕ). behind x (ended (Some (InStream (Cut (record { number = n; have = t.have; want = t.want })))) is.1.0 (p.given + 1))) (sym is.0);
          ends = (refl, (InStream (Cut t), refl, refl, is.0));
        }

    -- the input is longer than an input may be
    pub taken_past : (p : Progress) (c : ℕ) (x : List Stored) (octets seen left : List ℕ) → Seen rules given (at_message p c) x seen → octets ≡ seen ++ left → p.fed ≡ input_limit → 0 < length left → IsWaiting p
        → EndsAfter {Z = Z} faults.InputLimit x (taken rules given octets)
    taken_past p c x octets seen left s all full some w =
        let count = s.is_fed in
        let size : length seen ≡ input_limit = omega (arith, count, full) in
        let long : input_limit < length octets = omega (arith, ap length all, length-append seen left, size, some) in
        let front : take input_limit octets ≡ seen = ap (take input_limit) all ∙ take_at seen left input_limit size in
        let y = past_limit (datasets_in x) p c (finished p (first p.rest)) (waits_here (datasets_in x) p c true (finished p (first p.rest)) w refl) in
        record {
          rest = ended (Some (InStream Input)) y.0 (p.given + 1);
          is = front_of of_fields octets long ∙ ap (λ (z : List ℕ). of_fields true (frames z)) front ∙ seen_all (at_message p c) x seen true s ∙ ap (behind x) y.1;
          ends = (refl, (InStream Input, refl, refl, tt));
        }

  -- ---- the fields of the messages that are whole in the octets read

  held_stored : (x : List Stored) (ds : List (List ℕ)) (p : Progress) (c : ℕ) (r : Result ℕ Truncated) → EndsHere ds p c false r → (behind x (taken_from rules given ds (at_message p c) false [])).stored ≡ x
  held_stored x ds p c (Ok k) is = ap (λ (t : Taken). x ++ t.stored) is ∙ append-nil x
  held_stored x ds p c (Err t) (number, (j, is)) = ap (λ (y : Taken). x ++ y.stored) is ∙ append-nil x

  pub held_of : (p : Progress) (c : ℕ) (x : List Stored) (seen : List ℕ) → Seen rules given (at_message p c) x seen → IsWaiting p → taken_of rules given seen ≡ x
  held_of p c x seen s w =
      ap (λ (t : Taken). t.stored) (seen_all (at_message p c) x seen false s)
      ∙ held_stored x (datasets_in x) p c (finished p (first p.rest)) (waits_here (datasets_in x) p c false (finished p (first p.rest)) w refl)
