-- The steps of a lane, one after the other.
use Rattle.std.proofs.Common.{◌≡◌, ◌≢◌, ◌∙◌, ◌≤◌, ◌+◌, ℕ, zero, suc, List, [], ◌∷◌, ◌++◌, length, append_assoc, slice_get, Some, ap, arith}
use Rattle.std.specs.Prelude.{codes, flat_map, min}
use Rattle.std.specs.Fmt.{decimal}
use Rattle.fd_machine.specs.declared.machine.Answer.{Answer}
use Rattle.fd_machine.specs.declared.machine.Answer.TheVariants.{Found, Miss}
use Rattle.fd_script.specs.declared.script.Lane.{Lane}
use Rattle.fd_script.specs.declared.script.Step.{Step}
use Rattle.fd_lanes.specs.declared.end.End.{End}
use Rattle.fd_listing.specs.Lines.{blank}
use Rattle.fd_transcript.specs.Lines.{Told, all_told, answer_line, end_text, step_line, step_lines, told_from}
use Rattle.fd_transcript.specs.History.{all_flushed, history_line, in_order}
use Rattle.fd_transcript.specs.Transcripts.{before_line, transcript_text}
use Rattle.fd_transcript.proofs.Pieces.{some_front, some_line}

pub told_at : {F : Type 0} (lane : List ℕ) (k : ℕ) (ss : List Step) (es : List (End F)) (i n : ℕ) (s : Step) (e : End F) → slice_get ss i ≡ Some s → slice_get es i ≡ Some e → n ≡ k + i
    → slice_get (told_from lane k ss es) i ≡ Some (record { lane = lane; number = n; step = s; end = e })
told_at lane k [] es i n s e at also is = absurd (cc at)
told_at lane k (x ∷ ss) [] i n s e at also is = absurd (cc also)
told_at lane k (x ∷ ss) (y ∷ es) zero n s e at also is =
    let a : x ≡ s = cc at in
    let b : y ≡ e = cc also in
    let d : k ≡ n = omega (arith, is) in
    cc
told_at lane k (x ∷ ss) (y ∷ es) (suc i) n s e at also is = told_at lane (k + 1) ss es i n s e at also (omega (arith, is))

pub told_short : {F : Type 0} (lane : List ℕ) (k : ℕ) (ss : List Step) (es : List (End F)) (n : ℕ) → min (length ss) (length es) ≤ n → length (told_from lane k ss es) ≤ n
told_short lane k [] es n le = omega arith
told_short lane k (s ∷ ss) [] n le = omega arith
told_short lane k (s ∷ ss) (e ∷ es) zero le = absurd (omega (arith, le))
told_short lane k (s ∷ ss) (e ∷ es) (suc n) le = let more = told_short lane (k + 1) ss es n (omega (arith, le)) in omega (arith, more)

-- the lines before those of the steps, and these
pub text_whole : {F : Type 0} (b : ℕ) (its lanes : List Lane) (ends : List (List (End F))) (empty lines : List ℕ) → lines ≡ empty ++ (before_line b ++ history_line (in_order b (all_flushed its ends))) → empty ≡ [] → its ≡ lanes
    → lines ++ flat_map step_lines (all_told its ends) ≡ transcript_text b lanes ends
text_whole b its lanes ends empty lines is none same =
    let history = history_line (in_order b (all_flushed its ends)) in
    let steps = flat_map step_lines (all_told its ends) in
    ap (λ (t : List ℕ). t ++ steps) (is ∙ ap (λ (t : List ℕ). t ++ (before_line b ++ history)) none)
    ∙ append_assoc (before_line b) history steps
    ∙ ap (λ (ls : List Lane). transcript_text b ls ends) same

-- ---- no line is empty

pub some_answer : (answer : Answer) → answer_line answer ≢ []
some_answer (Found bytes) = some_line (codes "found " ++ decimal (length bytes))
some_answer Miss = some_line (codes "miss")

pub some_step : {F : Type 0} (t : Told F) → step_line t ≢ []
some_step t = some_line (t.lane ++ blank (decimal t.number ++ blank (end_text t.step t.end)))

pub some_text : {F : Type 0} (before : ℕ) (lanes : List Lane) (ends : List (List (End F))) → transcript_text before lanes ends ≢ []
some_text before lanes ends = some_front (before_line before) (history_line (in_order before (all_flushed lanes ends)) ++ flat_map step_lines (all_told lanes ends)) (some_line (codes "before " ++ decimal before))
