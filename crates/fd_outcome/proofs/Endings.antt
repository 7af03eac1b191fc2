-- How a run may end.
use Rattle.std.proofs.Common.{◌≡◌, ◌∙◌, ℕ, List, [], ◌++◌, Option, Some, None, refl, sym, ap, subst, inl, inr, append_assoc, append-nil}
use Rattle.std.specs.Prelude.{IfSome}
use Rattle.fd_io.specs.Streams.{Takes, TakesFront}
use Rattle.fd_stored.specs.declared.status.Status.{Status}
use Rattle.fd_stored.specs.declared.status.Status.TheVariants.{Done, Missed, Words, Refused, InputFault, OutputFault, DiskFault, NoMemory, Damaged, Limit}
use Rattle.fd_outcome.specs.Told.{Told}
use Rattle.fd_bytes.specs.Causes.{Rose}
use Rattle.fd_outcome.specs.Objects.{Failures}
use Rattle.fd_outcome.specs.Outcome.{Outcome, Early, nothing_early}
use Rattle.fd_outcome.specs.Ends.{StopsWith, Fails, Cut, Untold, OnTheWay, AtTheEnd, AtOutputFailed, AtInputFailed, AtNoMemory, AtTrouble, TakesAfter, TakesFrontAfter, Troubles, Ends, input_failed, output_failed, no_memory}

-- ---- what sinks take

pub takes_nothing : (a : Option (List ℕ)) → Takes a a []
takes_nothing None = tt
takes_nothing (Some x) = sym (append-nil x)

pub takes_both : (a b c : Option (List ℕ)) (x y : List ℕ) → Takes a b x → Takes b c y → Takes a c (x ++ y)
takes_both None b c x y p q = tt
takes_both (Some a) None c x y p q = absurd p
takes_both (Some a) (Some b) None x y p q = absurd q
takes_both (Some a) (Some b) (Some c) x y p q = q ∙ ap (λ z. z ++ y) p ∙ append_assoc a x y

pub takes_then_front : (a b c : Option (List ℕ)) (x y : List ℕ) → Takes a b x → TakesFront b c y → TakesFront a c (x ++ y)
takes_then_front a b c x y p (front, rest, is, q) = (x ++ front, rest, ap (λ z. x ++ z) is ∙ sym (append_assoc x front rest), takes_both a b c x front p q)

-- a front of a front
pub front_more : (a b : Option (List ℕ)) (x more whole : List ℕ) → whole ≡ x ++ more → TakesFront a b x → TakesFront a b whole
front_more a b x more whole is (front, rest, e, q) = (front, rest ++ more, is ∙ ap (λ z. z ++ more) e ∙ append_assoc front rest more, q)

pub nothing_of : (a : Option (List ℕ)) (x : List ℕ) → TakesFront a a x
nothing_of a x = ([], x, refl, takes_nothing a)

-- ---- a run that stops early

-- such a status may end a run early with such a line
abbrev pub CanStop : Failures → Troubles → Status → List ℕ → Type 0
CanStop failed troubles Done text = ⊥
CanStop failed troubles Missed text = ⊥
CanStop failed troubles Words text = ⊥
CanStop failed troubles Refused text = ⊥
CanStop failed troubles InputFault text = failed.input × (text ≡ input_failed)
CanStop failed troubles OutputFault text = failed.output × (text ≡ output_failed)
CanStop failed troubles DiskFault text = troubles DiskFault text
CanStop failed troubles NoMemory text = text ≡ no_memory
CanStop failed troubles Damaged text = troubles Damaged text
CanStop failed troubles Limit text = troubles Limit text

-- a front of the early report was told
pub record Begun (c mid : Option (List ℕ)) (e : Early) (front : List ℕ) : Type 0 where
  pub rest : List ℕ
  pub is : e.report ≡ front ++ rest
  pub report : Takes c mid front

-- What was written by then: a front of the early output; a front of the early report, and then the status's line.
pub record Reached (a b c mid : Option (List ℕ)) (e : Early) (front : List ℕ) : Type 0 where
  pub output : TakesFront a b e.output
  pub rest : List ℕ
  pub is : e.report ≡ front ++ rest
  pub report : Takes c mid front

-- nothing was written yet
pub reached_nothing : (a c : Option (List ℕ)) (e : Early) → Reached a a c c e []
reached_nothing a c e = record { output = nothing_of a e.output; rest = e.report; is = refl; report = takes_nothing c }

module _ (failed : Failures) (a b c mid d : Option (List ℕ)) (e : Early) (troubles : Troubles) where
  begun : (front : List ℕ) → Reached a b c mid e front → Begun c mid e front
  begun front r = record { rest = r.rest; is = r.is; report = r.report }

  after : (text front : List ℕ) → Begun c mid e front → Takes mid d text → TakesAfter c d e.report text
  after text front r t = (front, r.rest, r.is, takes_both c mid d front text r.report t)

  front_after : (text front : List ℕ) → Begun c mid e front → TakesFront mid d text → TakesFrontAfter c d e.report text
  front_after text front r t = (front, r.rest, r.is, takes_then_front c mid d front text r.report t)

  stops_with : (o : Option Outcome) (text front : List ℕ) → Reached a b c mid e front → Takes mid d text → StopsWith o e text a b c d
  stops_with (Some o) text front r t = record { output = r.output; report = after text front (begun front r) t }
  stops_with None text front r t = (front, takes_both c mid d front text r.report t)

  -- the early output is a front of the whole one
  abbrev pub Within : Option Outcome → Type 0
  Within o = IfSome o (λ x. (more : List ℕ) × (x.output ≡ e.output ++ more))

  -- output has taken a front of the whole output
  abbrev pub WithinWhole : Option Outcome → Type 0
  WithinWhole o = IfSome o (λ x. TakesFront a b x.output)

  whole_of : (o : Option Outcome) (front : List ℕ) → Within o → Reached a b c mid e front → WithinWhole o
  whole_of None front w r = tt
  whole_of (Some o) front w r = front_more a b e.output w.0 o.output w.1 r.output

  unwritten : (o : Option Outcome) (front : List ℕ) → WithinWhole o → failed.output → Begun c mid e front → Takes mid d output_failed → Fails failed troubles o e a b c d
  unwritten (Some o) front w f r t = inl (f, record { output = w; report = after output_failed front r t })
  unwritten None front w f r t = inl (f, (front, takes_both c mid d front output_failed r.report t))

  cut : (text written front : List ℕ) → TakesFront a b written → Begun c mid e front → TakesFront mid d text → Cut e text written a b c d
  cut text written front w r t = record { output = w; report = front_after text front r t }

  untold : (o : Option Outcome) → failed.report → IfSome o (λ x. Untold failed troubles x e a b c d) → Fails failed troubles o e a b c d
  untold None f u = inr f
  untold (Some o) f u = inr (f, u)

  untold_by : (o : Outcome) (s : Status) (text front : List ℕ) → WithinWhole (Some o) → CanStop failed troubles s text → Reached a b c mid e front → TakesFront mid d text → Untold failed troubles o e a b c d
  untold_by o Done text front w can r t = absurd can
  untold_by o Missed text front w can r t = absurd can
  untold_by o Words text front w can r t = absurd can
  untold_by o Refused text front w can r t = absurd can
  untold_by o InputFault text front w can r t = AtInputFailed can.0 (cut input_failed e.output front r.output (begun front r) (subst (TakesFront mid d) can.1 t))
  untold_by o OutputFault text front w can r t = AtOutputFailed can.0 (cut output_failed o.output front w (begun front r) (subst (TakesFront mid d) can.1 t))
  untold_by o DiskFault text front w can r t = AtTrouble DiskFault text can (cut text e.output front r.output (begun front r) t)
  untold_by o NoMemory text front w can r t = AtNoMemory (cut no_memory e.output front r.output (begun front r) (subst (TakesFront mid d) can t))
  untold_by o Damaged text front w can r t = AtTrouble Damaged text can (cut text e.output front r.output (begun front r) t)
  untold_by o Limit text front w can r t = AtTrouble Limit text can (cut text e.output front r.output (begun front r) t)

  untold_so : (o : Option Outcome) (s : Status) (text front : List ℕ) → Within o → CanStop failed troubles s text → Reached a b c mid e front → TakesFront mid d text → IfSome o (λ x. Untold failed troubles x e a b c d)
  untold_so None s text front w can r t = tt
  untold_so (Some o) s text front w can r t = untold_by o s text front (whole_of (Some o) front w r) can r t

  written : (o : Option Outcome) (s : Status) (text front : List ℕ) → Within o → CanStop failed troubles s text → Reached a b c mid e front → Takes mid d text → Ends failed s o e troubles a b c d
  written o Done text front w can r t = absurd can
  written o Missed text front w can r t = absurd can
  written o Words text front w can r t = absurd can
  written o Refused text front w can r t = absurd can
  written o InputFault text front w can r t = subst (λ x. StopsWith o e x a b c d) can.1 (stops_with o text front r t)
  written o OutputFault text front w can r t = unwritten o front (whole_of o front w r) can.0 (begun front r) (subst (Takes mid d) can.1 t)
  written o DiskFault text front w can r t = (text, can, stops_with o text front r t)
  written o NoMemory text front w can r t = subst (λ x. StopsWith o e x a b c d) can (stops_with o text front r t)
  written o Damaged text front w can r t = inr (text, can, stops_with o text front r t)
  written o Limit text front w can r t = inr (text, can, stops_with o text front r t)

  -- a run that tells such a status ends so, or with a failed write of the report
  pub ends_early : (o : Option Outcome) (s result : Status) (text front : List ℕ) (m n : ℕ) → Within o → CanStop failed troubles s text → Reached a b c mid e front → (Rose m n → failed.report) → Told s text result mid d m n → Ends failed result o e troubles a b c d
  ends_early o s result text front m n w can r reported told = elim told.told as (λ _. Ends failed result o e troubles a b c d) [
    | inl x ↦ subst (λ y. Ends failed y o e troubles a b c d) (sym x.status) (written o s text front w can r x.took)
    | inr x ↦ subst (λ y. Ends failed y o e troubles a b c d) (sym x.status) (untold o (reported x.rose) (untold_so o s text front w can r x.took))
  ]

  untold_output : (o : Option Outcome) (front : List ℕ) → WithinWhole o → failed.output → Begun c mid e front → TakesFront mid d output_failed → IfSome o (λ x. Untold failed troubles x e a b c d)
  untold_output None front w f r t = tt
  untold_output (Some o) front w f r t = AtOutputFailed f (cut output_failed o.output front w r t)

  -- a run whose output failed on its way or at its end, and that tells it
  pub ends_unwritten : (o : Option Outcome) (result : Status) (front : List ℕ) (m n : ℕ) → WithinWhole o → failed.output → Begun c mid e front → (Rose m n → failed.report) → Told OutputFault output_failed result mid d m n → Ends failed result o e troubles a b c d
  ends_unwritten o result front m n w f r reported told = elim told.told as (λ _. Ends failed result o e troubles a b c d) [
    | inl x ↦ subst (λ y. Ends failed y o e troubles a b c d) (sym x.status) (unwritten o front w f r x.took)
    | inr x ↦ subst (λ y. Ends failed y o e troubles a b c d) (sym x.status) (untold o (reported x.rose) (untold_output o front w f r x.took))
  ]

-- a run whose report failed at a line that is told on the way
pub ends_on_the_way : (failed : Failures) (a b c d : Option (List ℕ)) (e : Early) (troubles : Troubles) (o : Option Outcome) → failed.report → TakesFront a b e.output → TakesFront c d e.report → Ends failed OutputFault o e troubles a b c d
ends_on_the_way failed a b c d e troubles None f out rep = inr f
ends_on_the_way failed a b c d e troubles (Some o) f out rep = inr (f, OnTheWay out rep)

-- ---- a run that tells its outcome

-- the status is one of those of an outcome
abbrev pub CanTell : Status → Type 0
CanTell Done = Unit {0}
CanTell Missed = Unit {0}
CanTell Words = ⊥
CanTell Refused = Unit {0}
CanTell InputFault = ⊥
CanTell OutputFault = ⊥
CanTell DiskFault = ⊥
CanTell NoMemory = ⊥
CanTell Damaged = Unit {0}
CanTell Limit = Unit {0}

module _ (failed : Failures) (a b c mid d : Option (List ℕ)) (e : Early) (troubles : Troubles) (o : Outcome) where
  told_by : (s : Status) → CanTell s → s ≡ o.status → Takes a b o.output → Takes c d o.report → Ends failed s (Some o) e troubles a b c d
  told_by Done can is out rep = record { status = is; output = out; report = rep }
  told_by Missed can is out rep = record { status = is; output = out; report = rep }
  told_by Words can is out rep = absurd can
  told_by Refused can is out rep = record { status = is; output = out; report = rep }
  told_by InputFault can is out rep = absurd can
  told_by OutputFault can is out rep = absurd can
  told_by DiskFault can is out rep = absurd can
  told_by NoMemory can is out rep = absurd can
  told_by Damaged can is out rep = inl (record { status = is; output = out; report = rep })
  told_by Limit can is out rep = inl (record { status = is; output = out; report = rep })

  -- the report had taken a front of the outcome's, and now took the rest of it, or a front of that
  pub ends_told : (result : Status) (text front : List ℕ) (m n : ℕ) → CanTell o.status → o.report ≡ front ++ text → Takes a b o.output → Takes c mid front → (Rose m n → failed.report) → Told o.status text result mid d m n → Ends failed result (Some o) e troubles a b c d
  ends_told result text front m n can is out taken reported told = elim told.told as (λ _. Ends failed result (Some o) e troubles a b c d) [
    | inl x ↦ subst (λ y. Ends failed y (Some o) e troubles a b c d) (sym x.status) (told_by o.status can refl out (subst (Takes c d) (sym is) (takes_both c mid d front text taken x.took)))
    | inr x ↦ subst (λ y. Ends failed y (Some o) e troubles a b c d) (sym x.status)
        (inr (reported x.rose, AtTheEnd out (subst (TakesFront c d) (sym is) (takes_then_front c mid d front text taken x.took))))
  ]

-- ---- where nothing goes to the output, and nothing may stand before the line

within_nothing : (o : Option Outcome) → IfSome o (λ x. (more : List ℕ) × (x.output ≡ [] ++ more))
within_nothing None = tt
within_nothing (Some o) = (o.output, refl)

pub ends_at_once : (failed : Failures) (a c d : Option (List ℕ)) (troubles : Troubles) (o : Option Outcome) (s result : Status) (text : List ℕ) (m n : ℕ)
    → CanStop failed troubles s text → (Rose m n → failed.report) → Told s text result c d m n → Ends failed result o nothing_early troubles a a c d
ends_at_once failed a c d troubles o s result text m n can reported told =
    ends_early failed a a c c d nothing_early troubles o s result text [] m n (within_nothing o) can
    (record { output = nothing_of a []; rest = []; is = refl; report = takes_nothing c }) reported told

-- the outcome writes nothing but its report
pub ends_with_line : (failed : Failures) (a c d : Option (List ℕ)) (e : Early) (troubles : Troubles) (o : Outcome) (result : Status) (m n : ℕ)
    → CanTell o.status → o.output ≡ [] → (Rose m n → failed.report) → Told o.status o.report result c d m n → Ends failed result (Some o) e troubles a a c d
ends_with_line failed a c d e troubles o result m n can empty reported told =
    ends_told failed a a c c d e troubles o result o.report [] m n can refl (subst (Takes a a) (sym empty) (takes_nothing a)) (takes_nothing c) reported told

-- ---- what failed in a part of a run failed in the run

module _ (f g : Failures) (t u : Troubles) (a b c d : Option (List ℕ)) (e : Early)
    (input : f.input → g.input) (output : f.output → g.output) (report : f.report → g.report) (trouble : (s : Status) (text : List ℕ) → t s text → u s text) where
  untold_more : (o : Outcome) → Untold f t o e a b c d → Untold g u o e a b c d
  untold_more o (OnTheWay x y) = OnTheWay x y
  untold_more o (AtTheEnd x y) = AtTheEnd x y
  untold_more o (AtOutputFailed x y) = AtOutputFailed (output x) y
  untold_more o (AtInputFailed x y) = AtInputFailed (input x) y
  untold_more o (AtNoMemory y) = AtNoMemory y
  untold_more o (AtTrouble s text x y) = AtTrouble s text (trouble s text x) y

  fails_more : (o : Option Outcome) → Fails f t o e a b c d → Fails g u o e a b c d
  fails_more (Some o) (inl x) = inl (output x.0, x.1)
  fails_more (Some o) (inr x) = inr (report x.0, untold_more o x.1)
  fails_more None (inl x) = inl (output x.0, x.1)
  fails_more None (inr x) = inr (report x)

  pub ends_more : (o : Option Outcome) (s : Status) → Ends f s o e t a b c d → Ends g s o e u a b c d
  ends_more o Done x = x
  ends_more o Missed x = x
  ends_more o Words x = x
  ends_more o Refused x = x
  ends_more o InputFault x = x
  ends_more o OutputFault x = fails_more o x
  ends_more o DiskFault x = (x.0, trouble DiskFault x.0 x.1, x.2)
  ends_more o NoMemory x = x
  ends_more o Damaged (inl x) = inl x
  ends_more o Damaged (inr x) = inr (x.0, trouble Damaged x.0 x.1, x.2)
  ends_more o Limit (inl x) = inl x
  ends_more o Limit (inr x) = inr (x.0, trouble Limit x.0 x.1, x.2)
