-- How a session that ran no lane, and one that ran its lanes, has ended.
use Rattle.std.proofs.Common.{◌≡◌, ◌∙◌, ◌+◌, ◌≤◌, ◌⊎◌, ℕ, Bool, true, false, ◌||◌, List, [], ◌∷◌, Option, Some, None, Ok, refl, sym, ap, inl, inr, arith}
use Rattle.std.specs.Prelude.{IfSome, IsSome}
use Rattle.fd_disk.specs.Folders.{Holdings, WhereTold}
use Rattle.fd_entries.specs.declared.batch.Pair.{Pair}
use Rattle.fd_segment.specs.declared.fault.Damage.{Damage}
use Rattle.fd_schema.specs.Rules.{Rule}
use Rattle.fd_script.specs.Scripts.{Scripted}
use Rattle.fd_lanes.specs.declared.end.End.{End}
use Rattle.fd_lanes.specs.declared.end.End.TheVariants as variants
use Rattle.fd_lanes.specs.Legal as legal
use Rattle.fd_transcript.specs.Lines.{found_bytes}
use Rattle.fd_transcript.specs.Transcripts.{transcript_text}
use Rattle.fd_stored.specs.declared.status.Status.{Status}
use Rattle.fd_stored.specs.declared.status.Status.TheVariants.{Done, Missed, Words, InputFault, OutputFault, DiskFault, NoMemory, Damaged, Limit}
use Rattle.fd_stored.specs.declared.status.Status.TheVariants as statuses
use Rattle.fd_outcome.specs.Asking.{rules_of}
use Rattle.fd_stored.specs.Causes.{Telling}
use Rattle.fd_outcome.specs.Ends.{AreCalm, disk_failed, input_failed, no_memory}
use Rattle.fd_outcome.specs.Objects.{Failed, IsCalm, Object}
use Rattle.fd_stored.specs.Sparing.{SparesDamaged}
use Rattle.fd_stored.specs.Store.{table_at}
use Rattle.fd_outcome.specs.Told.{Told, ToldOrNoMemory}
use Rattle.fd_play.specs.Plays.{HoldsSame, LeavesUnplayed, Played}
use Rattle.fd_session.specs.Endings.{closing, count_faults, damage_of, first_damage, is_fault, lane_damage, lane_faults, lane_has, one_if, some_has}
use Rattle.fd_session.specs.declared.closing.Kind.TheVariants as kinds
use Rattle.fd_session.specs.Sessions.{Accepted, Ends, Idles, IsAccepted, IsComplete, Refused, Runs, SessionRan}
use Rattle.fd_session.specs.Writes.{All, HasCounted, NoFound, NoText, Starved, Writes}
use Rattle.fd_session.proofs.Sparing.{spares_played, spares_told}

-- ---- where objects tell

if_all : {A : Type 0} (o : Option A) → IfSome o (λ x. Unit {0})
if_all None = tt
if_all (Some x) = tt

for_each : {A : Type 0} (o : Option A) (P : Type 0) → P → IfSome o (λ x. P)
for_each None P p = tt
for_each (Some x) P p = p

if_both_all : {A B : Type 0} (a : Option A) (b : Option B) → IfSome a (λ x. IfSome b (λ y. Unit {0}))
if_both_all None b = tt
if_both_all (Some x) b = if_all b

pub told_both : {A B : Type 0} (R : A → B → Type 0) (a : Option A) (b : Option B) → WhereTold a b R → WhereTold a b (λ x y. Unit {0})
told_both R None None r = tt
told_both R None (Some y) r = absurd r
told_both R (Some x) None r = absurd r
told_both R (Some x) (Some y) r = tt

if_both : {A B : Type 0} (Q P : A → B → Type 0) (a : Option A) (b : Option B) → IfSome a (λ x. IfSome b (Q x)) → ((x : A) (y : B) → Q x y → P x y) → IfSome a (λ x. IfSome b (P x))
if_both Q P None b q f = tt
if_both Q P (Some x) None q f = tt
if_both Q P (Some x) (Some y) q f = f x y q

where_both : {A B : Type 0} (Q : A → B → Type 0) (R : A → B → B → Type 0) (P : A → B → B → Type 0) (a : Option A) (b c : Option B) → IfSome a (λ x. IfSome b (Q x)) → IfSome a (λ x. WhereTold b c (R x)) → ((x : A) (y z : B) → Q x y → R x y z → P x y z) → IfSome a (λ x. WhereTold b c (P x))
where_both Q R P None b c q r f = tt
where_both Q R P (Some x) None None q r f = tt
where_both Q R P (Some x) None (Some z) q r f = absurd r
where_both Q R P (Some x) (Some y) None q r f = absurd r
where_both Q R P (Some x) (Some y) (Some z) q r f = f x y z q r

-- what the second tells is told beside what both tell
both_if : {A B : Type 0} (P : A → B → Type 0) (Q : B → Type 0) (a : Option A) (b : Option B) → IfSome a (λ x. IfSome b (P x)) → IfSome b Q → IfSome a (λ x. IfSome b (λ y. P x y × Q y))
both_if P Q None b p q = tt
both_if P Q (Some x) None p q = tt
both_if P Q (Some x) (Some y) p q = (p, q)

if_pair : {A B : Type 0} (P : A → Type 0) (Q : B → Type 0) (a : Option A) (b : Option B) → IfSome a P → IfSome b Q → IfSome a (λ x. IfSome b (λ y. P x × Q y))
if_pair P Q None b p q = tt
if_pair P Q (Some x) None p q = tt
if_pair P Q (Some x) (Some y) p q = (p, q)

-- ---- what a status says

-- a status that comes with a line of its own, or with none
abbrev is_told : Status → Bool
is_told Done = true
is_told Missed = false
is_told Words = false
is_told statuses.Refused = true
is_told InputFault = false
is_told OutputFault = false
is_told DiskFault = false
is_told NoMemory = false
is_told Damaged = true
is_told Limit = true

abbrev pub is_refusal : Status → Bool
is_refusal Done = false
is_refusal Missed = false
is_refusal Words = false
is_refusal statuses.Refused = true
is_refusal InputFault = false
is_refusal OutputFault = false
is_refusal DiskFault = false
is_refusal NoMemory = false
is_refusal Damaged = true
is_refusal Limit = true

refusal_told : (s : Status) → is_refusal s ≡ true → is_told s ≡ true
refusal_told Done e = refl
refusal_told Missed e = absurd cc
refusal_told Words e = absurd cc
refusal_told statuses.Refused e = refl
refusal_told InputFault e = absurd cc
refusal_told OutputFault e = absurd cc
refusal_told DiskFault e = absurd cc
refusal_told NoMemory e = absurd cc
refusal_told Damaged e = refl
refusal_told Limit e = refl

data Came (s : Status) (store : Object Holdings) (input output report : Object (List ℕ)) : Type 0 where
  Tells_ : (told : is_told s ≡ true) (calm : AreCalm input output) → Came s store input output report
  OfInput : (is : s ≡ InputFault) (failed : Failed input) → Came s store input output report
  OfStore : (is : s ≡ DiskFault) (failed : Failed store) → Came s store input output report
  OfMemory : (is : s ≡ NoMemory) → Came s store input output report
  OfOutput : (is : s ≡ OutputFault) (failed : Failed output ⊎ Failed report) → Came s store input output report

no_told : (s t : Status) → is_told s ≡ true → s ≡ t → is_told t ≡ false → ⊥
no_told s t e is none = let z : true ≡ false = sym e ∙ ap is_told is ∙ none in absurd cc

module _ (s : Status) (store : Object Holdings) (input output report : Object (List ℕ)) where
  never : (t : Status) → is_told t ≡ false → ¬ (InputFault ≡ t) → ¬ (DiskFault ≡ t) → ¬ (NoMemory ≡ t) → ¬ (OutputFault ≡ t) → Came s store input output report → ¬ (s ≡ t)
  never t none a b c d (Tells_ told calm) e = no_told s t told e none
  never t none a b c d (OfInput is failed) e = a (sym is ∙ e)
  never t none a b c d (OfStore is failed) e = b (sym is ∙ e)
  never t none a b c d (OfMemory is) e = c (sym is ∙ e)
  never t none a b c d (OfOutput is failed) e = d (sym is ∙ e)

  quiet_told : (s ≡ Done) ⊎ ((s ≡ statuses.Refused) ⊎ (s ≡ Limit)) → is_told s ≡ true
  quiet_told (inl e) = ap is_told e
  quiet_told (inr (inl e)) = ap is_told e
  quiet_told (inr (inr e)) = ap is_told e

  calm_of : Came s store input output report → is_told s ≡ true → AreCalm input output
  calm_of (Tells_ told calm) e = calm
  calm_of (OfInput is failed) e = absurd (no_told s InputFault e is refl)
  calm_of (OfStore is failed) e = absurd (no_told s DiskFault e is refl)
  calm_of (OfMemory is) e = absurd (no_told s NoMemory e is refl)
  calm_of (OfOutput is failed) e = absurd (no_told s OutputFault e is refl)

  input_of : Came s store input output report → s ≡ InputFault → Failed input
  input_of (Tells_ told calm) e = absurd (no_told s InputFault told e refl)
  input_of (OfInput is failed) e = failed
  input_of (OfStore is failed) e = absurd (let z : DiskFault ≡ InputFault = sym is ∙ e in cc)
  input_of (OfMemory is) e = absurd (let z : NoMemory ≡ InputFault = sym is ∙ e in cc)
  input_of (OfOutput is failed) e = absurd (let z : OutputFault ≡ InputFault = sym is ∙ e in cc)

  store_of : Came s store input output report → s ≡ DiskFault → Failed store
  store_of (Tells_ told calm) e = absurd (no_told s DiskFault told e refl)
  store_of (OfInput is failed) e = absurd (let z : InputFault ≡ DiskFault = sym is ∙ e in cc)
  store_of (OfStore is failed) e = failed
  store_of (OfMemory is) e = absurd (let z : NoMemory ≡ DiskFault = sym is ∙ e in cc)
  store_of (OfOutput is failed) e = absurd (let z : OutputFault ≡ DiskFault = sym is ∙ e in cc)

  output_of : Came s store input output report → s ≡ OutputFault → Failed output ⊎ Failed report
  output_of (Tells_ told calm) e = absurd (no_told s OutputFault told e refl)
  output_of (OfInput is failed) e = absurd (let z : InputFault ≡ OutputFault = sym is ∙ e in cc)
  output_of (OfStore is failed) e = absurd (let z : DiskFault ≡ OutputFault = sym is ∙ e in cc)
  output_of (OfMemory is) e = absurd (let z : NoMemory ≡ OutputFault = sym is ∙ e in cc)
  output_of (OfOutput is failed) e = failed

  ran_of : (F : Type 0) → Came s store input output report → Ends F s store input output report → WhereTold store.before store.now SparesDamaged → (s ≡ Done → IfSome input.before (λ octets. input.now ≡ Some []))
      → IsComplete F s store input output report → SessionRan F s store input output report
  ran_of F came ends spares to_end complete = record {
    ends = ends;
    told = told_both SparesDamaged store.before store.now spares;
    spares = spares;
    words = never Words refl (λ e. absurd cc) (λ e. absurd cc) (λ e. absurd cc) (λ e. absurd cc) came;
    missed = never Missed refl (λ e. absurd cc) (λ e. absurd cc) (λ e. absurd cc) (λ e. absurd cc) came;
    to_end = to_end;
    calm = λ quiet. calm_of came (quiet_told quiet);
    input_fault = input_of came;
    output_fault = output_of came;
    disk_fault = store_of came;
    complete = complete;
  }

-- ---- no lane ran

-- the store holds what it held, and is as it was unless the whole input was accepted
pub record Keeps (octets : List ℕ) (h i : Holdings) : Type 0 where
  pub holds : HoldsSame h i
  pub founded : IsAccepted octets h ⊎ (i ≡ h)
  pub left : (i ≡ h) ⊎ ((a : IsAccepted octets h) × LeavesUnplayed a.script.dataset h i)

pub record IsKept (store : Object Holdings) (input : Object (List ℕ)) : Type 0 where
  pub spares : WhereTold store.before store.now SparesDamaged
  pub keeps : IfSome input.before (λ octets. WhereTold store.before store.now (Keeps octets))

-- Why no lane ran, and that it was told.
pub data Halts (s : Status) (store : Object Holdings) (input report : Object (List ℕ)) : Type 0 where
  Refuses : (t : Telling) (can : (is_refusal t.status ≡ true) ⊎ (t.status ≡ NoMemory)) (is : IfSome input.before (λ octets. IfSome store.before (λ h. Refused h octets t))) (calm : IsCalm input)
      (told : ToldOrNoMemory t.status t.line s report.before report.now report.faults_before report.faults_now) → Halts s store input report
  Unread : (failed : Failed input) (told : Told InputFault input_failed s report.before report.now report.faults_before report.faults_now) → Halts s store input report
  Unheld : (failed : Failed store) (told : Told DiskFault disk_failed s report.before report.now report.faults_before report.faults_now) → Halts s store input report
  Starves : (told : Told NoMemory no_memory s report.before report.now report.faults_before report.faults_now) → Halts s store input report

module _ (F : Type 0) (s : Status) (store : Object Holdings) (input output report : Object (List ℕ)) where
  told_came : (st : Status) (text : List ℕ) → Told st text s report.before report.now report.faults_before report.faults_now → (s ≡ st → Came s store input output report) → Came s store input output report
  told_came st text told f = elim told.told as (λ _. Came s store input output report) [ inl w ↦ f w.status | inr w ↦ OfOutput w.status (inr w.rose) ]

  told_done : (st : Status) (text : List ℕ) → Told st text s report.before report.now report.faults_before report.faults_now → ¬ (Failed report) → s ≡ st
  told_done st text told nr = elim told.told as (λ _. s ≡ st) [ inl w ↦ w.status | inr w ↦ absurd (nr w.rose) ]

  halted_came : IsCalm output → Halts s store input report → Came s store input output report
  halted_came still (Refuses t (inl can) is calm (inl told)) = told_came t.status t.line told (λ e. Tells_ (ap is_told e ∙ refusal_told t.status can) (calm, still))
  halted_came still (Refuses t (inr starves) is calm (inl told)) = told_came t.status t.line told (λ e. OfMemory (e ∙ starves))
  halted_came still (Refuses t can is calm (inr told)) = told_came NoMemory no_memory told (λ e. OfMemory e)
  halted_came still (Unread failed told) = told_came InputFault input_failed told (λ e. OfInput e failed)
  halted_came still (Unheld failed told) = told_came DiskFault disk_failed told (λ e. OfStore e failed)
  halted_came still (Starves told) = told_came NoMemory no_memory told (λ e. OfMemory e)

  told_not_done : (st : Status) (text : List ℕ) → Told st text s report.before report.now report.faults_before report.faults_now → ¬ (st ≡ Done) → ¬ (s ≡ Done)
  told_not_done st text told other e = elim told.told as (λ _. ⊥) [ inl w ↦ other (sym w.status ∙ e) | inr w ↦ (let z : OutputFault ≡ Done = sym w.status ∙ e in absurd cc) ]

  refusal_not_done : (st : Status) → (is_refusal st ≡ true) ⊎ (st ≡ NoMemory) → ¬ (st ≡ Done)
  refusal_not_done st (inl can) e = let z : true ≡ false = sym can ∙ ap is_refusal e in absurd cc
  refusal_not_done st (inr starves) e = let z : NoMemory ≡ Done = sym starves ∙ e in absurd cc

  halted_not_done : Halts s store input report → ¬ (s ≡ Done)
  halted_not_done (Refuses t can is calm (inl told)) = told_not_done t.status t.line told (refusal_not_done t.status can)
  halted_not_done (Refuses t can is calm (inr told)) = told_not_done NoMemory no_memory told (λ e. absurd cc)
  halted_not_done (Unread failed told) = told_not_done InputFault input_failed told (λ e. absurd cc)
  halted_not_done (Unheld failed told) = told_not_done DiskFault disk_failed told (λ e. absurd cc)
  halted_not_done (Starves told) = told_not_done NoMemory no_memory told (λ e. absurd cc)

  idles : (Q : List ℕ → Holdings → Type 0) → output.now ≡ output.before → IfSome input.before (λ octets. IfSome store.before (Q octets)) → IsKept store input
      → ((octets : List ℕ) (h i : Holdings) → Q octets h → Keeps octets h i → Idles F s store input output report octets h i) → Ends F s store input output report
  idles Q nothing q stays f = where_both Q Keeps (λ octets h i. Idles F s store input output report octets h i ⊎ Runs F s store input output report octets h i) input.before store.before store.now q stays.keeps (λ octets h i x y. inl (f octets h i x y))

  halted_ends : output.now ≡ output.before → IsKept store input → Halts s store input report → Ends F s store input output report
  halted_ends nothing stays (Refuses t can is calm told) = idles (λ octets h. Refused h octets t) nothing is stays (λ octets h i q x. record { nothing = nothing; stays = x.holds; founded = x.founded; left = x.left; tells = inl (t, q, told) })
  halted_ends nothing stays (Unread failed told) = idles (λ octets h. Unit {0}) nothing (if_both_all input.before store.before) stays (λ octets h i q x. record { nothing = nothing; stays = x.holds; founded = x.founded; left = x.left; tells = inr (inl (inl told)) })
  halted_ends nothing stays (Unheld failed told) = idles (λ octets h. Unit {0}) nothing (if_both_all input.before store.before) stays (λ octets h i q x. record { nothing = nothing; stays = x.holds; founded = x.founded; left = x.left; tells = inr (inr (inl (inl told))) })
  halted_ends nothing stays (Starves told) = idles (λ octets h. Unit {0}) nothing (if_both_all input.before store.before) stays (λ octets h i q x. record { nothing = nothing; stays = x.holds; founded = x.founded; left = x.left; tells = inr (inr (inr (inl told))) })

  halted_complete : Halts s store input report → IsComplete F s store input output report
  halted_complete (Refuses t can is calm told) = if_both (λ octets h. Refused h octets t) _ input.before store.before is (λ octets h q sound none ns ni nk nr. absurd (none t q))
  halted_complete (Unread failed told) = if_both (λ octets h. Unit {0}) _ input.before store.before (if_both_all input.before store.before) (λ octets h q sound none ns ni nk nr. absurd (ni failed))
  halted_complete (Unheld failed told) = if_both (λ octets h. Unit {0}) _ input.before store.before (if_both_all input.before store.before) (λ octets h q sound none ns ni nk nr. absurd (ns failed))
  halted_complete (Starves told) = if_both (λ octets h. Unit {0}) _ input.before store.before (if_both_all input.before store.before) (λ octets h q sound none ns ni nk nr. inr (inr (told_done NoMemory no_memory told nr)))

  -- no lane ran
  pub idle_ran : output.now ≡ output.before → IsCalm output → IsKept store input → Halts s store input report → SessionRan F s store input output report
  idle_ran nothing still stays halts =
      ran_of s store input output report F (halted_came still halts) (halted_ends nothing stays halts) stays.spares (λ e. absurd (halted_not_done halts e)) (halted_complete halts)

-- ---- the lanes ran

-- a count with what one step or lane adds to it, where it is one at least, or the rest has one at least
fault_here : (b : Bool) (n : ℕ) → (b ≡ false → 1 ≤ n) → 1 ≤ one_if b + n
fault_here true n later = omega arith
fault_here false n later = let z = later refl in omega (arith, z)

or_rest : (a b : Bool) → (a || b) ≡ true → a ≡ false → b ≡ true
or_rest true b e is = absurd cc
or_rest false b e is = e

faults_there : (b : Bool) (m n : ℕ) → (b ≡ true → 1 ≤ m) → (b ≡ false → 1 ≤ n) → 1 ≤ m + n
faults_there true m n here later = let z = here refl in omega (arith, z)
faults_there false m n here later = let z = later refl in omega (arith, z)

module _ {F : Type 0} where
  lane_fault : (es : List (End F)) → lane_has kinds.Fault es ≡ true → 1 ≤ lane_faults es
  lane_fault [] e = absurd cc
  lane_fault (x ∷ es) e = fault_here (is_fault x) (lane_faults es) (λ is. lane_fault es (or_rest (is_fault x) (lane_has kinds.Fault es) e is))

  some_fault : (all : List (List (End F))) → some_has kinds.Fault all ≡ true → 1 ≤ count_faults all
  some_fault [] e = absurd cc
  some_fault (es ∷ all) e =
      faults_there (lane_has kinds.Fault es) (lane_faults es) (count_faults all) (lane_fault es) (λ is. some_fault all (or_rest (lane_has kinds.Fault es) (some_has kinds.Fault all) e is))

  no_damage : (e : End F) → legal.IsSound e → damage_of e ≡ None
  no_damage variants.PutOk x = refl
  no_damage variants.PutUnlisted x = refl
  no_damage (variants.Fault f) x = refl
  no_damage (variants.Listed n) x = refl
  no_damage variants.Nothing x = refl
  no_damage variants.TableFull x = refl
  no_damage variants.NoMemory x = refl
  no_damage (variants.Damaged d) x = absurd x
  no_damage (variants.Got n answers) x = refl

  no_lane_damage : (es : List (End F)) → legal.AreSound es → lane_damage es ≡ None
  no_lane_damage [] x = refl
  no_lane_damage (e ∷ es) (x, xs) = rw (no_damage e x) (no_lane_damage es xs)

  no_first_damage : (all : List (List (End F))) → legal.AllSound all → first_damage all ≡ None
  no_first_damage [] x = refl
  no_first_damage (es ∷ all) (x, xs) = rw (no_lane_damage es x) (no_first_damage all xs)

  data Closes (st : Status) (all : List (List (End F))) : Type 0 where
    ByMemory : (is : st ≡ NoMemory) → Closes st all
    ByDamage : (is : st ≡ Damaged) (d : Damage) (at : first_damage all ≡ Some d) → Closes st all
    ByFault : (is : st ≡ DiskFault) (at : some_has kinds.Fault all ≡ true) → Closes st all
    ByFull : (is : st ≡ Limit) → Closes st all
    ByNone : (is : st ≡ Done) → Closes st all

  closes : (dataset : List ℕ) (all : List (List (End F))) → Closes (closing dataset all).status all
  closes dataset all = go (some_has kinds.Starved all) (first_damage all) (some_has kinds.Fault all) (some_has kinds.Full all) refl refl refl refl
    where
      go : (a : Bool) (o : Option Damage) (b c : Bool) → some_has kinds.Starved all ≡ a → first_damage all ≡ o → some_has kinds.Fault all ≡ b → some_has kinds.Full all ≡ c → Closes (closing dataset all).status all
      go true o b c x y z w = ByMemory (rw x refl)
      go false (Some d) b c x y z w = ByDamage (rw (x, y) refl) d y
      go false None true c x y z w = ByFault (rw (x, y, z) refl) z
      go false None false true x y z w = ByFull (rw (x, y, z, w) refl)
      go false None false false x y z w = ByNone (rw (x, y, z, w) refl)

module _ (F : Type 0) (s : Status) (store : Object Holdings) (input output report : Object (List ℕ)) (rules : List Rule) (messages : List (List ℕ)) (script : Scripted) (before : ℕ) (all : List (List (End F)))
    (writes : Writes (found_bytes all) (transcript_text before script.lanes all) (closing script.dataset all) s output.before output.now output.faults_before output.faults_now report.before report.now report.faults_before report.faults_now)
    (counted : HasCounted (count_faults all) store.faults_before store.faults_now) (calm : IsCalm input) where
  faulted : some_has kinds.Fault all ≡ true → Failed store
  faulted e = λ lt. let z = some_fault all e in let w = counted lt in omega (arith, z, w)

  closed_came : IsCalm output → s ≡ (closing script.dataset all).status → Closes (closing script.dataset all).status all → Came s store input output report
  closed_came still e (ByMemory is) = OfMemory (e ∙ is)
  closed_came still e (ByDamage is d at) = Tells_ (ap is_told (e ∙ is)) (calm, still)
  closed_came still e (ByFault is at) = OfStore (e ∙ is) (faulted at)
  closed_came still e (ByFull is) = Tells_ (ap is_told (e ∙ is)) (calm, still)
  closed_came still e (ByNone is) = Tells_ (ap is_told (e ∙ is)) (calm, still)

  run_came : Writes (found_bytes all) (transcript_text before script.lanes all) (closing script.dataset all) s output.before output.now output.faults_before output.faults_now report.before report.now report.faults_before report.faults_now → Came s store input output report
  run_came (All w) = closed_came w.calm w.status (closes script.dataset all)
  run_came (Starved w) = OfMemory w.status
  run_came (NoFound w) = OfOutput w.status (inl w.rose)
  run_came (NoText w) = OfOutput w.status (inr w.rose)

  abbrev Whole : Type 0
  Whole = (s ≡ Done) ⊎ ((s ≡ Limit) ⊎ (s ≡ NoMemory))

  closed_whole : s ≡ (closing script.dataset all).status → first_damage all ≡ None → ¬ (Failed store) → Closes (closing script.dataset all).status all → Whole
  closed_whole e sound ns (ByMemory is) = inr (inr (e ∙ is))
  closed_whole e sound ns (ByDamage is d at) = absurd (let z : None ≡ Some d = sym sound ∙ at in cc)
  closed_whole e sound ns (ByFault is at) = absurd (ns (faulted at))
  closed_whole e sound ns (ByFull is) = inr (inl (e ∙ is))
  closed_whole e sound ns (ByNone is) = inl (e ∙ is)

  run_whole : Writes (found_bytes all) (transcript_text before script.lanes all) (closing script.dataset all) s output.before output.now output.faults_before output.faults_now report.before report.now report.faults_before report.faults_now
      → first_damage all ≡ None → ¬ (Failed store) → ¬ (Failed output) → ¬ (Failed report) → Whole
  run_whole (All w) sound ns nk nr = closed_whole w.status sound ns (closes script.dataset all)
  run_whole (Starved w) sound ns nk nr = inr (inr w.status)
  run_whole (NoFound w) sound ns nk nr = absurd (nk w.rose)
  run_whole (NoText w) sound ns nk nr = absurd (nr w.rose)

  -- a sound dataset has a table, over which the lanes ran, and no end is damage
  sound_ends : (o : Option (List (List Pair))) (h i : Holdings) → table_at h script.dataset ≡ o → IsSome o → Played rules messages script before all h i → first_damage all ≡ None
  sound_ends None h i e some played = absurd cc
  sound_ends (Some t) h i e some played = no_first_damage all (played.over t e).sound

  complete_of : (b c : Option Holdings) → WhereTold b c (Played rules messages script before all) → IfSome b (λ h. IsSome (table_at h script.dataset) → ¬ (Failed store) → ¬ (Failed output) → ¬ (Failed report) → Whole)
  complete_of None c played = tt
  complete_of (Some h) None played = absurd played
  complete_of (Some h) (Some i) played = λ sound ns nk nr. run_whole writes (sound_ends (table_at h script.dataset) h i refl sound played) ns nk nr

  -- the lanes ran
  pub run_ran : IfSome store.before (λ h. rules_of h.schema ≡ Ok rules) → IfSome input.before (λ octets. Accepted rules octets script messages) → IfSome input.before (λ octets. input.now ≡ Some [])
      → WhereTold store.before store.now (Played rules messages script before all) → SessionRan F s store input output report
  run_ran are accepted to_end played = ran_of s store input output report F (run_came writes)
      (where_both (λ octets h. Accepted rules octets script messages × (rules_of h.schema ≡ Ok rules)) (λ octets. Played rules messages script before all) (λ octets h i. Idles F s store input output report octets h i ⊎ Runs F s store input output report octets h i)
      input.before store.before store.now (if_pair _ _ input.before store.before accepted are) (for_each input.before (WhereTold store.before store.now (Played rules messages script before all)) played)
      (λ octets h i q p. inr (record { rules = rules; are = q.1; script = script; messages = messages; accepted = q.0; before = before; ends = all; played = p; writes = writes; counted = counted })))
      (spares_told (Played rules messages script before all) (λ h i p. spares_played rules messages script before all h i p) store.before store.now played) (λ e. to_end)
      (if_both (λ octets h. (Accepted rules octets script messages × (rules_of h.schema ≡ Ok rules)) × (IsSome (table_at h script.dataset) → ¬ (Failed store) → ¬ (Failed output) → ¬ (Failed report) → Whole)) _ input.before store.before
      (both_if (λ octets h. Accepted rules octets script messages × (rules_of h.schema ≡ Ok rules)) (λ h. IsSome (table_at h script.dataset) → ¬ (Failed store) → ¬ (Failed output) → ¬ (Failed report) → Whole) input.before store.before (if_pair _ _ input.before store.before accepted are) (complete_of store.before store.now played))
      (λ octets h q sound none ns ni nk nr. q.1 (sound (record { rules = rules; are = q.0.1; script = script; messages = messages; accepted = q.0.0 })) ns nk nr))
