-- Why no lane of a session ran, by where it stopped.
use Rattle.std.proofs.Common.{◌≡◌, ◌∙◌, ◌≤◌, ◌⊎◌, ℕ, zero, Bool, true, false, List, Option, Some, None, Ok, Err, refl, sym, ap, inl, inr, arith}
use Rattle.std.specs.Prelude.{IfSome, Contains}
use Rattle.fd_bytes.specs.Causes.{Rose}
use Rattle.fd_disk.specs.Folders.{Holdings, WhereTold, folder_at}
use Rattle.fd_disk.specs.declared.file.File.{File}
use Rattle.fd_entries.specs.declared.table.Entry.{Entry}
use Rattle.fd_entries.specs.declared.table.NotATable.{NotATable}
use Rattle.fd_entries.specs.Table.{listed}
use Rattle.fd_segment.specs.declared.fault.Damage.{Damage}
use Rattle.fd_schema.specs.Grammar as schemas
use Rattle.fd_schema.specs.Reading.{IsFirst}
use Rattle.fd_schema.specs.Rules.{Rule}
use Rattle.fd_schema.specs.declared.fault.SchemaKind.{SchemaKind}
use Rattle.fd_script.specs.Grammar.{Wrong, script_of}
use Rattle.fd_script.specs.Reading.{Gives, seen_wrong}
use Rattle.fd_script.specs.Scripts.{Scripted}
use Rattle.fd_script.specs.declared.fault.ScriptKind.{ScriptKind}
use Rattle.fd_script.specs.declared.fault.ScriptFault.TheVariants.{At}
use Rattle.fd_recovery.specs.Damages as damaged
use Rattle.fd_recovery.specs.Recovered.{WithTable}
use Rattle.fd_recovery.specs.declared.fault.OpenFault.{OpenFault}
use Rattle.fd_recovery.specs.declared.fault.OpenFault.TheVariants as faults
use Rattle.fd_casting.specs.Miscasts as miscasts
use Rattle.fd_casting.specs.Miscasts.{NoneFails}
use Rattle.fd_casting.specs.Steps.{all_posed}
use Rattle.fd_casting.specs.declared.fault.Miscast.{Miscast}
use Rattle.fd_split.specs.declared.refusal.Refusal.{Refusal}
use Rattle.fd_split.specs.declared.refusal.Refusal.TheVariants as refusals
use Rattle.fd_stored.specs.declared.status.Status.{Status}
use Rattle.fd_stored.specs.declared.status.Status.TheVariants as statuses
use Rattle.fd_outcome.specs.declared.stored.Unruled.{Unruled}
use Rattle.fd_outcome.specs.declared.stored.Unruled.TheVariants as unruled
use Rattle.fd_outcome.specs.Asking.{rules_of}
use Rattle.fd_stored.specs.Causes.{BadFile, BadTable, Broken, InStored, SchemaMissing, Telling, TooManyDatasets, damaged_line, is_schema_limit, telling}
use Rattle.fd_outcome.specs.Objects.{IsCalm, Object, object}
use Rattle.fd_stored.specs.Refusals.{refusal_line, refusal_status}
use Rattle.fd_stored.specs.Store.{Stands}
use Rattle.fd_outcome.specs.Told.{ToldOrNoMemory}
use Rattle.fd_outcome.specs.Unruled as rulings
use Rattle.fd_outcome.specs.Unruled.{IsUnruled}
use Rattle.fd_telling.specs.Stops.{ToldSome, ToldUnruled}
use Rattle.fd_lanes.specs.declared.end.End.{End}
use Rattle.fd_stored.specs.Sparing.{SparesDamaged}
use Rattle.fd_play.specs.Plays.{HoldsSame, IsUnopened, LeavesUnplayed, Played}
use Rattle.fd_session.specs.Inputs.{IsInput, IsRefusedBehind}
use Rattle.fd_session.specs.Sessions.{Accepted, IsAccepted, Refused, ByDamage, ByLine, BySchema, ByScript, ByStream}
use Rattle.fd_session.specs.Telling.{limit_or_line, limit_text, miscast_telling, script_telling, wrong_text}
use Rattle.fd_session.specs.Unopened.{OnDisk, ToldUnopened}
use Rattle.fd_session.specs.Writes.{HasCounted}
use Rattle.fd_session.proofs.Ending.{Halts, IsKept, Keeps, Refuses, Starves, Unheld, is_refusal}
use Rattle.fd_session.proofs.Sparing.{spares_self, spares_told, spares_unplayed}

spares_same : (a b : Option Holdings) → b ≡ a → WhereTold a b SparesDamaged
spares_same None b e = rw e tt
spares_same (Some h) b e = rw e (spares_self h)

keeps_same : (o : Option (List ℕ)) (a b : Option Holdings) → b ≡ a → IfSome o (λ octets. WhereTold a b (Keeps octets))
keeps_same None a b e = tt
keeps_same (Some octets) None b e = rw e tt
keeps_same (Some octets) (Some h) b e = rw e (record { holds = record { schema = refl; each = λ name. refl }; founded = inr refl; left = inl refl })

-- a store that tells as it told is as it was
pub kept : (store : Object Holdings) (input : Object (List ℕ)) → store.now ≡ store.before → IsKept store input
kept store input e = record { spares = spares_same store.before store.now e; keeps = keeps_same input.before store.before store.now e }

keeps_held : (rules : List Rule) (script : Scripted) (messages : List (List ℕ)) (o : Option (List ℕ)) (a b : Option Holdings) → WhereTold a b HoldsSame → WhereTold a b (LeavesUnplayed script.dataset) → IfSome a (λ h. rules_of h.schema ≡ Ok rules) → IfSome o (λ octets. Accepted rules octets script messages)
    → IfSome o (λ octets. WhereTold a b (Keeps octets))
keeps_held rules script messages None a b w left are accepted = tt
keeps_held rules script messages (Some octets) None None w left are accepted = tt
keeps_held rules script messages (Some octets) None (Some i) w left are accepted = absurd w
keeps_held rules script messages (Some octets) (Some h) None w left are accepted = absurd w
keeps_held rules script messages (Some octets) (Some h) (Some i) w left are accepted =
    let a : IsAccepted octets h = record { rules = rules; are = are; script = script; messages = messages; accepted = accepted } in
    record { holds = w; founded = inl a; left = inr (a, left) }

-- a store that holds what it held, where the whole input was accepted
pub kept_held : (store : Object Holdings) (input : Object (List ℕ)) (rules : List Rule) (script : Scripted) (messages : List (List ℕ)) → WhereTold store.before store.now HoldsSame → WhereTold store.before store.now (LeavesUnplayed script.dataset)
    → IfSome store.before (λ h. rules_of h.schema ≡ Ok rules) → IfSome input.before (λ octets. Accepted rules octets script messages) → IsKept store input
kept_held store input rules script messages w left are accepted = record {
  spares = spares_told (LeavesUnplayed script.dataset) (spares_unplayed script.dataset) store.before store.now left;
  keeps = keeps_held rules script messages input.before store.before store.now w left are accepted;
}

pub told_since : (R : Holdings → Holdings → Type 0) (a b c d : Option Holdings) → b ≡ a → d ≡ c → WhereTold b c R → WhereTold a d R
told_since R a b c d e f w = rw (sym e, f) w

module _ {F : Type 0} (rules : List Rule) (messages : List (List ℕ)) (script : Scripted) (before : ℕ) (all : List (List (End F))) where
  pub played_since : (a b c d : Option Holdings) → b ≡ a → d ≡ c → WhereTold b c (Played rules messages script before all) → WhereTold a d (Played rules messages script before all)
  played_since = told_since (Played rules messages script before all)

pub counted_since : (n a b c d : ℕ) → a ≤ b → b ≤ c → HasCounted n c d → HasCounted n a d
counted_since n a b c d first second counted = λ lt. let z = counted lt in omega (arith, first, second, z)

pub later_disk : {F : Type 0} (fault : OpenFault F) (a b c d : ℕ) → a ≤ b → b ≤ c → OnDisk fault (Rose c d) → OnDisk fault (Rose a d)
later_disk (faults.Disk f) a b c d first second rose = λ lt. let z = rose lt in omega (arith, first, second, z)
later_disk (faults.NotATable at want found) a b c d first second rose = tt
later_disk (faults.Damaged x) a b c d first second rose = tt
later_disk (faults.TooMany count) a b c d first second rose = tt
later_disk faults.NoMemory a b c d first second rose = tt

pub rose_behind : (a b c : ℕ) → a ≤ b → Rose b c → Rose a c
rose_behind a b c le rose = λ lt. let z = rose lt in omega (arith, le, z)

both_some : {A B : Type 0} (P : A → Type 0) (Q : B → Type 0) (R : A → B → Type 0) (a : Option A) (b : Option B) → IfSome a P → IfSome b Q → ((x : A) (y : B) → P x → Q y → R x y) → IfSome a (λ x. IfSome b (R x))
both_some P Q R None b p q f = tt
both_some P Q R (Some x) None p q f = tt
both_some P Q R (Some x) (Some y) p q f = f x y p q

any_some : {A : Type 0} (a : Option A) → IfSome a (λ x. Unit {0})
any_some None = tt
any_some (Some x) = tt

-- an input that was read, whose steps can all be done
pub accepted : (rules : List Rule) (script : Scripted) (messages : List (List ℕ)) (a : Option (List ℕ)) → IfSome a (λ octets. IsInput octets script messages) → NoneFails rules script.dataset messages (all_posed script.lanes)
    → IfSome a (λ octets. Accepted rules octets script messages)
accepted rules script messages None read done = tt
accepted rules script messages (Some octets) read done = record { read = read; done = done }

-- ---- the store has no rules

pub missing_is : (input : Option (List ℕ)) (store : Option Holdings) → IfSome store (λ h. h.schema ≡ None) → IfSome input (λ octets. IfSome store (λ h. Refused h octets (telling SchemaMissing)))
missing_is input store none = both_some (λ octets. Unit {0}) (λ h. h.schema ≡ None) _ input store (any_some input) none (λ octets h x e. BySchema SchemaMissing (ap rules_of e) refl)

stored_can : (text : List ℕ) (fault : schemas.Fault) → is_refusal (telling (InStored text fault)).status ≡ true
stored_can text fault = go (is_schema_limit fault.kind) refl
  where
    go : (b : Bool) → is_schema_limit fault.kind ≡ b → is_refusal (telling (InStored text fault)).status ≡ true
    go true e = rw e refl
    go false e = rw e refl

some_can : (st : Status) → (st ≡ statuses.Damaged) ⊎ ((st ≡ statuses.Limit) ⊎ (st ≡ statuses.NoMemory)) → (is_refusal st ≡ true) ⊎ (st ≡ statuses.NoMemory)
some_can st (inl e) = inl (ap is_refusal e)
some_can st (inr (inl e)) = inl (ap is_refusal e)
some_can st (inr (inr e)) = inr e

module _ (s : Status) (now : Option Holdings) (i j : ℕ) (input : Object (List ℕ)) (calm : IsCalm input) (c d : Option (List ℕ)) (m n : ℕ) where
  no_store : (a : Option (List ℕ)) (t : Telling) → IfSome a (λ octets. IfSome None (λ (h : Holdings). Refused h octets t))
  no_store None t = tt
  no_store (Some octets) t = tt

  -- what is wrong in the stored schema was told
  pub schema_halts : (before : Option Holdings) (F : Type 0) (line : ℕ) (kind : SchemaKind) → IfSome before (λ h. IsUnruled {F = F} h.schema (unruled.At line kind)) → ToldSome s c d m n
      → ((text : List ℕ) (fault : schemas.Fault) → IsFirst text line kind fault → ToldOrNoMemory (telling (InStored text fault)).status (telling (InStored text fault)).line s c d m n)
      → Halts s (object before now i j) input (object c d m n)
  schema_halts None F line kind is (st, text, can, told) all = Refuses (record { status = st; line = text }) (some_can st can) (no_store input.before (record { status = st; line = text })) calm (inl told)
  schema_halts (Some h) F line kind (text, fault, is, first) some all =
      Refuses (telling (InStored text fault)) (inl (stored_can text fault))
      (both_some (λ octets. Unit {0}) (λ (x : Unit {0}). Unit {0}) (λ octets x. Refused h octets (telling (InStored text fault))) input.before (Some tt) (any_some input.before) tt
      (λ octets x y z. BySchema (InStored text fault) (rw (is, first.place) refl) refl)) calm (all text fault first)

module _ {F : Type 0} (s : Status) (before now : Option Holdings) (i k j : ℕ) (input : Object (List ℕ)) (calm : IsCalm input) (c d : Option (List ℕ)) (m n : ℕ) where
  -- why the store has no rules was told; it counted i faults first, k once its schema was asked for, and counts j now
  pub unruled_halts : (e : Unruled F) → IfSome before (λ h. IsUnruled h.schema e) → ToldUnruled e s c d m n → i ≤ k → rulings.OnDisk e (Rose k j) → Halts s (object before now i j) input (object c d m n)
  unruled_halts (unruled.Disk f) is told le rose = Unheld (rose_behind i k j le rose) told
  unruled_halts unruled.Missing is told le rose = Refuses (telling SchemaMissing) (inl refl) (missing_is input.before before is) calm (inl told)
  unruled_halts (unruled.At line kind) is told le rose = schema_halts s now i j input calm c d m n before F line kind is told.0 told.1
  unruled_halts unruled.NoMemory is told le rose = Starves told

-- ---- the input isn't accepted

script_can : (line : ℕ) (w : Wrong) → is_refusal (script_telling line w).status ≡ true
script_can line w = go (limit_text w)
  where
    go : (o : Option (List ℕ)) → is_refusal (limit_or_line line (wrong_text w) o).status ≡ true
    go None = refl
    go (Some text) = refl

same_wrong : (o : Option Wrong) (v w : Wrong) → o ≡ Some v → o ≡ Some w → v ≡ w
same_wrong None v w e f = absurd cc
same_wrong (Some x) v w e f = let p : x ≡ v = cc in let q : x ≡ w = cc in sym p ∙ q

refusal_can : (r : Refusal) → is_refusal (refusal_status r) ≡ true
refusal_can (refusals.Message at) = refl
refusal_can (refusals.NoMap number field) = refl
refusal_can (refusals.Cut cut) = refl
refusal_can (refusals.Key n fault) = refl
refusal_can (refusals.Field n fault) = refl
refusal_can (refusals.TooLong len) = refl
refusal_can (refusals.Points points) = refl
refusal_can refusals.Input = refl

module _ (s : Status) (store : Object Holdings) (input report : Object (List ℕ)) (rules : List Rule) (are : IfSome store.before (λ h. rules_of h.schema ≡ Ok rules)) (calm : IsCalm input) where
  abbrev Says_ : Telling → Type 0
  Says_ t = ToldOrNoMemory t.status t.line s report.before report.now report.faults_before report.faults_now

  -- a line of the script is wrong
  pub script_halts : (line : ℕ) (kind : ScriptKind) (w : Wrong) → seen_wrong kind ≡ Some w → IfSome input.before (λ octets. Gives (script_of octets) (Err (At line kind))) → Says_ (script_telling line w) → Halts s store input report
  script_halts line kind w is gives told = Refuses (script_telling line w) (inl (script_can line w))
      (both_some (λ octets. Gives (script_of octets) (Err (At line kind))) (λ h. rules_of h.schema ≡ Ok rules) (λ octets h. Refused h octets (script_telling line w)) input.before store.before gives are
      (λ octets h g e. ByScript rules e line w (rw (same_wrong (seen_wrong kind) w g.0 is g.1) g.2) refl)) calm told

  -- the stream is refused
  pub stream_halts : (refusal : Refusal) → IfSome input.before (λ octets. IsRefusedBehind octets refusal) → Says_ (record { status = refusal_status refusal; line = refusal_line refusal }) → Halts s store input report
  stream_halts refusal is told = Refuses (record { status = refusal_status refusal; line = refusal_line refusal }) (inl (refusal_can refusal))
      (both_some (λ octets. IsRefusedBehind octets refusal) (λ h. rules_of h.schema ≡ Ok rules) (λ octets h. Refused h octets (record { status = refusal_status refusal; line = refusal_line refusal })) input.before store.before is are
      (λ octets h r e. ByStream rules e refusal r refl)) calm told

  module _ (script : Scripted) (messages : List (List ℕ)) (read : IfSome input.before (λ octets. IsInput octets script messages)) where
    -- a line can't be done
    pub line_halts : (line : ℕ) (kind : Miscast) → miscasts.IsFirst rules script.dataset messages (all_posed script.lanes) line kind → Says_ (miscast_telling line kind) → Halts s store input report
    line_halts line kind is told = Refuses (miscast_telling line kind) (inl refl)
        (both_some (λ octets. IsInput octets script messages) (λ h. rules_of h.schema ≡ Ok rules) (λ octets h. Refused h octets (miscast_telling line kind)) input.before store.before read are
        (λ octets h r e. ByLine rules e script messages r line kind is refl)) calm told

    module _ (done : NoneFails rules script.dataset messages (all_posed script.lanes)) where
      abbrev damage_telling : Broken → Telling
      damage_telling broken = record { status = statuses.Damaged; line = damaged_line script.dataset broken }

      damage_halts : (broken : Broken) → IfSome store.before (λ h. Stands script.dataset (folder_at h script.dataset) broken) → Says_ (damage_telling broken) → Halts s store input report
      damage_halts broken stands told = Refuses (damage_telling broken) (inl refl)
          (both_some (λ octets. Accepted rules octets script messages) (λ h. (rules_of h.schema ≡ Ok rules) × Stands script.dataset (folder_at h script.dataset) broken) (λ octets h. Refused h octets (damage_telling broken)) input.before store.before (accepted rules script messages input.before read done) (pair store.before are stands)
          (λ octets h x y. ByDamage rules y.0 script messages x broken y.1 refl)) calm told
        where
          pair : (b : Option Holdings) → IfSome b (λ h. rules_of h.schema ≡ Ok rules) → IfSome b (λ h. Stands script.dataset (folder_at h script.dataset) broken) → IfSome b (λ h. (rules_of h.schema ≡ Ok rules) × Stands script.dataset (folder_at h script.dataset) broken)
          pair None x y = tt
          pair (Some h) x y = (x, y)

      bad_table : (f : NotATable) (o : Option File) → WithTable o (λ g. listed script.dataset g.reads ≡ Err f) → (g : File) × (o ≡ Some g) × (listed script.dataset g.reads ≡ Err f)
      bad_table f None w = absurd w
      bad_table f (Some g) w = (g, refl, w)

      among_first : (x : Damage) (all : List Damage) → damaged.IsFirst x all → Contains all x
      among_first x all (rest, is) = rw is (zero, omega arith, refl)

      -- the dataset isn't opened
      pub unopened_halts : {F : Type 0} (fault : OpenFault F) → IfSome store.before (IsUnopened script.dataset fault) → ToldUnopened script.dataset fault s report.before report.now report.faults_before report.faults_now
          → OnDisk fault (Rose store.faults_before store.faults_now) → Halts s store input report
      unopened_halts (faults.Disk f) is told rose = Unheld rose told
      unopened_halts (faults.NotATable at want found) is told rose = damage_halts (BadTable (record { at = at; want = want; found = found })) (go store.before is) told
        where
          go : (b : Option Holdings) → IfSome b (λ h. WithTable (folder_at h script.dataset).table (λ f. listed script.dataset f.reads ≡ Err (record { at = at; want = want; found = found }))) → IfSome b (λ h. Stands script.dataset (folder_at h script.dataset) (BadTable (record { at = at; want = want; found = found })))
          go None w = tt
          go (Some h) w = bad_table (record { at = at; want = want; found = found }) (folder_at h script.dataset).table w
      unopened_halts (faults.Damaged x) is told rose = damage_halts (BadFile x) (go store.before is) told
        where
          with_file : (h : Holdings) (o : Option File) → WithTable o (λ f. (es : List Entry) × (listed script.dataset f.reads ≡ Ok es) × damaged.IsFirst x (damaged.damages (folder_at h script.dataset).files es))
              → (f : File) × (es : List Entry) × (o ≡ Some f) × (listed script.dataset f.reads ≡ Ok es) × Rattle.fd_stored.specs.Store.StandsIn (folder_at h script.dataset) es x
          with_file h None w = absurd w
          with_file h (Some f) (es, listed_is, first) = (f, es, refl, listed_is, inl (among_first x (damaged.damages (folder_at h script.dataset).files es) first))

          go : (b : Option Holdings) → IfSome b (λ h. WithTable (folder_at h script.dataset).table (λ f. (es : List Entry) × (listed script.dataset f.reads ≡ Ok es) × damaged.IsFirst x (damaged.damages (folder_at h script.dataset).files es)))
              → IfSome b (λ h. Stands script.dataset (folder_at h script.dataset) (BadFile x))
          go None w = tt
          go (Some h) w = with_file h (folder_at h script.dataset).table w
      unopened_halts (faults.TooMany count) is told rose = Refuses (telling TooManyDatasets) (inl refl) (both_some (λ octets. Unit {0}) (λ h. ⊥) (λ octets h. Refused h octets (telling TooManyDatasets)) input.before store.before (any_some input.before) is (λ octets h x y. absurd y)) calm (inl told)
      unopened_halts faults.NoMemory is told rose = Starves told
