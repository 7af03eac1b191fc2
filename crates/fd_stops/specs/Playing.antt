-- What is found of a store in which a session was stopped, and which then crashed.
use Rattle.std.specs.Prelude.{◌≡◌, ◌≢◌, ◌⊎◌, ◌++◌, ℕ, List, [], ◌∷◌, Option, Some, Ok}
use Rattle.fd_disk.specs.Folders.{Holdings, folder_at}
use Rattle.fd_entries.specs.declared.batch.Listing.{Listing}
use Rattle.fd_entries.specs.declared.batch.Pair.{Pair}
use Rattle.fd_schema.specs.Rules.{Rule}
use Rattle.fd_script.specs.Scripts.{Scripted}
use Rattle.fd_lanes.specs.declared.end.End.{End}
use Rattle.fd_lanes.specs.Acts.{all_acts}
use Rattle.fd_lanes.specs.Legal.{IsDoubt, Legal}
use Rattle.fd_lanes.specs.Tables.{AlikeTables}
use Rattle.fd_transcript.specs.Lines.{found_bytes}
use Rattle.fd_transcript.specs.Transcripts.{transcript_text}
use Rattle.fd_stored.specs.declared.status.Status.{Status}
use Rattle.fd_outcome.specs.Asking.{rules_of}
use Rattle.fd_outcome.specs.Objects.{Object}
use Rattle.fd_stored.specs.Store.{table_at}
use Rattle.fd_session.specs.Endings.{closing}
use Rattle.fd_session.specs.Sessions.{Accepted, IsAccepted}
use Rattle.fd_session.specs.Writes.{Writes}
use Rattle.fd_stops.specs.Found.{AreFirm, IsFolderAfter}

-- These batches by alike, and behind them one, whole, that may be in doubt.
pub record HasOneBehind (now t : List (List Pair)) (IsDoubted : Listing → Type 0) : Type 0 where
  pub front : List (List Pair)
  pub batch : List Pair
  pub more : Listing
  pub is : now ≡ front ++ batch ∷ []
  pub alike : AlikeTables front t
  pub batch_is : more.batch ≡ Some batch
  pub doubted : IsDoubted more

-- No lane ran. Of each dataset this is what a crash before may have left; or it is that of a script that was accepted, and holds what
-- it held. Where all tables were firm, each holds what it held.
pub record FoundIdle (octets : List ℕ) (h j : Holdings) : Type 0 where
  pub each : (name : List ℕ) → IsFolderAfter (folder_at h name) (folder_at j name) ⊎ ((a : IsAccepted octets h) × (name ≡ a.script.dataset) × (table_at j name ≡ table_at h name))
  pub firm : AreFirm h → (name : List ℕ) → table_at j name ≡ table_at h name

module _ {F : Type 0} where
  -- The table lists the batches that it listed, and behind them those that the lanes of a script flushed, in the order of the table: each
  -- flush that a lane was told of is among these. Behind them there may be one more, whole, of which a flush failed.
  pub record HasFlushed (rules : List Rule) (messages : List (List ℕ)) (s : Scripted) (before : ℕ) (ends : List (List (End F))) (t : List (List Pair)) (after : Option (List (List Pair))) : Type 0 where
    pub flushed : List (List Pair)
    pub legal : Legal rules messages t flushed s.lanes ends
    pub now : List (List Pair)
    pub after_is : after ≡ Some now
    pub are : AlikeTables now (t ++ flushed) ⊎ HasOneBehind now (t ++ flushed) (λ l. IsDoubt l before (all_acts rules messages legal.places s.lanes) ends)

module _ (F : Type 0) (s : Status) (output report : Object (List ℕ)) where
  -- The lanes ran of the script of the input, and their steps ended so, as the report was told. Of each other dataset this is what a crash
  -- before may have left; the script's has the batches of the flushes that ended as listed.
  pub record FoundPlayed (octets : List ℕ) (h j : Holdings) : Type 0 where
    pub rules : List Rule
    pub are : rules_of h.schema ≡ Ok rules
    pub script : Scripted
    pub messages : List (List ℕ)
    pub accepted : Accepted rules octets script messages
    pub before : ℕ
    pub ends : List (List (End F))
    pub writes : Writes (found_bytes ends) (transcript_text before script.lanes ends) (closing script.dataset ends) s
        output.before output.now output.faults_before output.faults_now report.before report.now report.faults_before report.faults_now
    pub others : (other : List ℕ) → other ≢ script.dataset → IsFolderAfter (folder_at h other) (folder_at j other)
    pub firm : AreFirm h → (other : List ℕ) → other ≢ script.dataset → table_at j other ≡ table_at h other
    pub flushed : (t : List (List Pair)) → table_at h script.dataset ≡ Some t → HasFlushed rules messages script before ends t (table_at j script.dataset)

  -- What is found of a session: the schema, and what it leaves where no lane ran, or where its lanes ran.
  pub record FoundOfSession (octets : List ℕ) (h j : Holdings) : Type 0 where
    pub schema : j.schema ≡ h.schema
    pub datasets : FoundIdle octets h j ⊎ FoundPlayed octets h j
