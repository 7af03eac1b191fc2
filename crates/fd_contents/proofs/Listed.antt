-- Both commands that list what stands for keys.
use Rattle.std.proofs.Common.{◌≡◌, ◌≤◌, ℕ, List, [], Option, Some, inl}
use Rattle.std.specs.Prelude.{◌⊎◌, IfSome, Ok, Err}
use Rattle.std.specs.Result.{IsErr}
use Rattle.fd_bytes.specs.Causes.{Rose}
use Rattle.fd_disk.specs.Folders.{Holdings, WhereTold}
use Rattle.fd_request.specs.Expansion.{Keyword}
use Rattle.fd_stored.specs.declared.status.Status.{Status}
use Rattle.fd_stored.specs.declared.status.Status.TheVariants.{Done, Missed}
use Rattle.fd_words.specs.declared.command.Command.TheVariants as commands
use Rattle.fd_outcome.specs.Asking.{rules_of}
use Rattle.fd_outcome.specs.Noticing.{IsUnread}
use Rattle.fd_outcome.specs.Objects.{Failed, IsCalm, Object, object}
use Rattle.fd_outcome.specs.Outcome.{outcome, refused}
use Rattle.fd_outcome.specs.Ran.{Ran}
use Rattle.fd_stored.specs.Store.{IsLookedThrough}
use Rattle.fd_telling.specs.declared.stop.Stop.{Stop}
use Rattle.fd_telling.specs.Stops.{OnDisk, OnInput, OnRefusal, ToldStop}
use Rattle.fd_contents.specs.declared.lines.KeyLines.{KeyLines}
use Rattle.fd_contents.specs.declared.lines.KeyLines.TheVariants as kinds
use Rattle.fd_contents.specs.Asked.{Begins, IsEarly, Refuses, asked_in}
use Rattle.fd_contents.specs.Listing.{Lists, command_with, keys_text, lines_with}
use Rattle.fd_contents.specs.Printed.{PrintsAll}
use Rattle.fd_contents.proofs.Exits.{axes_opens, axes_prints, axes_refused, both_at, list_opens, list_prints, list_refused, stopped}
use Rattle.fd_contents.proofs.Firmly.{NamesFirm, axes_firm, list_firm}
use Rattle.fd_contents.proofs.Noticed.{axes_notices, axes_records, list_notices, list_records}
use Rattle.fd_contents.proofs.Partial.{refuses_more}
use Rattle.fd_contents.proofs.Whole.{stop_whole}

-- these keywords are asked for, where the store and the input tell
abbrev pub Asks : Option Holdings → Option (List ℕ) → List Keyword → Type 0
Asks has left keywords = IfSome has (λ h. IfSome left (λ octets. asked_in h octets ≡ Ok keywords))

-- nothing was read of the input where the schema lets nothing begin
abbrev pub Unfit : Option Holdings → Object (List ℕ) → Type 0
Unfit has input = IfSome has (λ h. IsErr (rules_of h.schema) → IsUnread input)

-- the lines begin
pub begins : (kind : KeyLines) (root : List ℕ) (keywords : List Keyword) (before now : Option Holdings) (m n : ℕ) (input : Object (List ℕ)) → Asks before input.before keywords → now ≡ before → m ≤ n → IsCalm input → IfSome input.before (λ octets. input.now ≡ Some [])
    → Begins (command_with kind root) (lines_with kind keywords) before now m n input
begins kinds.List root keywords before now m n input asked same later calm read = record {
  is_listing = tt;
  prints = λ octets h d e names. list_prints root octets h keywords (both_at before input.before (λ octets h. asked_in h octets ≡ Ok keywords) asked octets h d e) names;
  opens = λ octets h d e names name there. list_opens root octets h keywords (both_at before input.before (λ octets h. asked_in h octets ≡ Ok keywords) asked octets h d e) names name there;
  same = same;
  later = later;
  calm = calm;
  read = read;
}
begins kinds.Axes root keywords before now m n input asked same later calm read = record {
  is_listing = tt;
  prints = λ octets h d e names. axes_prints root octets h keywords (both_at before input.before (λ octets h. asked_in h octets ≡ Ok keywords) asked octets h d e) names;
  opens = λ octets h d e names name there. axes_opens root octets h keywords (both_at before input.before (λ octets h. asked_in h octets ≡ Ok keywords) asked octets h d e) names name there;
  same = same;
  later = later;
  calm = calm;
  read = read;
}

-- all lines were written, or why not was told
pub lists_by : (kind : KeyLines) (root : List ℕ) (keywords : List Keyword) (before first now : Option Holdings) (sm sn : ℕ) (input output report : Object (List ℕ)) (result : Status) (same : first ≡ before) → Asks before input.before keywords
    → ((result ≡ Done) ⊎ (result ≡ Missed) → PrintsAll (lines_with kind keywords) result first output report) → ((result ≡ Done) ⊎ (result ≡ Missed) → NamesFirm first now) → Unfit before input
    → Ran (command_with kind root) result (object before now sm sn) input output report → Lists (command_with kind root) (keys_text kind) result (object before now sm sn) input output report
lists_by kinds.List root keywords before first now sm sn input output report result same asked prints firm unread ran = record {
  ran = ran;
  notices = list_notices before first now sm sn input output report result same root keywords asked prints;
  firm = list_firm root result (object before now sm sn) first same firm input;
  recorded = list_records before first now sm sn input output report result same keywords asked prints;
  unread = unread;
}
lists_by kinds.Axes root keywords before first now sm sn input output report result same asked prints firm unread ran = record {
  ran = ran;
  notices = axes_notices before first now sm sn input output report result same root keywords asked prints;
  firm = axes_firm root result (object before now sm sn) first same firm input;
  recorded = axes_records before first now sm sn input output report result same keywords asked prints;
  unread = unread;
}

-- ---- nothing is listed

module _ {A : Type 0} (stop : Stop A) (root : List ℕ) (before now : Option Holdings) (sm sn : ℕ) (input : Object (List ℕ)) (a : Option (List ℕ)) (k : ℕ) (report : Object (List ℕ)) (result : Status) (looks : WhereTold before now IsLookedThrough)
    (told : ToldStop stop result report.before report.now report.faults_before report.faults_now) (soon : IsEarly stop) (refuses : IfSome before (λ h. IfSome input.before (λ octets. Refuses stop (λ cause. asked_in h octets ≡ Err cause))))
    (rose : OnInput stop (Failed input)) (disk : OnDisk stop (Rose sm sn)) (calm : OnRefusal stop (IsCalm input)) where
  refuses_at : (octets : List ℕ) (h : Holdings) → input.before ≡ Some octets → before ≡ Some h → Refuses stop (λ cause. asked_in h octets ≡ Err cause)
  refuses_at = both_at before input.before (λ octets h. Refuses stop (λ cause. asked_in h octets ≡ Err cause)) refuses

  stopped_by : (kind : KeyLines) → Ran (command_with kind root) result (object before now sm sn) input (object a a k k) report
  stopped_by kinds.List = stopped (commands.List root) tt before now sm sn input a k report result looks stop told soon
      (λ octets h d e. refuses_more stop (λ cause. asked_in h octets ≡ Err cause) (λ cause. (names : List (List ℕ)) → outcome (commands.List root) h names octets ≡ Some (refused cause)) (list_refused root octets h) (refuses_at octets h d e)) rose disk calm
  stopped_by kinds.Axes = stopped (commands.Axes root) tt before now sm sn input a k report result looks stop told soon
      (λ octets h d e. refuses_more stop (λ cause. asked_in h octets ≡ Err cause) (λ cause. (names : List (List ℕ)) → outcome (commands.Axes root) h names octets ≡ Some (refused cause)) (axes_refused root octets h) (refuses_at octets h d e)) rose disk calm

  never : (P : Type 0) → (result ≡ Done) ⊎ (result ≡ Missed) → P
  never P whole = stop_whole P result report.before report.now report.faults_before report.faults_now stop told whole

  -- why nothing is listed was told
  pub lists_none : (kind : KeyLines) → Unfit before input → Lists (command_with kind root) (keys_text kind) result (object before now sm sn) input (object a a k k) report
  lists_none kinds.List unread = record {
    ran = stopped_by kinds.List;
    notices = λ whole. never _ whole;
    firm = λ whole. never _ whole;
    recorded = λ done. never _ (inl done);
    unread = unread;
  }
  lists_none kinds.Axes unread = record {
    ran = stopped_by kinds.Axes;
    notices = λ whole. never _ whole;
    firm = λ whole. never _ whole;
    recorded = λ done. never _ (inl done);
    unread = unread;
  }
