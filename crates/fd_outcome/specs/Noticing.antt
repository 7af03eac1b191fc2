-- What a command notices, whatever is damaged: what it says of the datasets that aren't, and that it reads nothing where the schema
-- doesn't let it.
use Rattle.std.specs.Prelude.{◌≡◌, ◌⊎◌, ℕ, List, [], option_map, Option, Some, None, IfSome, IsSome, Result, Ok, Err}
use Rattle.std.specs.Result.{IsErr}
use Rattle.std.specs.List.{AllZip, concat}
use Rattle.fd_disk.specs.Folders.{Holdings, folder_at}
use Rattle.fd_entries.specs.Batches.{newest}
use Rattle.fd_entries.specs.declared.batch.Pair.{Pair}
use Rattle.fd_recovery.specs.Crashing.{IsFirmTable}
use Rattle.fd_recovery.specs.Recovered.{IsUndamaged}
use Rattle.fd_request.specs.Expansion.{Keyword}
use Rattle.fd_schema.specs.Rules.{Rule, file_key}
use Rattle.fd_layers.specs.Tables.{laid}
use Rattle.fd_words.specs.declared.command.Command.{Command}
use Rattle.fd_words.specs.declared.command.Command.TheVariants as commands
use Rattle.fd_stored.specs.declared.status.Status.{Status}
use Rattle.fd_stored.specs.declared.status.Status.TheVariants.{Done, Missed}
use Rattle.fd_stored.specs.Causes.{Cause}
use Rattle.fd_stored.specs.Store.{AreNames, IsLookedAt, entries_in, table_at}
use Rattle.fd_outcome.specs.Asking.{Answer, Asked, Tables, ◌then◌, asked_of, partial_in, rules_of}
use Rattle.fd_outcome.specs.Layered.{Laid, laid_of, places_under, tables_at}
use Rattle.fd_outcome.specs.Objects.{IsCalm, Object}
use Rattle.fd_outcome.specs.Outcome.{answered, printed, stats_of}
use Rattle.fd_outcome.specs.Rows.{axes_text, list_text}
use Rattle.fd_outcome.specs.Ends.{Opens, Tells, WhereAsked}

-- ---- no damage is passed over

-- Of none of the datasets that the command opens the bytes of the table are none, or a file is absent, or is shorter than its entry
-- says, or an index hasn't the digest that its entry says.
abbrev pub AreUndamaged : Command → Holdings → List (List ℕ) → List ℕ → Type 0
AreUndamaged command h names input = (name : List ℕ) → Opens command h names input name → IsUndamaged name (folder_at h name)

-- ---- the answer to each key

-- a key is answered by the table of its dataset, where this is sound
pub record IsAnswer (tables : Tables) (a : Asked) (x : Answer) : Type 0 where
  pub key : x.key ≡ a.key
  pub found : IfSome (tables a.place.dataset) (λ t. x.found ≡ newest t (file_key a.place))

-- over layers, by the tables of its places, where all of these are
pub record IsLaidAnswer (tables : Tables) (a : Laid) (x : Answer) : Type 0 where
  pub key : x.key ≡ a.key
  pub found : IfSome (tables_at tables (places_under a)) (λ ts. x.found ≡ newest (laid ts) (file_key a.place))

-- each key has an answer, in the order of the request, and these are told
abbrev pub AnsweredEach : {A : Type 0} → (A → Answer → Type 0) → Result (List A) Cause → Status → Option (List ℕ) → Option (List ℕ) → Option (List ℕ) → Option (List ℕ) → Type 0
AnsweredEach IsOne (Ok asked) s a b c d = (xs : List Answer) × AllZip IsOne asked xs × Tells s (answered xs) a b c d
AnsweredEach IsOne (Err cause) s a b c d = ⊥

-- ---- the lines of each dataset

-- the text of a dataset, where it is sound
abbrev pub IsTextOf : (List ℕ → Option (List ℕ)) → List ℕ → List ℕ → Type 0
IsTextOf text name x = IfSome (text name) (λ y. x ≡ y)

-- each dataset has a text, in the order of the datasets, and these are printed
abbrev pub PrintedEach : (List ℕ → Option (List ℕ)) → List (List ℕ) → Status → Option (List ℕ) → Option (List ℕ) → Option (List ℕ) → Option (List ℕ) → Type 0
PrintedEach text names s a b c d = (xs : List (List ℕ)) × AllZip (IsTextOf text) names xs × Tells s (printed (concat xs)) a b c d

abbrev pub text_of : (List ℕ → List (List Pair) → List ℕ) → Holdings → List ℕ → Option (List ℕ)
text_of text h name = option_map (text name) (table_at h name)

abbrev pub stats_text_of : Holdings → List ℕ → Option (List ℕ)
stats_text_of h name = stats_of name (entries_in name (folder_at h name).table) (table_at h name)

abbrev pub PrintedEachOf : (List Keyword → List ℕ → List (List Pair) → List ℕ) → Holdings → Result (List Keyword) Cause → List (List ℕ) → Status → Option (List ℕ) → Option (List ℕ) → Option (List ℕ) → Option (List ℕ) → Type 0
PrintedEachOf text h (Ok keywords) names s a b c d = PrintedEach (text_of (text keywords) h) names s a b c d
PrintedEachOf text h (Err cause) names s a b c d = ⊥

-- ---- by the command

-- What a command that ends with 0 or 1 says also where a dataset that it opens is damaged: it has noticed the damages that an
-- opening can notice, so there are none of these; and what it has written is by each key, or by each dataset, what the sound datasets hold.
-- Of `cubes` it is said with its cubes.
abbrev pub Noticed : Command → Status → Holdings → List (List ℕ) → List ℕ → Option (List ℕ) → Option (List ℕ) → Option (List ℕ) → Option (List ℕ) → Type 0
Noticed (commands.Pick wanted) s h names input a b c d = Unit {0}
Noticed commands.Describe s h names input a b c d = Unit {0}
Noticed commands.Split s h names input a b c d = Unit {0}
Noticed (commands.Values decimals) s h names input a b c d = Unit {0}
Noticed (commands.Generate count) s h names input a b c d = Unit {0}
Noticed (commands.Create root) s h names input a b c d = Unit {0}
Noticed (commands.Archive root given workers) s h names input a b c d = AreUndamaged (commands.Archive root given workers) h names input
Noticed (commands.Retrieve root workers) s h names input a b c d = AreUndamaged (commands.Retrieve root workers) h names input × AnsweredEach (IsAnswer (table_at h)) (asked_of h input) s a b c d
Noticed (commands.RetrieveOver root layers workers) s h names input a b c d =
    AreUndamaged (commands.RetrieveOver root layers workers) h names input × AnsweredEach (IsLaidAnswer (table_at h)) (laid_of h layers input) s a b c d
Noticed (commands.List root) s h names input a b c d = AreUndamaged (commands.List root) h names input × PrintedEachOf list_text h (rules_of h.schema then λ rules. partial_in input) names s a b c d
Noticed (commands.Axes root) s h names input a b c d = AreUndamaged (commands.Axes root) h names input × PrintedEachOf axes_text h (rules_of h.schema then λ rules. partial_in input) names s a b c d
Noticed (commands.Stats root) s h names input a b c d = AreUndamaged (commands.Stats root) h names input × PrintedEach (stats_text_of h) names s a b c d
Noticed (commands.Cubes root) s h names input a b c d = Unit {0}
Noticed (commands.Session root) s h names input a b c d = Unit {0}
Noticed (commands.Purge root dataset) s h names input a b c d = Unit {0}
Noticed (commands.Wipe root dataset) s h names input a b c d = Unit {0}
Noticed (commands.Trial root count workers) s h names input a b c d = AreUndamaged (commands.Trial root count workers) h names input

-- the same, where the input and the store tell
abbrev pub Notices : Command → Status → Object Holdings → Object (List ℕ) → Object (List ℕ) → Object (List ℕ) → Type 0
Notices command s store input output report = (s ≡ Done) ⊎ (s ≡ Missed) → WhereAsked command input.before store.before store.now (λ octets h i. (names : List (List ℕ)) → AreNames h names
    → Noticed command s h names octets output.before output.now report.before report.now)

-- ---- what was answered outlasts a crash

-- Where a command that reads ends with 0 or 1, each dataset that it opened has a firm table, or none: so each store that a crash may
-- leave then has of these datasets what was answered from.
abbrev pub AnswersFirmly : Command → Status → Object Holdings → Object (List ℕ) → Type 0
AnswersFirmly command s store input = (s ≡ Done) ⊎ (s ≡ Missed) → WhereAsked command input.before store.before store.now (λ octets h i. (names : List (List ℕ)) → AreNames h names
    → (name : List ℕ) → Opens command h names octets name → IsFirmTable (folder_at i name).table)

-- the command answers from the datasets of the store; of `cubes` it isn't said
abbrev pub IsAnswering : Command → Type 0
IsAnswering (commands.Pick wanted) = ⊥
IsAnswering commands.Describe = ⊥
IsAnswering commands.Split = ⊥
IsAnswering (commands.Values decimals) = ⊥
IsAnswering (commands.Generate count) = ⊥
IsAnswering (commands.Create root) = ⊥
IsAnswering (commands.Archive root given workers) = ⊥
IsAnswering (commands.Retrieve root workers) = Unit {0}
IsAnswering (commands.RetrieveOver root layers workers) = Unit {0}
IsAnswering (commands.List root) = Unit {0}
IsAnswering (commands.Axes root) = Unit {0}
IsAnswering (commands.Stats root) = Unit {0}
IsAnswering (commands.Cubes root) = ⊥
IsAnswering (commands.Session root) = ⊥
IsAnswering (commands.Purge root dataset) = ⊥
IsAnswering (commands.Wipe root dataset) = ⊥
IsAnswering (commands.Trial root count workers) = ⊥

-- ---- schema before input

-- The schema that is stored doesn't let the command begin: there is one where `create` is to store one, or there is none, or one that
-- is none, for a command that reads its input for it.
abbrev pub IsUnfit : Command → Option (List ℕ) → Type 0
IsUnfit (commands.Pick wanted) schema = ⊥
IsUnfit commands.Describe schema = ⊥
IsUnfit commands.Split schema = ⊥
IsUnfit (commands.Values decimals) schema = ⊥
IsUnfit (commands.Generate count) schema = ⊥
IsUnfit (commands.Create root) schema = IsSome schema
IsUnfit (commands.Archive root given workers) schema = IsErr (rules_of schema)
IsUnfit (commands.Retrieve root workers) schema = IsErr (rules_of schema)
IsUnfit (commands.RetrieveOver root layers workers) schema = IsErr (rules_of schema)
IsUnfit (commands.List root) schema = IsErr (rules_of schema)
IsUnfit (commands.Axes root) schema = IsErr (rules_of schema)
IsUnfit (commands.Stats root) schema = ⊥
IsUnfit (commands.Cubes root) schema = IsErr (rules_of schema)
IsUnfit (commands.Session root) schema = IsErr (rules_of schema)
IsUnfit (commands.Purge root dataset) schema = ⊥
IsUnfit (commands.Wipe root dataset) schema = ⊥
IsUnfit (commands.Trial root count workers) schema = ⊥

-- nothing of the input was read
pub record IsUnread (input : Object (List ℕ)) : Type 0 where
  pub same : input.now ≡ input.before
  pub calm : IsCalm input

-- where the schema that is stored doesn't let the command begin, it reads nothing of the input
abbrev pub ReadsFitly : Command → Object Holdings → Object (List ℕ) → Type 0
ReadsFitly command store input = IfSome store.before (λ h. IsUnfit command h.schema → IsUnread input)
