-- What a command makes of its input and of the store: what it writes, and its status.
use Rattle.std.specs.Prelude.{ℕ, Bool, List, [], ◌∷◌, ◌++◌, codes, is_some, length, map, nat_lt, option_map, Option, Some, None, Result, Ok, Err, if◌then◌else◌}
use Rattle.std.specs.List.{concat, list_all, range_with_len}
use Rattle.fd_sections.specs.Message.{Sections, message_octets}
use Rattle.fd_key.specs.Pairs as keys
use Rattle.fd_disk.specs.Folders.{Holdings, folder_at}
use Rattle.fd_entries.specs.declared.batch.Pair.{Pair}
use Rattle.fd_entries.specs.declared.table.Entry.{Entry}
use Rattle.fd_schema.specs.Grammar as schemas
use Rattle.fd_schema.specs.Grammar.{schema_of}
use Rattle.fd_schema.specs.Rules.{Rule}
use Rattle.fd_request.specs.Expansion.{Keyword}
use Rattle.fd_gen.specs.Generated.{generated_octets}
use Rattle.fd_listing.specs.Lines.{line}
use Rattle.fd_words.specs.declared.command.Command.{Command}
use Rattle.fd_words.specs.declared.command.Command.TheVariants as commands
use Rattle.fd_outcome.specs.declared.listing.Listing.TheVariants as listings
use Rattle.fd_split.specs.declared.refusal.Refusal.{Refusal}
use Rattle.fd_stored.specs.declared.status.Status.{Status}
use Rattle.fd_stored.specs.declared.status.Status.TheVariants.{Done, Missed}
use Rattle.fd_stored.specs.Refusals.{refusal_line, refusal_status}
use Rattle.fd_stored.specs.Causes.{Cause, InSchema, SchemaPresent, telling}
use Rattle.fd_outcome.specs.Picking.{found}
use Rattle.fd_outcome.specs.Listed.{Listed, listed}
use Rattle.fd_outcome.specs.Splitting.{Split, octets_of, split_line, split_of}
use Rattle.fd_stored.specs.Store.{table_at, entries_in}
use Rattle.fd_outcome.specs.Asking.{Answer, Asked, rules_of, partial_in, asked_of, answers, found_bytes, miss_lines, counts_line, count_missed, ◌then◌}
use Rattle.fd_outcome.specs.Layered.{Laid, laid_answers, laid_of}
use Rattle.fd_stored.specs.Archiving.{Taken, taken, archived_line, datasets_in}
use Rattle.fd_outcome.specs.Trying.{tally_of, trial_answers, trial_given, trial_line, trial_rules}
use Rattle.fd_outcome.specs.Rows.{list_text, axes_text, stats_text}
use Rattle.fd_outcome.specs.Reclaiming.{purge_told, wipe_told}

-- what goes to the output, what goes to the report, and the status
pub record Outcome : Type 0 where
  pub output : List ℕ
  pub report : List ℕ
  pub status : Status

-- nothing but the line of a cause
abbrev pub refused : Cause → Outcome
refused cause = record { output = []; report = (telling cause).line; status = (telling cause).status }

-- `pick` writes the message that it found, and how many it found and missed
abbrev pub picked : Result (Option Sections) Refusal → Outcome
picked (Ok (Some m)) = record { output = message_octets m; report = line (codes "found 1 missed 0"); status = Done }
picked (Ok None) = record { output = []; report = line (codes "found 0 missed 1"); status = Missed }
picked (Err refusal) = record { output = []; report = refusal_line refusal; status = refusal_status refusal }

-- a listing writes its lines, and on the report only why the input is refused, if it is
abbrev pub refusal_lines : Option Refusal → List ℕ
refusal_lines None = []
refusal_lines (Some refusal) = refusal_line refusal

abbrev pub listing_status : Option Refusal → Status
listing_status None = Done
listing_status (Some refusal) = refusal_status refusal

abbrev pub told : Listed → Outcome
told x = record { output = x.lines; report = refusal_lines x.refusal; status = listing_status x.refusal }

-- `split` writes the fields, and tells how many they are and how many octets were skipped, or why the input is refused
abbrev pub split_report : Split → Option Refusal → List ℕ
split_report x None = split_line (length x.fields) x.junk
split_report x (Some refusal) = refusal_line refusal

abbrev pub parted : Split → Outcome
parted x = record { output = octets_of x.fields; report = split_report x x.refusal; status = listing_status x.refusal }

-- the first so many generated messages, one after the other
abbrev pub generated_messages : ℕ → List ℕ
generated_messages count = concat (map generated_octets (range_with_len 0 count))

-- `generate` writes them
abbrev pub generated : ℕ → Outcome
generated count = record { output = generated_messages count; report = []; status = Done }

-- ---- over a store

abbrev pub planted : List ℕ → Result (List Rule) schemas.Fault → Outcome
planted text (Ok rules) = record { output = []; report = line (codes "created"); status = Done }
planted text (Err fault) = refused (InSchema text fault)

-- `create` stores its input as the schema, where there is none
abbrev pub created : Option (List ℕ) → List ℕ → Outcome
created None input = planted input (schema_of input)
created (Some text) input = refused SchemaPresent

abbrev pub archive_ends : Taken → Option Cause → Outcome
archive_ends t None = record { output = []; report = archived_line t; status = Done }
archive_ends t (Some cause) = refused cause

-- `archive` tells how many messages it stored, or why the next one isn't
abbrev pub archived : List keys.Pair → Result (List Rule) Cause → List ℕ → Outcome
archived given (Ok rules) input = archive_ends (taken rules given input) (taken rules given input).refusal
archived given (Err cause) input = refused cause

-- none of these datasets is damaged
abbrev pub are_told : Holdings → List (List ℕ) → Bool
are_told h names = list_all (λ name. is_some (table_at h name)) names

abbrev pub trial_ends : Holdings → ℕ → Taken → Option Cause → Option Outcome
trial_ends h count t None =
    if are_told h (datasets_in t.stored) then Some (record { output = []; report = trial_line count (tally_of (trial_answers t.stored)); status = Done }) else None
trial_ends h count t (Some cause) = Some (refused cause)

-- `trial` stores generated messages, and tells how many of their keys it finds then, or why one isn't stored. Nothing is said
-- where a dataset of theirs is damaged.
abbrev pub tried : Holdings → ℕ → Result (List Rule) Cause → Option Outcome
tried h count (Ok rules) = trial_ends h count (taken rules trial_given (generated_messages count)) (taken rules trial_given (generated_messages count)).refusal
tried h count (Err cause) = Some (refused cause)

abbrev pub answered : List Answer → Outcome
answered xs = record {
  output = found_bytes xs;
  report = miss_lines xs ++ counts_line xs;
  status = if nat_lt 0 (count_missed xs) then Missed else Done;
}

-- `retrieve` writes what it finds, and a line for each miss. Nothing is said where a dataset that it opens is damaged.
abbrev pub retrieved : Holdings → Result (List Asked) Cause → Option Outcome
retrieved h (Ok asked) = option_map answered (answers (table_at h) asked)
retrieved h (Err cause) = Some (refused cause)

-- The same of a request over layers.
abbrev pub retrieved_over : Holdings → Result (List Laid) Cause → Option Outcome
retrieved_over h (Ok asked) = option_map answered (laid_answers (table_at h) asked)
retrieved_over h (Err cause) = Some (refused cause)

abbrev pub both : Option (List ℕ) → Option (List ℕ) → Option (List ℕ)
both (Some a) (Some b) = Some (a ++ b)
both (Some a) None = None
both None b = None

-- the lines of each dataset, where none is damaged
abbrev pub lines_of : (List ℕ → List (List Pair) → List ℕ) → Holdings → List (List ℕ) → Option (List ℕ)
lines_of text h [] = Some []
lines_of text h (name ∷ names) = both (option_map (text name) (table_at h name)) (lines_of text h names)

-- the line of a dataset that has a table
abbrev pub stats_of : List ℕ → Option (List Entry) → Option (List (List Pair)) → Option (List ℕ)
stats_of name (Some es) (Some t) = Some (stats_text name es t)
stats_of name (Some es) None = None
stats_of name None (Some t) = Some []
stats_of name None None = None

abbrev pub stats_lines : Holdings → List (List ℕ) → Option (List ℕ)
stats_lines h [] = Some []
stats_lines h (name ∷ names) = both (stats_of name (entries_in name (folder_at h name).table) (table_at h name)) (stats_lines h names)

abbrev pub printed : List ℕ → Outcome
printed lines = record { output = lines; report = []; status = Done }

-- `list` and `axes` print of the keys that a partial request asks for
abbrev pub printed_of : (List Keyword → List ℕ → List (List Pair) → List ℕ) → Holdings → List (List ℕ) → Result (List Keyword) Cause → Option Outcome
printed_of text h names (Ok keywords) = option_map printed (lines_of (text keywords) h names)
printed_of text h names (Err cause) = Some (refused cause)

abbrev pub stats_printed : Holdings → List (List ℕ) → Result (List Rule) Cause → Option Outcome
stats_printed h names (Ok rules) = option_map printed (stats_lines h names)
stats_printed h names (Err cause) = Some (refused cause)

-- a line on the report, or why there is none
abbrev pub reported : Result (List ℕ) Cause → Outcome
reported (Ok text) = record { output = []; report = text; status = Done }
reported (Err cause) = refused cause

-- `purge` and `wipe` tell what they make of the entries of one dataset
abbrev pub reclaimed : Result (List Rule) Cause → Option (Result (List ℕ) Cause) → Option Outcome
reclaimed (Ok rules) text = option_map reported text
reclaimed (Err cause) text = Some (refused cause)

-- What the command makes of its input and of what the store holds, whose datasets have these names. Nothing is said where
-- a dataset that it reads is damaged. What `session` and `cubes` make of them is said by itself, since it is no function of these alone.
abbrev pub outcome : Command → Holdings → List (List ℕ) → List ℕ → Option Outcome
outcome (commands.Pick wanted) h names input = Some (picked (found wanted input))
outcome commands.Describe h names input = Some (told (listed listings.Descriptions input))
outcome (commands.Values decimals) h names input = Some (told (listed (listings.Points decimals) input))
outcome commands.Split h names input = Some (parted (split_of input))
outcome (commands.Generate count) h names input = Some (generated count)
outcome (commands.Create root) h names input = Some (created h.schema input)
outcome (commands.Archive root given workers) h names input = Some (archived given (rules_of h.schema) input)
outcome (commands.Retrieve root workers) h names input = retrieved h (asked_of h input)
outcome (commands.RetrieveOver root layers workers) h names input = retrieved_over h (laid_of h layers input)
outcome (commands.List root) h names input = printed_of list_text h names (rules_of h.schema then λ rules. partial_in input)
outcome (commands.Axes root) h names input = printed_of axes_text h names (rules_of h.schema then λ rules. partial_in input)
outcome (commands.Stats root) h names input = stats_printed h names (rules_of h.schema)
outcome (commands.Cubes root) h names input = None
outcome (commands.Session root) h names input = None
outcome (commands.Purge root dataset) h names input = reclaimed (rules_of h.schema) (purge_told dataset (folder_at h dataset))
outcome (commands.Wipe root dataset) h names input = reclaimed (rules_of h.schema) (wipe_told dataset (folder_at h dataset))
outcome (commands.Trial root count workers) h names input = tried h count (trial_rules h.schema)

-- What the command may have written, or fronts of it, where it stops before its end: `retrieve` of what it finds and of
-- the lines of its misses; a listing of its lines; `split` of its fields; `generate` of its messages; `pick`, `create`, `archive`, `trial`, `purge` and `wipe` nothing.
pub record Early : Type 0 where
  pub output : List ℕ
  pub report : List ℕ

abbrev pub nothing_early : Early
nothing_early = record { output = []; report = [] }

abbrev pub lines_early : List ℕ → Early
lines_early lines = record { output = lines; report = [] }

abbrev pub answered_early : Option (List Answer) → Early
answered_early (Some xs) = record { output = found_bytes xs; report = miss_lines xs }
answered_early None = nothing_early

abbrev pub retrieved_early : Holdings → Result (List Asked) Cause → Early
retrieved_early h (Ok asked) = answered_early (answers (table_at h) asked)
retrieved_early h (Err cause) = nothing_early

abbrev pub over_early : Holdings → Result (List Laid) Cause → Early
over_early h (Ok asked) = answered_early (laid_answers (table_at h) asked)
over_early h (Err cause) = nothing_early

abbrev pub output_early : Option Outcome → Early
output_early (Some o) = lines_early o.output
output_early None = nothing_early

abbrev pub early : Command → Holdings → List (List ℕ) → List ℕ → Early
early (commands.Pick wanted) h names input = nothing_early
early commands.Describe h names input = lines_early (listed listings.Descriptions input).lines
early (commands.Values decimals) h names input = lines_early (listed (listings.Points decimals) input).lines
early commands.Split h names input = lines_early (octets_of (split_of input).fields)
early (commands.Generate count) h names input = lines_early (generated_messages count)
early (commands.Create root) h names input = nothing_early
early (commands.Archive root given workers) h names input = nothing_early
early (commands.Retrieve root workers) h names input = retrieved_early h (asked_of h input)
early (commands.RetrieveOver root layers workers) h names input = over_early h (laid_of h layers input)
early (commands.List root) h names input = output_early (outcome (commands.List root) h names input)
early (commands.Axes root) h names input = output_early (outcome (commands.Axes root) h names input)
early (commands.Stats root) h names input = output_early (outcome (commands.Stats root) h names input)
early (commands.Cubes root) h names input = nothing_early
early (commands.Session root) h names input = nothing_early
early (commands.Purge root dataset) h names input = nothing_early
early (commands.Wipe root dataset) h names input = nothing_early
early (commands.Trial root count workers) h names input = nothing_early
