-- What stands for keys, as a command lists it.
use Rattle.std.specs.Prelude.{ℕ, List}
use Rattle.fd_disk.specs.Folders.{Holdings}
use Rattle.fd_entries.specs.declared.batch.Pair.{Pair}
use Rattle.fd_request.specs.Expansion.{Keyword}
use Rattle.fd_words.specs.declared.command.Command.{Command}
use Rattle.fd_words.specs.declared.command.Command.TheVariants as commands
use Rattle.fd_stored.specs.declared.status.Status.{Status}
use Rattle.fd_outcome.specs.Noticing.{AnswersFirmly, Notices, ReadsFitly}
use Rattle.fd_outcome.specs.Objects.{Object}
use Rattle.fd_outcome.specs.Ran.{Ran}
use Rattle.fd_outcome.specs.Rows.{axes_text, list_text}
use Rattle.fd_contents.specs.declared.lines.KeyLines.{KeyLines}
use Rattle.fd_contents.specs.declared.lines.KeyLines.TheVariants as kinds
use Rattle.fd_contents.specs.declared.lines.Lines.{Lines}
use Rattle.fd_contents.specs.declared.lines.Lines.TheVariants as lines
use Rattle.fd_contents.specs.Recorded.{ListsRecords}

-- the command that writes such lines
abbrev pub command_with : KeyLines → List ℕ → Command
command_with kinds.List root = commands.List root
command_with kinds.Axes root = commands.Axes root

-- what is written of the keys of a dataset that are asked for
abbrev pub keys_text : KeyLines → List Keyword → List ℕ → List (List Pair) → List ℕ
keys_text kinds.List = list_text
keys_text kinds.Axes = axes_text

-- the lines of the keys that a partial request asks for
abbrev pub lines_with : KeyLines → List Keyword → Lines
lines_with kinds.List keywords = lines.List keywords
lines_with kinds.Axes keywords = lines.Axes keywords

-- What a command has done that lists what stands for the keys that are asked for, as this text says it of a dataset: it ran; at 0
-- none of what it listed was damaged, all tables are firm, and the text is that of the indexes' records; and it reads nothing of
-- its input where the store has no schema, or one that is none.
pub record Lists (command : Command) (text : List Keyword → List ℕ → List (List Pair) → List ℕ) (s : Status) (store : Object Holdings) (input output report : Object (List ℕ)) : Type 0 where
  pub ran : Ran command s store input output report
  pub notices : Notices command s store input output report
  pub firm : AnswersFirmly command s store input
  pub recorded : ListsRecords text s input.before store.before output
  pub unread : ReadsFitly command store input
